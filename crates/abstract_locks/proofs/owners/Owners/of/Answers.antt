use Rattle.std.proofs.Common.{◌∙◌, ap}
use Rattle.abstract_locks.specs.Owners.{Listed}
use Rattle.abstract_locks.proofs.Gathered.{in_none}
use Rattle.abstract_locks.proofs.Listing.{holds_of, nothing_of}
use Rattle.abstract_locks.proofs.owners.Owners.of.Goals as goal

pub returns-in-Ok : goal.returns-in-Ok
returns-in-Ok c =
    let own = c.self.inside in
    let x = c.index.result.now in
    let found = rw c.deref.ensures.value at c.in-Ok.ensures in
    rw (← c.self.view_is, c.holds.ensures)
    (holds_of own.lists.items own.spares.items _ own.is_ready c.self.invariant c.in-Ok.place x
    found.0 c.index.ensures c.args.owner (ap (λ (l : Listed). l.owner) c.index.ensures ∙ found.1 x))

pub returns-in-Err : goal.returns-in-Err
returns-in-Err c =
    let own = c.self.inside in
    let gap = rw c.deref.ensures.value at c.in-Err.ensures in
    rw (← c.self.view_is)
    (λ h. (
      λ there. in_none h there,
      λ both. absurd (nothing_of own.lists.items own.spares.items _ own.is_ready c.self.invariant
          c.args.owner c.in-Err.field-0 gap h both.0 both.1),
    ))
