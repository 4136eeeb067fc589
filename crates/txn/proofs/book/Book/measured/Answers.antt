use Rattle.std.proofs.Common.{◌<◌, length, sym, subst}
use Rattle.steps.specs.Wholes.{contents}
use Rattle.txn.proofs.Copying.{as_many}
use Rattle.txn.proofs.book.Book.measured.Goals as goal

pub measured-requires : goal.measured-requires
measured-requires g c =
    let i = c.self.inside in
    subst (λ n. c.args.at < n)
    (sym (as_many g.B.Part.Part.collection g.met.B.Parts.shelf_laws i.journal.names
    (contents i.shelves) c.self.invariant.joined.fit))
    (subst (λ b. c.args.at < length (g.B.Parts.collections b.state.now)) (sym c.self.view_is)
    c.requires)

pub returns-clause-ok : goal.returns-clause-ok
returns-clause-ok g c = rw (← c.self.view_is)
    (c.measured.ensures.ok c.self.inside.shelves c.self.invariant c.of.ensures)

pub returns-clause-refusal : goal.returns-clause-refusal
returns-clause-refusal g c =
    c.measured.ensures.refusal c.self.inside.shelves c.self.invariant c.of.ensures
