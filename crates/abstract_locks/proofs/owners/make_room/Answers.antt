use Rattle.std.proofs.Common.{◌∙◌, subst}
use Rattle.std.proofs.lemmas.List.{with_items_is}
use Rattle.abstract_locks.specs.Owners.{AreKept}
use Rattle.abstract_locks.proofs.owners.make_room.Goals as goal

pub returns-in_err-reserve_each-clause-kept : goal.returns-in_err-reserve_each-clause-kept
returns-in_err-reserve_each-clause-kept c =
    rw (with_items_is c.args.lists.now c.reserve_each.new.lists
    (c.reserve_each.ensures.len ∙ c.deref_mut.ensures.len))
    (subst (λ l. AreKept l c.reserve_each.new.lists) c.deref_mut.ensures.value
    c.reserve_each.ensures.kept)

pub returns-clause-kept : goal.returns-clause-kept
returns-clause-kept c =
    rw (
      c.reserve.ensures.items,
      with_items_is c.args.lists.now c.reserve_each.new.lists
          (c.reserve_each.ensures.len ∙ c.deref_mut.ensures.len),
    )
    (subst (λ l. AreKept l c.reserve_each.new.lists) c.deref_mut.ensures.value
    c.reserve_each.ensures.kept)
