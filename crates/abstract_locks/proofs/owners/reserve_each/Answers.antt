use Rattle.std.proofs.Common.{◌∙◌, ◌<◌, length, arith, subst, sym}
use Rattle.std.proofs.lemmas.List.{length-set}
use Rattle.std.proofs.lemmas.List.Elements.{AllWithin-more_set}
use Rattle.abstract_locks.specs.Owners.{Listed, IsKept}
use Rattle.abstract_locks.proofs.Listing.{kept_set, listed_is}
use Rattle.abstract_locks.proofs.owners.reserve_each.Goals as goal

pub loop-list-preserved : goal.loop-list-preserved
loop-list-preserved c =
    let now = c.loop-list.lists in
    let i = c.loop-list.list-index in
    let new = c.reserve.new.self in
    let lt : i < length now = omega arith in
    record {
      kept = kept_set c.args.lists.now now i new c.loop-list.invariant.kept lt
          (subst (λ l. IsKept l new)
          (sym c.list-item.is ∙ listed_is now i c.list-item.result lt c.list-item.is)
          c.reserve.ensures.kept);
      len = length-set now i new ∙ c.loop-list.invariant.len;
      room = AllWithin-more_set now i new lt (λ (l : Listed). 0 < l.room)
          c.loop-list.invariant.room c.in_ok-reserve.ensures.room;
    }

pub returns-in_err-reserve-clause-kept : goal.returns-in_err-reserve-clause-kept
returns-in_err-reserve-clause-kept c =
    let now = c.loop-list.lists in
    let i = c.loop-list.list-index in
    let new = c.reserve.new.self in
    let lt : i < length now = omega arith in
    kept_set c.args.lists.now now i new c.loop-list.invariant.kept lt
    (subst (λ l. IsKept l new)
    (sym c.list-item.is ∙ listed_is now i c.list-item.result lt c.list-item.is)
    c.reserve.ensures.kept)
