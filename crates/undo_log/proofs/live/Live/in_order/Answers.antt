use Rattle.std.proofs.Common.{◌∙◌, ◌≡◌, ◌++◌, sym, map, ap, subst, append-nil, rules}
use Rattle.std.specs.List.Sorted.{IsNonDecreasing}
use Rattle.std.proofs.lemmas.List.Sorted.{IsNonDecreasingBy-from_sort_by_key, IsPermutation-map}
use Rattle.std.proofs.lemmas.Simd.{map-map}
use Rattle.undo_log.specs.declared.logged.Owned.{Owned}
use Rattle.undo_log.specs.Logs.{Log}
use Rattle.undo_log.specs.Stamps.{Mark, mark_of, all_marks}
use Rattle.undo_log.proofs.Marks.{told}
use Rattle.undo_log.proofs.Sorting.{tell, tell_all, sorted_merged, mapped_rises}
use Rattle.undo_log.proofs.live.Live.in_order.Goals as goal

pub returns-clause-ok : goal.returns-clause-ok
returns-clause-ok c =
    let s = c.self.inside.table.slots in
    let listed = c.loop-transaction.all.items in
    let sorted = c.sort_unstable_by_key.new.self.items in
    let up = IsNonDecreasingBy-from_sort_by_key (λ (o : Owned). o.stamp) sorted
    c.sort_unstable_by_key.ensures.sorted (λ a r q k. search rules) in
    let is : map mark_of listed ≡ all_marks s.slots =
    sym (append-nil (map mark_of listed))
    ∙ ap (λ l. map mark_of listed ++ tell l) (sym c.in-None.ensures.steps.0)
    ∙ c.loop-transaction.invariant.2
    ∙ ap tell (c.into_iter-transaction-iterator.ensures.into_iter_gives ∙
    c.iter-transaction-items.ensures.rest)
    ∙ tell_all s in
    sym (map-map (λ (m : Mark). m.1) mark_of sorted)
    ∙ ap told (sorted_merged s c.self.invariant.0 c.self.invariant.1.each (map mark_of listed)
    (map mark_of sorted) is
    (IsPermutation-map mark_of listed sorted c.sort_unstable_by_key.ensures.permutation)
    (subst IsNonDecreasing (sym (map-map (λ (m : Mark). m.0) mark_of sorted))
    (mapped_rises (λ (o : Owned). o.stamp) sorted up)))
    ∙ ap (λ log. let l : Log = log in l.entries) c.self.view_is
