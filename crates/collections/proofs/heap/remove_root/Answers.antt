use Rattle.std.proofs.Common.{◌<◌, ◌∷◌, ◌∙◌, sym, subst, arith, IsPermutation, get_or, length}
use Rattle.std.proofs.lemmas.List.{get_or_default}
use Rattle.std.proofs.lemmas.List.Sorted.{IsPermutation-trans, IsPermutation-cons}
use Rattle.std.proofs.lemmas.List.Sorted.{IsPermutation-swap_remove}
use Rattle.collections.proofs.Sifts.{whole}
use Rattle.collections.proofs.heap.remove_root.Goals as goal

pub returns-clause-others : goal.returns-clause-others
returns-clause-others c d =
    let old = c.args.holders.now.items in
    let root = c.swap_remove.result in
    let new = c.sink.new.holders in
    let some : 0 < length old = omega arith in
    let moved : IsPermutation old (root ∷ new) =
    IsPermutation-trans _ _ _ (IsPermutation-swap_remove old 0 root some
    c.swap_remove.ensures.value)
    (IsPermutation-cons root _ _ (subst (λ l. IsPermutation l new)
    (c.deref_mut.ensures.value ∙ c.swap_remove.ensures.items) c.sink.ensures.same)) in
    subst (λ l. IsPermutation old (get_or old 0 d ∷ l)) (sym (whole _ new _ (omega arith)))
    (subst (λ x. IsPermutation old (x ∷ new))
    (c.swap_remove.ensures.value ∙ get_or_default old 0 root d some) moved)
