use Rattle.std.proofs.Common.{◌∷◌, ◌∙◌, sym, subst, arith, IsPermutation}
use Rattle.std.proofs.lemmas.List.Sorted.{IsPermutation-trans, IsPermutation-sym}
use Rattle.std.proofs.lemmas.List.Sorted.{IsPermutation-to_front}
use Rattle.collections.specs.Holders.{live}
use Rattle.collections.proofs.Sifts.{whole}
use Rattle.collections.proofs.heap.push.Goals as goal

pub returns-clause-added : goal.returns-clause-added
returns-clause-added c =
    let old = c.args.holders.now.items in
    let x = live c.args.priority c.args.tag in
    let new = c.rise.new.holders in
    subst (IsPermutation (x ∷ old)) (sym (whole _ new _ (omega arith)))
    (IsPermutation-trans _ _ _ (IsPermutation-sym _ _ (IsPermutation-to_front old x))
    (subst (λ l. IsPermutation l new) (c.deref_mut.ensures.value ∙ c.in_ok-push.ensures.items)
    c.rise.ensures.same))
