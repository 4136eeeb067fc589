use Rattle.std.proofs.Common.{◌≡◌, suc, ◌+◌, [], ◌∷◌, ◌++◌, take, sym, ap, ◌∙◌, subst, arith}
use Rattle.std.specs.List.{AllZip}
use Rattle.catalog.specs.Fours.{which_of}
use Rattle.catalog.specs.Holdings.{Measures}
use Rattle.steps.specs.Wholes.{contents}
use Rattle.txn.proofs.Measuring.{one_more}
use Rattle.desks.proofs.status.measure.Goals as goal

pub loop-at-preserved : goal.loop-at-preserved
loop-at-preserved g c f book same =
    let s = g.B.Parts.collections (g.B.Parts.whole c.args.journal.now.names (contents f)) in
    let next : suc c.loop-at.at ≡ c.loop-at.at + 1 = omega arith in
    subst (AllZip Measures (take (c.loop-at.at + 1) s)) (sym c.in_ok-push.ensures.items)
    (subst (λ n. AllZip Measures (take n s)
    (c.loop-at.all.items ++ c.in_ok-measured.field-0 ∷ [])) next
    (one_more s c.loop-at.all.items c.loop-at.at c.in_ok-measured.field-0
    (c.loop-at.invariant f book same) (c.in_ok-measured.ensures.ok f book
    (ap (λ r. r.now) c.of.ensures ∙ same (which_of c.loop-at.at)))))
