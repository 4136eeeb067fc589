use Rattle.std.proofs.Common.{◌≡◌, suc, ◌+◌, [], ◌∷◌, ◌++◌, take, sym, subst}
use Rattle.std.proofs.Common.{arith}
use Rattle.std.specs.List.{AllZip}
use Rattle.catalog.specs.Holdings.{Measures}
use Rattle.txn.proofs.Measuring.{one_more}
use Rattle.txn.proofs.book.Book.measure.Goals as goal

pub loop-at-preserved : goal.loop-at-preserved
loop-at-preserved g c =
    let s = g.B.Parts.collections c.args.self.now.state.now in
    let next : suc c.loop-at.at ≡ c.loop-at.at + 1 = omega arith in
    subst (AllZip Measures (take (c.loop-at.at + 1) s)) (sym c.in_ok-push.ensures.items)
    (subst (λ n. AllZip Measures (take n s)
    (c.loop-at.all.items ++ c.in_ok-measured.field-0 ∷ [])) next
    (one_more s c.loop-at.all.items c.loop-at.at c.in_ok-measured.field-0
    c.loop-at.invariant c.in_ok-measured.ensures.ok))
