use Rattle.std.proofs.Common.{rules, ap, refl, sym, subst, arith}
use Rattle.atomic_table.specs.Table.{keeps}
use Rattle.group_commit.specs.declared.view.View.{View}
use Rattle.group_commit.specs.Histories.{SeatView, IsTold, tallied}
use Rattle.group_commit.proofs.Moves.{tallies, told_none}
use Rattle.group_commit.proofs.line.Line.tally_alone.Goals as goal

pub fetch_add-requires : goal.fetch_add-requires
fetch_add-requires g c =
    let v = c.book.inside.seat.me.0 in
    let is = ap (λ (m : SeatView). m.0) c.book.invariant in
    let step = g.W.OneStep.step in (
      search rules,
      omega (arith, c.self.invariant),
      λ s k len at lt.
          let told : IsTold step v.parties =
          subst (λ (u : View). IsTold step u.parties) (sym is)
          (told_none step c.requires.step) in
          let next = tallies s.views k c.book.inside.seat.id v at (ap (λ (u : View). u.keeps) is)
          step told in
          (tallied step v, keeps, tt, next.0, (refl, next.1, refl)),
    )
