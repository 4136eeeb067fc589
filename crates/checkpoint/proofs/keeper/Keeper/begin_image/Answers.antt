use Rattle.std.proofs.Common.{ℕ, refl, subst, Ok, Err}
use Rattle.std.proofs.lemmas.Result.{err_from_is_err_and}
use Rattle.calls.specs.declared.refusal.Refusal.{Refusal}
use Rattle.checkpoint.specs.Imaging.{IsTooLong}
use Rattle.checkpoint.proofs.Beginning.{unasked}
use Rattle.checkpoint.proofs.Blocks.{not_too_long, shorter}
use Rattle.checkpoint.proofs.ImageKeeping.{begin_keeps}
use Rattle.checkpoint.proofs.keeper.Keeper.begin_image.Goals as goal

pub returns-then-self-clause-crash : goal.returns-then-self-clause-crash
returns-then-self-clause-crash g c = rw (← c.self.view_is) (begin_keeps g.D.Disk _ _
    (g.met.D.Disk.only_now c.self.inside.disk) (g.met.D.Disk.counts_now c.self.inside.disk)
    c.args.image c.args.behind c.requires.some (Err Refusal.Failed) (c.if-self.true, refl))

pub returns-in_err-ask_for-clause-answer : goal.returns-in_err-ask_for-clause-answer
returns-in_err-ask_for-clause-answer g c =
    let p = err_from_is_err_and c.from_residual.result c.from_residual.ensures.1 in
    rw (← c.self.view_is, p.1, p.2) (unasked _ c.args.image c.args.behind c.in_err-ask_for.field-0.0
    c.if-self.false c.in_err-ask_for.ensures)

pub returns-in_err-ask_for-clause-crash : goal.returns-in_err-ask_for-clause-crash
returns-in_err-ask_for-clause-crash g c =
    let p = err_from_is_err_and c.from_residual.result c.from_residual.ensures.1 in
    let e = c.in_err-ask_for.field-0.0 in
    rw (← c.self.view_is, p.1) (begin_keeps g.D.Disk _ _
    (g.met.D.Disk.only_now c.self.inside.disk) (g.met.D.Disk.counts_now c.self.inside.disk)
    c.args.image c.args.behind c.requires.some (Err e)
    (unasked _ c.args.image c.args.behind e c.if-self.false c.in_err-ask_for.ensures))

pub returns-then-is_too_long-clause-answer : goal.returns-then-is_too_long-clause-answer
returns-then-is_too_long-clause-answer g c = rw (← c.self.view_is) (
  c.if-self.false,
  c.in_ok-ask_for.ensures,
  subst (λ (n : ℕ). IsTooLong n c.args.image.blocks.items) (shorter c.saturating_sub.result _ c.size.result c.args.behind c.saturating_sub.ensures
      c.size.ensures) (c.if-is_too_long.ensures.0 refl),
  refl,
)

pub returns-then-is_too_long-clause-crash : goal.returns-then-is_too_long-clause-crash
returns-then-is_too_long-clause-crash g c = rw (← c.self.view_is) (begin_keeps g.D.Disk _ _
    (g.met.D.Disk.only_now c.self.inside.disk) (g.met.D.Disk.counts_now c.self.inside.disk)
    c.args.image c.args.behind c.requires.some (Err Refusal.Full) (
      c.if-self.false,
      c.in_ok-ask_for.ensures,
      subst (λ (n : ℕ). IsTooLong n c.args.image.blocks.items) (shorter c.saturating_sub.result _ c.size.result c.args.behind
          c.saturating_sub.ensures c.size.ensures) (c.if-is_too_long.ensures.0 refl),
      refl,
    ))

pub returns-clause-answer : goal.returns-clause-answer
returns-clause-answer g c = rw (← c.self.view_is) (
  c.if-self.false,
  c.in_ok-ask_for.ensures,
  (
    not_too_long c.is_too_long.result _ c.saturating_sub.result c.args.image.blocks.items
        (shorter c.saturating_sub.result _ c.size.result c.args.behind c.saturating_sub.ensures
        c.size.ensures) c.is_too_long.ensures c.if-is_too_long.false,
    (c.other_area-area.result, c.other_area-area.ensures, refl),
  ),
)

pub returns-clause-crash : goal.returns-clause-crash
returns-clause-crash g c = rw (← c.self.view_is) (begin_keeps g.D.Disk _ _
    (g.met.D.Disk.only_now c.self.inside.disk) (g.met.D.Disk.counts_now c.self.inside.disk)
    c.args.image c.args.behind c.requires.some (Ok tt) (
      c.if-self.false,
      c.in_ok-ask_for.ensures,
      (
        not_too_long c.is_too_long.result _ c.saturating_sub.result c.args.image.blocks.items
            (shorter c.saturating_sub.result _ c.size.result c.args.behind
            c.saturating_sub.ensures c.size.ensures) c.is_too_long.ensures
            c.if-is_too_long.false,
        (c.other_area-area.result, c.other_area-area.ensures, refl),
      ),
    ))
