use Rattle.std.proofs.Common.{◌≡◌, inl, inr, [], sym, subst}
use Rattle.std.proofs.lemmas.Result.{err_from_is_err_and}
use Rattle.world.specs.Moves.{Whole}
use Rattle.recovery.specs.Refusals.{OpeningLeaves}
use Rattle.recovery.proofs.RefusalLemmas.{refused_opening, only_opened}
use Rattle.boost.proofs.OpenLemmas.{opened_parts, opened_numbers, opened_past, opened_keeps}
use Rattle.boost.proofs.commands.open_player.Goals as goal

pub returns-in_err-book-clause-left_in_refusal : goal.returns-in_err-book-clause-left_in_refusal
returns-in_err-book-clause-left_in_refusal g c =
    let p = err_from_is_err_and c.from_residual.result c.from_residual.ensures.1 in
    let refusal = c.in_err-book.ensures in
    rw (p.1, p.2) (record {
      ends = refused_opening g.D.Disk c.args.disk c.in_err-book.field-0.0.1 _ _ _
          c.in_err-book.field-0.0.0 refusal.refused refusal.unchanged;
      any_moment = refusal.kept_in_refusal;
    })

pub returns-in_err-new-clause-left_in_refusal : goal.returns-in_err-new-clause-left_in_refusal
returns-in_err-new-clause-left_in_refusal g c =
    let p = err_from_is_err_and c.from_residual-in_err-new.result
    c.from_residual-in_err-new.ensures.1 in
    let opened = c.in_ok-book.ensures in
    rw (p.1, p.2) (subst (OpeningLeaves g.D.Disk c.args.disk) (sym c.in_err-new.ensures.refused.1)
    (record {
      ends = inl (inr (only_opened g.D.Disk c.args.disk c.in_ok-book.keeper.disk c.in_ok-book.book
          c.in_ok-book.keeper.area opened.opened opened.ready));
      any_moment = opened.kept;
    }))

pub returns-clause-past : goal.returns-clause-past
returns-clause-past g c = λ honest.
    let world = c.new-2.result.world in
    let made = c.in_ok-new.field-0 in
    let parts = c.in_ok-new.ensures.parts in
    let keeper = c.in_ok-book.keeper in
    let book = c.in_ok-book.book in record {
      opened = opened_parts g.D.Disk world made c.new-2.ensures.world keeper parts.2 c.args.disk
          book parts.0 c.in_ok-book.ensures.opened honest;
      nothing_sent = subst (λ (x : Whole _). x.transit ≡ []) (sym c.new-2.ensures.world) parts.3;
      numbers = opened_numbers g.D.Disk world made c.new-2.ensures.world keeper parts.2 c.args.disk
          book parts.0 parts.4;
      past = λ content stands rest. opened_past g.D.Disk world made c.new-2.ensures.world keeper
          parts.2 c.args.disk book content c.in_ok-book.ensures.opened c.in_ok-book.ensures.ready
          (c.in_ok-book.ensures.content content stands) c.in_ok-new.ensures.past rest honest;
    }

pub returns-clause-kept : goal.returns-clause-kept
returns-clause-kept g c = λ honest. opened_keeps g.D.Disk c.new-2.result.world c.in_ok-new.field-0
    c.new-2.ensures.world c.in_ok-book.keeper c.in_ok-new.ensures.parts.2 c.args.disk
    c.in_ok-book.ensures.kept honest
