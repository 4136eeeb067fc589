-- What is told of the calls of a transaction by a step that undoes one.
use Rattle.std.proofs.Common.{◌≡◌, ℕ, ◌+◌, Bool, true, false, List, ◌∷◌, ◌++◌, length, Ok, refl}
use Rattle.std.proofs.Common.{ap, ◌∙◌, sym, arith, ⊎_elim, Result, Err, IfOk}
use Rattle.std.proofs.lemmas.List.{length-append}
use Rattle.calls.specs.Transactions.{Event, Entry, Asked}
use Rattle.calls.specs.declared.refusal.Refusal.{Refusal}
use Rattle.undo_log.specs.Entries.{HasNoCall, HasNewestCall, IsNewestCall}
use Rattle.boosted.specs.Meaning.{Meaning}
use Rattle.catalog.specs.Making.{Making}
use Rattle.steps.specs.Machine.{State}
use Rattle.txn.specs.declared.actions.Action.{Action}
use Rattle.txn.specs.Books.{BookState, Takes}
use Rattle.txn.specs.Shelved.{HasNewestAt}
use Rattle.txn.proofs.JournalEnds.{newest_there}

one_less : (n : ℕ) (es rest : List (ℕ × Entry)) (x : Event) → IsNewestCall n es x rest →
    length rest + 1 ≡ length es
one_less n es rest x newest =
    let was = ap length newest.is ∙ length-append newest.before ((n, Asked x) ∷ newest.after) in
    let is = ap length newest.rest_is ∙ length-append newest.before newest.after in
    omega (arith, was, is)

module _ {S : Type 0} (meaning : Meaning S ℕ) (making : Making S) (b c : BookState S) (n : ℕ) where
  -- Where a call is there, the newest is undone, and they are one less then.
  pub undone_fewer : (at : ℕ) (r : Result Bool Refusal) →
      Takes meaning making b (Action.Back n r) c → HasNewestAt n b.state.entries at →
      IfOk r (λ undone. (undone ≡ true) ×
      (length c.state.entries + 1 ≡ length b.state.entries))
  undone_fewer at (Ok true) took there = ⊎_elim
      (λ written. (
        refl,
        ap (λ (s : State S). length s.entries + 1) written.0.back.is ∙
            one_less n b.state.entries written.0.back.rest written.0.back.call
            written.0.back.newest,
      ))
      (λ unread. (
        refl,
        ap (λ (s : State S). length s.entries + 1) unread.0.is ∙
            one_less n b.state.entries unread.0.rest unread.0.call unread.0.newest,
      )) took
  undone_fewer at (Ok false) took there =
      absurd (newest_there n b.state.entries there.0 there.1 took.0.undone)
  undone_fewer at (Err e) took there = tt

  -- Where none is left, none is undone.
  pub none_undone : (r : Result Bool Refusal) → Takes meaning making b (Action.Back n r) c →
      HasNoCall n b.state.entries → IfOk r (λ undone. undone ≡ false)
  none_undone (Ok true) took none = ⊎_elim
      (λ written. absurd (newest_there n b.state.entries written.0.back.call
      (written.0.back.rest, written.0.back.newest) none))
      (λ unread. absurd (newest_there n b.state.entries unread.0.call
      (unread.0.rest, unread.0.newest) none)) took
  none_undone (Ok false) took none = refl
  none_undone (Err e) took none = tt
