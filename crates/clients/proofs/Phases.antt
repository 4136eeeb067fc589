-- Whether a client has a transaction behind its calls.
use Rattle.std.proofs.Common.{◌≡◌, ℕ, inr, Result, Ok, Err, sym}
use Rattle.calls.specs.declared.refusal.Refusal.{Refusal}
use Rattle.txn.specs.declared.actions.Action.{Action}
use Rattle.desks.specs.declared.naming.Naming.{Ghosts}
use Rattle.clients.specs.declared.phase.Phase.{Phase}
use Rattle.clients.specs.Calls.{Does, Enters}
use Rattle.clients.specs.Known.{Known}

ok_no_err : (n : ℕ) (e : Refusal) → ◌≡◌ {A = Result ℕ Refusal} (Ok n) (Err e) → ⊥
ok_no_err n e same = cc

module _ {J : Type 0} (j : Ghosts J) where
  -- where the entering is refused, the call is
  pub does_refused : (p : Phase) (old : Known) (own : ℕ → Action → Type 0)
      (refused : Refusal → Type 0) (after : ℕ → Phase) (e : Refusal) (new : Known) →
      Enters j.origin p old (Err e) new → refused e → Does j.origin p old own refused after new
  does_refused Phase.Closed old own refused after e new enters is = absurd enters
  does_refused (Phase.Entered n) old own refused after e new enters is =
      absurd (ok_no_err n e (sym enters.0))
  does_refused (Phase.Drawn n) old own refused after e new enters is =
      inr (e, is, enters.0, enters.1)
