-- What is told of the answer to a deferred call.
use Rattle.std.proofs.Common.{◌≡◌, ℕ, inl, inr, Result, Ok, Err, IfOk, ⊎_elim, refl, sym, ap}
use Rattle.std.proofs.Common.{subst}
use Rattle.calls.specs.declared.refusal.Refusal.{Refusal}
use Rattle.calls.specs.declared.reply.Reply.{Reply}
use Rattle.calls.specs.declared.when.When.{When}
use Rattle.txn.specs.declared.actions.Action.{Action}
use Rattle.desks.specs.declared.naming.Naming.{Ghosts}
use Rattle.clients.specs.declared.phase.Phase.{Phase}
use Rattle.clients.specs.Calls.{DoesInRoom, IsEntering, replied}
use Rattle.clients.specs.Known.{Known}
use Rattle.clients.proofs.Seeing.{does_refused_so}

no_refusal : (reply : Reply) (e : Refusal) → ◌≡◌ {A = Result Reply Refusal} (Ok reply) (Err e) → ⊥
no_refusal reply e same = cc

same_refusal : (d e : Refusal) → ◌≡◌ {A = Result Reply Refusal} (Err d) (Err e) → d ≡ e
same_refusal d e same = cc

-- A refusal is told as it is.
refused_so : (told : Result (Unit {0}) Refusal) (e : Refusal) → replied told ≡ Err e → told ≡ Err e
refused_so (Ok done) e same = absurd (no_refusal Reply.Done e same)
refused_so (Err d) e same = ap (λ x. Err x) (same_refusal d e same)

-- An accepted one was answered Done.
pub is_done : (r : Result Reply Refusal) (reply : Reply) → r ≡ Ok reply →
    IfOk r (λ x. When.AtCommit ≡ When.AtCommit → x ≡ Reply.Done) → r ≡ Ok Reply.Done
is_done (Ok x) reply is deferred = ap (λ y. Ok y) (deferred refl)
is_done (Err e) reply is deferred = absurd (no_refusal reply e (sym is))

-- What the transaction did is said of the answer that is told.
module _ {J : Type 0} (j : Ghosts J) where
  pub room_replied : (p : Phase) (old : Known) (own : Result Reply Refusal → ℕ → Action → Type 0)
      (r : Result Reply Refusal) (told : Result (Unit {0}) Refusal) (new : Known) →
      r ≡ replied told → DoesInRoom j.origin p old (own r) r new →
      DoesInRoom j.origin p old (own (replied told)) told new
  room_replied p old own r told new is does = ⊎_elim
      (λ done. inl (does_refused_so j p old new (own (replied told)) (λ e. replied told ≡ Err e)
      (λ e. told ≡ Err e) (λ n. Phase.Entered n) (refused_so told) done))
      (λ (full : (replied told ≡ Err Refusal.Full) × IsEntering j.origin p old new).
      inr (refused_so told Refusal.Full full.0, full.1))
      (subst (λ x. DoesInRoom j.origin p old (own x) x new) is does)
