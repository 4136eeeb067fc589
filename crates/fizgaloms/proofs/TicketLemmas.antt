-- What a client knows behind a commit, and behind a wait.
use Rattle.std.proofs.Common.{◌≡◌, inl, inr, ℕ, List, [], ◌∷◌, ◌++◌, Result, Ok, Err, sym, ap}
use Rattle.std.proofs.Common.{◌∙◌, subst}
use Rattle.std.specs.Prelude.{Contains}
use Rattle.std.proofs.lemmas.List.Elements.{Contains-append_right}
use Rattle.calls.specs.declared.refusal.Refusal.{Refusal}
use Rattle.txn.specs.declared.actions.Action.{Action}
use Rattle.txn.specs.declared.actions.BookStep.{BookStep}
use Rattle.desks.specs.declared.naming.Naming.{Ghosts}
use Rattle.clients.specs.declared.phase.Phase.{Phase}
use Rattle.clients.specs.declared.ticket.Ticket.{Ticket}
use Rattle.clients.specs.Calls.{Acts, Does, Waits, ended_by, placed}
use Rattle.desks.specs.Seen.{step_of}
use Rattle.clients.specs.Known.{Known}
use Rattle.fizgaloms.specs.Works.{HasCommitted, WasToldKept}

no_refusal : (t : Ticket) (e : Refusal) → ◌≡◌ {A = Result Ticket Refusal} (Ok t) (Err e) → ⊥
no_refusal t e same = cc

module _ {J : Type 0} (j : Ghosts J) where
  committed : (old new : Known) (n : ℕ) (t : Ticket) (firsts : List Action) (action : Action) →
      action ≡ Action.Commit n (Ok t.place) → Acts j.origin old firsts action new →
      HasCommitted new t.place
  committed old new n t firsts action is acts =
      let same : new.number ≡ old.number = ap (λ (k : Known). k.number) acts.0 in record {
        number = n;
        before = acts.1.before;
        ends = acts.1.ends ∙ ap (λ (s : BookStep). acts.1.before ++ s ∷ [])
            (ap (step_of old.number) is ∙
            ap (λ m. step_of m (Action.Commit n (Ok t.place))) (sym same));
      }

  -- behind a commit that gave a ticket
  pub has_committed : (p : Phase) (old new : Known) (t : Ticket) → Does j.origin p old
      (λ n a. a ≡ Action.Commit n (placed (Ok t)))
      (λ e. ◌≡◌ {A = Result Ticket Refusal} (Ok t) (Err e))
      (ended_by {T = Ticket} (Ok t)) new → HasCommitted new t.place
  has_committed Phase.Closed old new t does = absurd does
  has_committed (Phase.Entered n) old new t does =
      committed old new n t [] does.0 does.1 does.2
  has_committed (Phase.Drawn n) old new t does = elim does [
    | inl done ↦ committed old new n t _ done.0 done.1 done.2
    | inr none ↦ absurd (no_refusal t none.0 none.1)
  ]

-- behind a wait that was not lost
pub was_told_kept : (old new : Known) (place : ℕ) → Waits old place (Ok tt) new →
    WasToldKept new place
was_told_kept old new place waits =
    let count = waits.decides.0 in (
      count,
      subst (λ l. Contains l count) (sym (ap (λ (k : Known). k.counts) waits.hears))
          (Contains-append_right old.counts waits.counts count waits.decides.1),
      waits.decides.2,
    )

-- a wait sees no more of the history
pub committed_still : (old new : Known) (place waited : ℕ) (r : Result (Unit {0}) Refusal) →
    Waits old waited r new → HasCommitted old place → HasCommitted new place
committed_still old new place waited r waits has = record {
  number = has.number;
  before = has.before;
  ends = ap (λ (k : Known). k.seen) waits.hears ∙ has.ends ∙
      ap (λ m. has.before ++ step_of m (Action.Commit has.number (Ok place)) ∷ [])
      (sym (ap (λ (k : Known). k.number) waits.hears));
}
