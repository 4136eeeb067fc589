-- How an aborted transaction is taken back.
use Rattle.std.specs.Prelude.{◌≡◌, ℕ, ◌⊎◌, Bool, true, false, List, [], ◌∷◌, ◌++◌, replicate}
use Rattle.std.specs.Prelude.{Result, Ok, Err}
use Rattle.calls.specs.declared.refusal.Refusal.{Refusal}
use Rattle.txn.specs.declared.actions.Action.{Action}
use Rattle.group_commit.specs.Lines.{ClientState}
use Rattle.desks.specs.Origins.{Origin}
use Rattle.desks.specs.Seen.{StepsBehind}

-- a call of the number is undone, or none is left, or that is refused
abbrev pub back : ℕ → Result Bool Refusal → Action
back n r = Action.Back n r

-- so many calls were undone
abbrev pub backs : ℕ → ℕ → List Action
backs n count = replicate count (back n (Ok true))

module _ (o : Origin) where
  -- Calls of the number are undone until none is left, or one is refused.
  abbrev pub Undoes : ClientState → ℕ → Result (Unit {0}) Refusal → ClientState → Type 0
  Undoes old n (Ok done) new = (count : ℕ) ×
      StepsBehind o old (backs n count) (back n (Ok false)) new
  Undoes old n (Err e) new = (count : ℕ) × StepsBehind o old (backs n count) (back n (Err e)) new

  -- Calls of the number are undone until none is left, and then it ends, or that is refused; or the
  -- undoing of one is refused.
  abbrev pub TakesBack : ClientState → ℕ → Result (Unit {0}) Refusal → ClientState → Type 0
  TakesBack old n r new = (count : ℕ) ×
      (StepsBehind o old (backs n count ++ back n (Ok false) ∷ []) (Action.Ended n r) new
      ⊎ ((e : Refusal) × (r ≡ Err e) × StepsBehind o old (backs n count) (back n (Err e)) new))
