-- What is done in an attempt at a transaction.
use Rattle.std.specs.Prelude.{◌≡◌, ◌⊎◌, ℕ, List, [], ◌∷◌, ◌++◌, drop, length, map, Ok, Err}
use Rattle.std.specs.Prelude.{Result, MatchResult}
use Rattle.std.specs.List.{AllByRecursion}
use Rattle.calls.specs.declared.refusal.Refusal.{Refusal}
use Rattle.group_commit.specs.Lines.{steps_of}
use Rattle.txn.specs.declared.actions.Action.{Action}
use Rattle.desks.specs.Origins.{Origin}
use Rattle.clients.specs.declared.phase.Phase.{Phase}
use Rattle.clients.specs.Calls.{Moves}
use Rattle.desks.specs.Seen.{Grows}
use Rattle.clients.specs.Known.{Known}

-- ---- the calls of an attempt

-- what the client has done since it knew this
abbrev pub done_since : Known → Known → List Action
done_since old new = map (λ x. x.action)
    (drop (length (steps_of old.number old.seen)) (steps_of old.number new.seen))

-- the action enters the number, or asks for a call of its transaction
abbrev pub IsOfCalls : ℕ → Action → Type 0
IsOfCalls n (Action.Enter m r) = m ≡ n
IsOfCalls n (Action.Ask m target call when r) = m ≡ n
IsOfCalls n action = ⊥

-- the entering of a number is refused
abbrev pub IsRefusedEntry : Action → Type 0
IsRefusedEntry (Action.Enter m (Err e)) = Unit {0}
IsRefusedEntry action = ⊥

-- The number's transaction is open behind these actions: drawn, where each of them is an entry that
-- was refused, or entered.
abbrev pub IsOpenUnder : ℕ → List Action → Phase → Type 0
IsOpenUnder n made Phase.Closed = ⊥
IsOpenUnder n made (Phase.Drawn m) = (m ≡ n) × AllByRecursion IsRefusedEntry made
IsOpenUnder n made (Phase.Entered m) = m ≡ n

module _ (o : Origin) where
  -- The client, whose transaction of this number is open, made these calls in it, and did nothing
  -- else.
  pub record Attempts (n : ℕ) (old : Known) (made : List Action) (new : Known) : Type 0 where
    pub moves : Moves old new
    pub grows : Grows o old.number old.seen made new.seen
    pub are_calls : AllByRecursion (IsOfCalls n) made
    pub is_open : IsOpenUnder n made new.phase

  -- It made calls in the transaction, and what is answered, an output or a refusal, says so of
  -- them.
  abbrev pub IsAttempt : {A : Type 0} → (says : A → List Action → Type 0) →
      (refuses : Refusal → List Action → Type 0) → ℕ → Known → Result A Refusal → Known → Type 0
  IsAttempt says refuses n old r new = (made : List Action) × Attempts n old made new ×
      MatchResult r (λ output. says output made) (λ e. refuses e made)

-- ---- what a call adds

-- the number is entered, where it was not
abbrev pub IsEntered : ℕ → List Action → Type 0
IsEntered n more = (more ≡ []) ⊎ (more ≡ Action.Enter n (Ok tt) ∷ [])

-- what is done where a call is asked for in an attempt: the number is entered first, where it was
-- not, and a refusal of that stands in place of the call; where it is refused Full nothing more is
-- done. own: the step of the call. refused: its refusal.
abbrev pub IsCalled : (own : ℕ → Action → Type 0) → (refused : Refusal → Type 0) → ℕ → List Action →
    Type 0
IsCalled own refused n more =
    ((action : Action) × own n action × (more ≡ action ∷ []))
    ⊎ ((action : Action) × own n action × (more ≡ Action.Enter n (Ok tt) ∷ action ∷ []))
    ⊎ ((e : Refusal) × refused e × (more ≡ Action.Enter n (Err e) ∷ []))
    ⊎ (refused Refusal.Full × IsEntered n more)

-- these actions came behind those
abbrev pub Adds : (own : ℕ → Action → Type 0) → (refused : Refusal → Type 0) → List Action →
    List Action → Type 0
Adds own refused old new = (n : ℕ) × (more : List Action) × IsCalled own refused n more ×
    (new ≡ old ++ more)

-- ---- numbers that were drawn

-- a number was drawn for the transaction, and it has made no call
abbrev pub IsBegun : Phase → Type 0
IsBegun (Phase.Drawn n) = Unit {0}
IsBegun phase = ⊥

-- the number of a transaction that has begun
abbrev pub number_of : Phase → ℕ
number_of (Phase.Drawn n) = n
number_of phase = 0
