-- What a client has seen of the history of a store, and how that grows.
use Rattle.std.specs.Prelude.{◌≡◌, ℕ, List, [], ◌∷◌, ◌++◌, map, Some}
use mathlib.Core.List.{IsPrefix}
use Rattle.calls.specs.Contents.{Collection}
use Rattle.txn.specs.declared.actions.Action.{Action}
use Rattle.txn.specs.declared.actions.BookStep.{BookStep}
use Rattle.txn.specs.Rows.{Standing, opening}
use Rattle.txn.specs.Histories.{IsLegal}
use Rattle.catalog.specs.Meaning.{catalog_meaning, catalog_making}
use Rattle.group_commit.specs.Lines.{ClientState, steps_of, seeing}
use Rattle.desks.specs.Origins.{Origin}
use Rattle.desks.specs.Owners.{AreOwned}

-- a step of the client of this number
abbrev pub step_of : ℕ → Action → BookStep
step_of n action = record { client = Some n; action = action }

module _ (o : Origin) where
  -- The steps lead the opened book there, each of who may take it.
  pub record IsHistory (steps : List BookStep) (s : Standing (List Collection)) : Type 0 where
    pub legal : IsLegal catalog_meaning catalog_making (opening o.format o.start o.wear) steps s
    pub owned : AreOwned steps

  -- The steps are a legal history of the opened book.
  abbrev pub IsSeen : List BookStep → Type 0
  IsSeen steps = (s : Standing (List Collection)) × IsHistory steps s

  -- What the client of this number has seen goes on, and is legal. Its own steps since are these
  -- actions, in this order.
  pub record Grows (n : ℕ) (old : List BookStep) (actions : List Action) (new : List BookStep) :
      Type 0 where
    pub begins : IsPrefix old new
    pub mine : steps_of n new ≡ steps_of n old ++ map (step_of n) actions
    pub legal : IsSeen new

  -- And it ends with the last of them.
  pub record Took (n : ℕ) (old : List BookStep) (firsts : List Action) (last : Action)
      (new : List BookStep) : Type 0 where
    pub grows : Grows n old (firsts ++ last ∷ []) new
    pub before : List BookStep
    pub ends : new ≡ before ++ step_of n last ∷ []

  -- The client took these steps of its own, the last one last.
  abbrev pub StepsBehind : ClientState → List Action → Action → ClientState → Type 0
  StepsBehind old firsts last new =
      (new ≡ seeing old new.seen) × Took old.number old.seen firsts last new.seen

  -- The client took one step.
  abbrev pub Steps : ClientState → Action → ClientState → Type 0
  Steps old action new = StepsBehind old [] action new
