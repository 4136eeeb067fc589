-- The rule of the mark: the count never falls, and is what the keeper's seat has brought it to;
-- each count that was loaded was reached. A failed flag stays, and a seat that may set it has set it.
use Rattle.std.specs.Prelude.{◌≡◌, ◌⊎◌, ℕ, ◌≤◌, ◌+◌, ◌==◌, max, Bool, true, false, List, []}
use Rattle.std.specs.Prelude.{◌∷◌, ◌++◌}
use mathlib.Core.Option.{some}
use lib.ListN.{get_elem?}
use Rattle.atomic_table.specs.Table.{Me}
use Rattle.group_commit.specs.declared.mark.Raised.{Raised}
use Rattle.group_commit.specs.declared.mark.Tide.{Tide}
use Rattle.group_commit.specs.Marks.{AreReached, AreNoted, HasFailed, top}

-- the keeper's seat, that was shown these counts
abbrev pub shown : List Raised → List Raised → ℕ → Tide
shown raised counts stops = record {
  keeps = true;
  sets = true;
  raised = raised;
  counts = counts;
  flags = [];
  stops = stops;
}

abbrev pub keeper : List Raised → ℕ → Tide
keeper raised stops = shown raised [] stops

abbrev pub stopper : ℕ → Tide
stopper stops = record {
  keeps = false;
  sets = true;
  raised = [];
  counts = [];
  flags = [];
  stops = stops;
}

abbrev pub watcher : List Raised → List Bool → ℕ → Tide
watcher counts flags stops = record {
  keeps = false;
  sets = false;
  raised = [];
  counts = counts;
  flags = flags;
  stops = stops;
}

abbrev pub nobody : Tide
nobody = watcher [] [] 0

-- a seat that has set nothing, and may set the flag where this one may
abbrev pub permitted : Tide → Tide
permitted v = record (stopper 0) { sets = v.sets }

-- the seat may set the flag, and has set it
abbrev pub IsCause : Tide → Type 0
IsCause v = (v.sets ≡ true) × (1 ≤ v.stops)

-- it knows that the flag is set
abbrev pub KnowsFailed : Tide → Type 0
KnowsFailed v = HasFailed v.flags ⊎ (1 ≤ v.stops)

-- the keeper's seat is the one that keeps, and knows how the mark was raised; what a watcher knows was
-- reached, and once a seat knows of the flag, that is set
pub record Fits (keeping : ℕ) (raised : List Raised) (flag seat : ℕ) (v : Tide) : Type 0 where
  pub whole : v.keeps ≡ true → (seat ≡ keeping) × (v.raised ≡ raised)
  pub noted : AreNoted v.counts raised
  pub failed : KnowsFailed v → flag ≡ 1

-- one of the seats that may set the flag has set it
abbrev pub HasCause : List Tide → Type 0
HasCause [] = ⊥
HasCause (v ∷ vs) = IsCause v ⊎ HasCause vs

pub record Marked (words : List ℕ) (views : List Tide) : Type 0 where
  pub keeping : ℕ
  pub raised : List Raised
  pub flag : ℕ
  pub words_are : words ≡ (top raised).count ∷ flag ∷ []
  pub fits : (seat : ℕ) (v : Tide) → get_elem? views seat ≡ some v → Fits keeping raised flag seat v
  pub caused : flag ≡ 1 → HasCause views

-- what the steps tell: of the seat before, the number found, and the seat after
abbrev pub Seat : Type 0
Seat = Me (Unit {0}) Tide

-- how a mark was raised that is brought to this place at this moment, unless it was past it
abbrev pub raised_to : ℕ → ℕ → List Raised → List Raised
raised_to place moment raised =
    record { count = max (top raised).count place; moment = moment } ∷ raised

abbrev pub Advances : ℕ → ℕ → Seat → Seat → Type 0
Advances place moment m n =
    (n.0 ≡ keeper (raised_to place moment m.0.raised) m.0.stops) × (n.1 ≡ m.1)

abbrev pub Fails : Seat → Seat → Type 0
Fails m n = (n.0 ≡ record m.0 { stops = m.0.stops + 1 }) × (n.1 ≡ m.1)

-- the count was brought there at some moment
pub record Loads (m : Seat) (count : ℕ) (n : Seat) : Type 0 where
  pub moment : ℕ
  pub loaded : n.0 ≡
      watcher (m.0.counts ++ record { count = count; moment = moment } ∷ []) m.0.flags m.0.stops
  pub rises : AreReached m.0.counts count
  pub rest : n.1 ≡ m.1

abbrev pub LoadsFlag : Seat → ℕ → Seat → Type 0
LoadsFlag m flag n =
    (n.0 ≡ watcher m.0.counts (m.0.flags ++ (flag == 1) ∷ []) m.0.stops)
    × (KnowsFailed m.0 → (flag == 1) ≡ true) × (n.1 ≡ m.1)

-- the keeper's seat learns that what it was shown was reached
abbrev pub Compares : Seat → Seat → Type 0
Compares m n =
    (n.0 ≡ keeper m.0.raised m.0.stops) × AreNoted m.0.counts m.0.raised × (n.1 ≡ m.1)
