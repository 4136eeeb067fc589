-- A list of touches, as the two ends of a twin know it, and the rule of the twin: one seat at most is
-- the near end, and one the far end. There is one list, which each of them knows.
use Rattle.std.specs.Prelude.{◌≡◌, ℕ, true, false, List, [], ◌∷◌, ◌++◌}
use mathlib.Core.Option.{some}
use lib.ListN.{get_elem?}
use Rattle.atomic_table.specs.Table.{Me}
use Rattle.atomic_table.specs.Seated.{TableId}
use Rattle.atomic_table.specs.declared.shared.Seat.{Seat}
use Rattle.group_commit.specs.declared.twin.Sides.{Sides}

-- what an end knows
pub record EndState (T : Type 0) : Type 0 where
  pub table : TableId
  pub list : List T

-- the end, with one touch more
abbrev pub touched : {T : Type 0} → EndState T → T → EndState T
touched e t = record { table = e.table; list = e.list ++ t ∷ [] }

abbrev pub near_side : {T : Type 0} → List T → Sides T
near_side list = record { near = true; far = false; by_near = list; by_far = [] }

abbrev pub far_side : {T : Type 0} → List T → Sides T
far_side list = record { near = false; far = true; by_near = []; by_far = list }

abbrev pub both_sides : {T : Type 0} → Sides T → Sides T → Sides T
both_sides n f = record { near = true; far = true; by_near = n.by_near; by_far = f.by_far }

abbrev pub no_side : {T : Type 0} → Sides T
no_side = record { near = false; far = false; by_near = []; by_far = [] }

-- a seat that is the near end knows the list, and so does one that is the far end
pub record Fits {T : Type 0} (nearest farthest : ℕ) (list : List T) (seat : ℕ) (v : Sides T) :
    Type 0 where
  pub near : v.near ≡ true → (seat ≡ nearest) × (v.by_near ≡ list)
  pub far : v.far ≡ true → (seat ≡ farthest) × (v.by_far ≡ list)

pub record Agreed {T : Type 0} (views : List (Sides T)) : Type 0 where
  pub nearest : ℕ
  pub farthest : ℕ
  pub list : List T
  pub fits : (seat : ℕ) (v : Sides T) → get_elem? views seat ≡ some v →
      Fits nearest farthest list seat v

-- what a step tells of: the seat before and after
abbrev pub SeatView : Type 0 → Type 0
SeatView T = Me (Unit {0}) (Sides T)

-- the seat stays, and both ends know the same
abbrev pub Compares : {T : Type 0} → SeatView T → SeatView T → Type 0
Compares m n = (n ≡ m) × (m.0.by_near ≡ m.0.by_far)

-- both ends of the seat know one touch more
abbrev pub added : {T : Type 0} → T → Sides T → Sides T
added t v = record {
  near = v.near;
  far = v.far;
  by_near = v.by_near ++ t ∷ [];
  by_far = v.by_far ++ t ∷ [];
}

abbrev pub Adds : {T : Type 0} → T → SeatView T → SeatView T → Type 0
Adds t m n = (n.0 ≡ added t m.0) × (n.1 ≡ m.1)

-- the seat is of this table, holds no slot, and knows this
abbrev pub Sits : {T : Type 0} → TableId → Sides T → Seat (Unit {0}) (Sides T) → Type 0
Sits id v s = (s.table_id ≡ id) × (s.me ≡ (v, []))
