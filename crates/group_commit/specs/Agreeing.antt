-- The rule of the accord: one seat at most is the near end, and one the far end. There is one
-- state, which each of them knows.
use Rattle.std.specs.Prelude.{◌≡◌, ℕ, true, false, List, []}
use mathlib.Core.Option.{some}
use lib.ListN.{get_elem?}
use Rattle.atomic_table.specs.Table.{Me}
use Rattle.atomic_table.specs.Seated.{TableId}
use Rattle.atomic_table.specs.declared.shared.Seat.{Seat}
use Rattle.images.specs.Gathers.{GatherState}
use Rattle.group_commit.specs.declared.accord.Sides.{Sides}
use Rattle.images.specs.Gathers.{nothing_gathered}

abbrev pub near_side : GatherState → Sides
near_side gather =
    record { near = true; far = false; by_near = gather; by_far = nothing_gathered }

abbrev pub far_side : GatherState → Sides
far_side gather =
    record { near = false; far = true; by_near = nothing_gathered; by_far = gather }

-- the seat that is the near end as the one, and the far end as the other
abbrev pub both_sides : Sides → Sides → Sides
both_sides n f = record { near = true; far = true; by_near = n.by_near; by_far = f.by_far }

abbrev pub no_side : Sides
no_side = record {
  near = false;
  far = false;
  by_near = nothing_gathered;
  by_far = nothing_gathered;
}

-- a seat that is the near end knows the state, and so does one that is the far end
pub record Fits (nearest farthest : ℕ) (gather : GatherState) (seat : ℕ)
    (v : Sides) : Type 0 where
  pub near : v.near ≡ true → (seat ≡ nearest) × (v.by_near ≡ gather)
  pub far : v.far ≡ true → (seat ≡ farthest) × (v.by_far ≡ gather)

pub record Agreed (views : List Sides) : Type 0 where
  pub nearest : ℕ
  pub farthest : ℕ
  pub gather : GatherState
  pub fits : (seat : ℕ) (v : Sides) → get_elem? views seat ≡ some v →
      Fits nearest farthest gather seat v

-- what the step tells: of the seat before and after
abbrev pub SeatView : Type 0
SeatView = Me (Unit {0}) Sides

-- the seat stays, and both ends know the same
abbrev pub Compares : SeatView → SeatView → Type 0
Compares m n = (n ≡ m) × (m.0.by_near ≡ m.0.by_far)

-- the seat is of this table, holds no slot, and knows this
abbrev pub Sits : TableId → Sides → Seat (Unit {0}) Sides → Type 0
Sits id v s = (s.table_id ≡ id) × (s.me ≡ (v, []))
