-- What is held on one collection, as contracts see it.
use Rattle.std.specs.Prelude.{ℕ, List, []}
use Rattle.abstract_locks.specs.declared.table.Hold.{Hold}

-- The holds, and for how many more there is room.
pub record Claimed : Type 0 where
  pub holds : List Hold
  pub room : ℕ

-- Nothing is held, and there is no room.
abbrev pub nothing : Claimed
nothing = record { holds = []; room = 0 }
