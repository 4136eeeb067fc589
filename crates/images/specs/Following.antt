-- What is gathered beside the collections that it is of, while calls go on.
use Rattle.std.specs.Prelude.{◌≡◌, ℕ, ◌≤◌, List, ◌++◌, length, take}
use Rattle.std.specs.List.{AllByRecursion}
use Rattle.calls.specs.Contents.{Collection}
use Rattle.images.specs.declared.effect.Effect.{Effect}
use Rattle.images.specs.Gathers.{GatherState, gathered, caught_up, CanCatchUp}

-- The copies are of the first of these collections. Once the calls that are left are repeated, and
-- behind them the later ones, which were not handed over yet, they hold what the collections hold.
pub record Follows (g : GatherState) (later : List Effect) (xs : List Collection) : Type 0 where
  pub few : length g.parts ≤ length xs
  pub can : CanCatchUp g.parts (g.effects ++ later)
  pub leads : gathered (caught_up g.parts (g.effects ++ later)) ≡ take (length g.parts) xs

-- All copies were taken, and all calls were run, when there were at most so many records.
pub record CameBy (g : GatherState) (later : List Effect) (lsn : ℕ) : Type 0 where
  pub stamps : AllByRecursion (λ p. p.stamp ≤ lsn) g.parts
  pub lsns : AllByRecursion (λ e. e.lsn ≤ lsn) (g.effects ++ later)
