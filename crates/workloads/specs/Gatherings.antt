-- Collections that are gathered while calls run on them.
use Rattle.std.specs.Prelude.{ℕ, ◌≤◌, List, length}
use Rattle.std.specs.List.{AllByRecursion}
use Rattle.calls.specs.declared.call.Call.{Call}
use Rattle.calls.specs.Contents.{Collection}
use Rattle.calls.specs.Formats.{widest}
use Rattle.calls.specs.Limits.{number_end}
use Rattle.calls.specs.Rules.{IsShort}
use Rattle.boosted.specs.Meaning.{HasReply}
use Rattle.catalog.specs.Meaning.{catalog_meaning}
use Rattle.catalog.specs.Places.{Belongs, IsWithin}
use Rattle.records.specs.Short.{AreShort}
use Rattle.images.specs.declared.effect.Effect.{Effect}
use Rattle.images.specs.Gathers.{GatherState}
use Rattle.images.specs.Following.{Follows, CameBy}
use Rattle.workloads.specs.declared.comparison.gatherings.Gathering.{Gathering}

-- A catalog of so few collections, on which so many calls were run.
pub record HasRun (xs : List Collection) (most lsn : ℕ) : Type 0 where
  pub few : length xs ≤ most
  pub short : AreShort widest xs
  pub within : IsWithin xs lsn

-- The call has a reply at the place, and no long value.
pub record CanRun (xs : List Collection) (at : ℕ) (c : Call) : Type 0 where
  pub belongs : Belongs xs at c
  pub reply : HasReply catalog_meaning xs at c
  pub short : IsShort widest c

-- What is gathered goes along with the collections, on which there is room for more calls.
pub record Goes (xs : List Collection) (g : GatherState) (later : List Effect) (lsn : ℕ) :
    Type 0 where
  pub has_run : HasRun xs 7 lsn
  pub unworn : lsn ≤ number_end
  pub follows : Follows g later xs
  pub came : CameBy g later lsn
  pub short_calls : AllByRecursion (λ e. IsShort widest e.call) later

abbrev pub IsGoing : Gathering → Type 0
IsGoing g = Goes g.catalog g.gather g.effects.items g.lsn
