-- What is gathered of a book for an image.
use Rattle.std.specs.Prelude.{◌≡◌, ◌≢◌, Option, Some, None, Result, Ok, Err}
use Rattle.std.specs.Option.{option_map}
use Rattle.calls.specs.declared.refusal.Refusal.{Refusal}
use Rattle.disk_model.specs.declared.disk.Disk.{Ghosts}
use Rattle.checkpoint.specs.ImageAnswers.{HoldAnswers}
use Rattle.checkpoint.specs.Keepers.{KeeperState}
use Rattle.checkpoint.specs.Keeping.{HoldKeeps}
use Rattle.images.specs.declared.gather.ImageHead.{ImageHead}
use Rattle.images.specs.Gathers.{GatherState, FrozenState, nothing_gathered}
use Rattle.images.specs.Gatherings.{IsUnderWay}
use Rattle.txn.specs.Books.{NamedBook}
use Rattle.txn.specs.Freezing.{IsGatheredOf}

-- What is gathered is of the book: it is new, or goes along, or is of another gathering than the
-- one that is under way, as it is once it is frozen.
pub record IsOfBook (b : NamedBook) (g : GatherState) : Type 0 where
  pub gathered : IsGatheredOf (λ v. v) b g
  pub over : g.frozen ≢ None → (g.mark ≢ 0) × (IsUnderWay b.gathering g → ⊥)

-- What is gathered of a gathering that is not under way is given up, unless it is frozen.
abbrev pub unless_outrun : Option FrozenState → Refusal → GatherState → GatherState
unless_outrun None Refusal.Outrun g = nothing_gathered
unless_outrun frozen e g = g

-- what was gathered, where its end is held; it is given up where the keeper refused
abbrev pub if_held : Result (Unit {0}) Refusal → GatherState → GatherState
if_held (Ok done) g = g
if_held (Err e) g = nothing_gathered

-- The head of the image of what is frozen.
abbrev pub IsHeadOf : GatherState → ImageHead → Type 0
IsHeadOf g head = Some head ≡ option_map (λ f. f.image_head) g.frozen

-- Behind a freeze that was answered so the end of what is frozen is held by the keeper. Where the
-- book refused, the keeper is not asked.
abbrev pub IsHeld : {D : Type 0} → Result (Unit {0}) Refusal → KeeperState D → GatherState →
    Result (Unit {0}) Refusal → KeeperState D → GatherState → Type 0
IsHeld (Ok done) k g held l h =
    ((head : ImageHead) × IsHeadOf g head ×
    HoldAnswers k (record { end = head.end; place = head.place }) l held) × (h ≡ if_held held g)
IsHeld (Err e) k g held l h = (held ≡ Err e) × (l ≡ k) × (h ≡ unless_outrun g.frozen e g)

-- What a keeper has received stays so, also where it is stopped, while it holds the end.
abbrev pub HoldsOn : {D : Type 0} → Ghosts D → Result (Unit {0}) Refusal → KeeperState D →
    GatherState → Result (Unit {0}) Refusal → KeeperState D → Type 0
HoldsOn g (Ok done) k m held l =
    (head : ImageHead) × IsHeadOf m head × HoldKeeps g head.end held k l
HoldsOn g (Err e) k m held l = Unit {0}
