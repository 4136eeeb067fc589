-- What is gathered goes along past every step of a book, and comes to an image.
use Rattle.std.specs.Prelude.{◌≡◌, ℕ, ◌+◌, ◌≤◌, List, length}
use Rattle.calls.specs.declared.kind.Kind.{Kind}
use Rattle.calls.specs.Contents.{Collection}
use Rattle.calls.specs.Limits.{max_wear}
use Rattle.boosted.specs.Meaning.{Meaning}
use Rattle.catalog.specs.Making.{Making}
use Rattle.records.specs.declared.block.Image.{Image}
use Rattle.steps.specs.Machine.{State}
use Rattle.images.specs.declared.effect.Effect.{Effect}
use Rattle.images.specs.Gathers.{GatherState, Repeats, Packs}
use Rattle.images.specs.Images.{IsPackedImage}
use Rattle.images.specs.Gatherings.{GatheringState, noted, AreRun, KeepsGoing, HoldsAll}

module _ {S : Type 0} (collections : S → List Collection) where
  -- Calls are run, which the next record tells of, and are noted.
  abbrev pub GoesPastRuns : Meaning S ℕ → Type 0
  GoesPastRuns meaning = (n : GatheringState) (es : List Effect) (lsn wear : ℕ) (s t : S) →
      meaning.within s wear → wear + length es ≤ max_wear →
      AreRun meaning (lsn + 1) es s t →
      KeepsGoing collections n s lsn (noted n es) t (lsn + 1)

  -- A collection is made, which the next record tells of.
  abbrev pub GoesPastMakings : Making S → Type 0
  GoesPastMakings making = (n : GatheringState) (lsn : ℕ) (s t : S) (name : List ℕ)
      (kind : Kind) → making.makes s name kind t →
      KeepsGoing collections n s lsn n t (lsn + 1)

  -- The collections stay, and at most one record more is written.
  abbrev pub GoesPastOthers : Type 0
  GoesPastOthers = (n : GatheringState) (lsn next : ℕ) (s : S) → lsn ≤ next →
      KeepsGoing collections n s lsn n s next

  -- What holds all of a state comes to an image of it.
  abbrev pub HoldsImage : Type 0
  HoldsImage = (next place lsn : ℕ) (s : State S) (g h : GatherState) (image : Image) →
      HoldsAll collections next place lsn s g → Repeats g h → Packs h image →
      IsPackedImage collections next s image.blocks.items × (image.end ≡ lsn) ×
      (image.place ≡ place)
