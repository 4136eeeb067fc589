-- What an image of the book is, and what a copy of a collection and a freeze answer.
use Rattle.std.specs.Prelude.{◌≡◌, ℕ, ◌+◌, ◌<◌, ◌⊎◌, ◌↔◌, List, length, Contains}
use Rattle.std.specs.Prelude.{Bool, Result, Ok, Err}
use Rattle.calls.specs.declared.refusal.Refusal.{Refusal}
use Rattle.calls.specs.Contents.{Collection}
use Rattle.records.specs.declared.block.Image.{Image}
use Rattle.images.specs.Images.{IsPackedImage}
use Rattle.images.specs.Gathers.{GatherState}
use Rattle.images.specs.Gatherings.{given_up, GatherAnswers, IsWhole, FreezeRefused, IsOfThis}
use Rattle.images.specs.Gatherings.{HoldsAll}
use Rattle.txn.specs.Books.{BookState, lsn}

-- The image is one of the book: its records tell of what the collections hold, of the live
-- transactions and of what these asked for, and stand in blocks that are each as full as they can
-- be. It covers every record up to now.
pub record IsImageOf {S : Type 0} (collections : S → List Collection) (b : BookState S)
    (image : Image) : Type 0 where
  pub packed : IsPackedImage collections b.next b.state image.blocks.items
  -- the LSN behind the last record, and the count of commits and makes
  pub end : image.end ≡ b.end + length b.pending
  pub place : image.place ≡ b.places

-- No block may cross the LSN behind the last record, where one waits.
abbrev pub Seals : {S : Type 0} → BookState S → BookState S → Type 0
Seals b c = (f : ℕ) → Contains c.freezes f ↔
    (Contains b.freezes f ⊎ ((f ≡ lsn b) × (0 < length b.pending)))

-- ---- gathering

module _ {S : Type 0} (collections : S → List Collection) where
  -- What is gathered is new, or of another gathering than the one that is under way, or goes along.
  abbrev pub IsGatheredOf : BookState S → GatherState → Type 0
  IsGatheredOf b g = IsOfThis collections b.gathering b.state.now (lsn b) g

  -- When each answer comes where the next collection is copied. It leaves all but what is noted.
  abbrev pub BookGathers : (b : BookState S) → (g : GatherState) → Result Bool Refusal →
      (c : BookState S) → (h : GatherState) → Type 0
  BookGathers b g result c h =
      GatherAnswers (collections b.state.now) (lsn b) b.gathering g result c.gathering h ×
      (c ≡ record b { gathering = c.gathering })

  -- When each answer of a freeze comes. It ends the gathering, which holds all of the book then,
  -- and leaves all else but that no block may cross the LSN behind the last record. What was
  -- gathered stays of the gathering that it is of.
  abbrev pub FreezeAnswers : (b : BookState S) → (g : GatherState) → Result (Unit {0}) Refusal →
      (c : BookState S) → (h : GatherState) → Type 0
  FreezeAnswers b g (Ok done) c h =
      IsWhole (collections b.state.now) b.gathering g ×
      HoldsAll collections b.next b.places (lsn b) b.state h ×
      (c ≡ record b { freezes = c.freezes; gathering = given_up b.gathering }) × Seals b c ×
      (h.mark ≡ g.mark)
  FreezeAnswers b g (Err Refusal.NoMemory) c h =
      IsWhole (collections b.state.now) b.gathering g × (c ≡ b) × (h ≡ g)
  FreezeAnswers b g (Err e) c h =
      FreezeRefused (collections b.state.now) b.gathering g e × (c ≡ b) × (h ≡ g)
