-- What is gathered of a book: copies of its collections, the calls that were run behind them, and
-- what was noted when it was frozen.
use Rattle.std.specs.Prelude.{◌≡◌, ℕ, zero, suc, ◌<◌, cond, nat_lt, List, [], ◌∷◌, ◌++◌, map}
use Rattle.std.specs.Prelude.{Option, Some, None}
use Rattle.std.specs.List.{AllByRecursion}
use Rattle.std.specs.Option.{option_to_list}
use Rattle.calls.specs.Contents.{Collection, Answers, after}
use Rattle.calls.specs.Formats.{widest}
use Rattle.calls.specs.Rules.{IsShort}
use Rattle.boosted.specs.Meaning.{IsRoomy}
use Rattle.catalog.specs.Places.{Reaches}
use Rattle.records.specs.declared.record.Record.{Record}
use Rattle.records.specs.Short.{AreShort}
use Rattle.records.specs.declared.block.Image.{Image}
use Rattle.undo_log.specs.Logs.{Log}
use Rattle.images.specs.declared.effect.Effect.{Effect}
use Rattle.images.specs.declared.gather.ImageHead.{ImageHead}
use Rattle.images.specs.Images.{TellsTransactions, TellsGathered, CanStand, IsPacked}

-- A copy of a collection, and where it was taken: how many records came before.
pub record CopyState : Type 0 where
  pub collection : Collection
  pub stamp : ℕ

-- Where the book stood when it was frozen, and the records that tell of its live transactions.
pub record FrozenState : Type 0 where
  pub image_head : ImageHead
  pub live : List Record

pub record GatherState : Type 0 where
  -- which gathering of a book it is, or 0
  pub mark : ℕ
  -- copies of the first collections, in the order of making
  pub parts : List CopyState
  -- the calls that are not repeated yet, in the order run
  pub effects : List Effect
  pub frozen : Option FrozenState

-- Nothing is gathered, as it begins.
abbrev pub nothing_gathered : GatherState
nothing_gathered = record { mark = 0; parts = []; effects = []; frozen = None }

-- the collections of the copies
abbrev pub gathered : List CopyState → List Collection
gathered parts = map (λ p. p.collection) parts

-- ---- gathering

-- with a copy of the next collection, if one is left, that was taken when so many records had come
-- before, with the calls that were run since the last gather, and with the mark of this one
abbrev pub with_gathered : GatherState → (mark : ℕ) → Option Collection → (stamp : ℕ) →
    List Effect → GatherState
with_gathered g mark next stamp effects = record g {
  mark = mark;
  parts = g.parts ++ map (λ x. record { collection = x; stamp = stamp }) (option_to_list next);
  effects = g.effects ++ effects;
}

-- ---- repeating what was run behind the copies

-- The copy with the call run on it too, if that came behind the copy.
abbrev pub with_effect : CopyState → Effect → CopyState
with_effect p e = cond (nat_lt p.stamp e.lsn) (record p {
  collection = record p.collection { content = after p.collection.content e.call e.reply };
}) p

-- The same of the copy at the place.
abbrev pub with_effect_at : List CopyState → ℕ → Effect → List CopyState
with_effect_at [] at e = []
with_effect_at (p ∷ ps) zero e = with_effect p e ∷ ps
with_effect_at (p ∷ ps) (suc at) e = p ∷ with_effect_at ps at e

-- What the copies come to: the calls are run one after another, each on the copy of its collection.
abbrev pub caught_up : List CopyState → List Effect → List CopyState
caught_up ps [] = ps
caught_up ps (e ∷ es) = caught_up (with_effect_at ps e.collection e) es

-- If the call came behind the copy, it can be run on it: it gets its reply, and there is room.
abbrev pub CanRepeat : CopyState → Effect → Type 0
CanRepeat p e = p.stamp < e.lsn →
    Answers p.collection.content e.call e.reply × IsRoomy (Reaches p.collection.content)

abbrev pub CanRepeatAt : List CopyState → ℕ → Effect → Type 0
CanRepeatAt [] at e = Unit {0}
CanRepeatAt (p ∷ ps) zero e = CanRepeat p e
CanRepeatAt (p ∷ ps) (suc at) e = CanRepeatAt ps at e

-- The calls can be run so, one after another.
abbrev pub CanCatchUp : List CopyState → List Effect → Type 0
CanCatchUp ps [] = Unit {0}
CanCatchUp ps (e ∷ es) =
    CanRepeatAt ps e.collection e × CanCatchUp (with_effect_at ps e.collection e) es

-- The first of the calls were repeated: the copies come to what they came to before.
pub record HaveRepeated (parts : List CopyState) (effects : List Effect)
    (new_parts : List CopyState) (left : List Effect) : Type 0 where
  pub done : List Effect
  pub are : effects ≡ done ++ left
  pub is : new_parts ≡ caught_up parts done

-- The first of the calls that were left are repeated, and nothing else changed.
pub record Repeats (old new : GatherState) : Type 0 where
  pub repeated : HaveRepeated old.parts old.effects new.parts new.effects
  pub mark : new.mark ≡ old.mark
  pub frozen : new.frozen ≡ old.frozen

-- ---- freezing and packing

-- Nothing changed but that the rest of the calls were taken, the head was noted, and records that
-- tell of the live transactions.
pub record Freezes (old : GatherState) (image_head : ImageHead) (live : Log) (effects : List Effect)
    (new : GatherState) : Type 0 where
  pub records : List Record
  pub tells : TellsTransactions live.live live.entries records
  pub is : new ≡ record old {
    effects = old.effects ++ effects;
    frozen = Some (record { image_head = image_head; live = records });
  }

-- The image is that of what was gathered, which is frozen: of what the copies come to.
pub record Packs (g : GatherState) (image : Image) : Type 0 where
  pub frozen : FrozenState
  pub is_frozen : g.frozen ≡ Some frozen
  pub packed : IsPacked (TellsGathered frozen.image_head.format frozen.image_head.next
      frozen.image_head.wear
      (gathered (caught_up g.parts g.effects)) frozen.live) image.blocks.items
  pub end : image.end ≡ frozen.image_head.end
  pub place : image.place ≡ frozen.image_head.place

-- ---- what holds of all that is gathered

abbrev pub IsFrozenWell : Option FrozenState → Type 0
IsFrozenWell None = Unit {0}
IsFrozenWell (Some f) = CanStand f.image_head.next f.image_head.wear f.live

-- What is left can be repeated, and all can be spelled.
pub record IsGathered (g : GatherState) : Type 0 where
  pub can : CanCatchUp g.parts g.effects
  pub short : AreShort widest (gathered g.parts)
  pub short_calls : AllByRecursion (λ e. IsShort widest e.call) g.effects
  pub frozen : IsFrozenWell g.frozen
