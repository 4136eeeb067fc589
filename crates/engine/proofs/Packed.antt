-- What is packed of what was gathered, and what is left of it.
use Rattle.std.proofs.Common.{◌≡◌, ◌≢◌, ◌⊎◌, inl, inr, List, Option, Some, None, Result, Ok, Err}
use Rattle.std.proofs.Common.{refl, sym, ◌∙◌, subst}
use Rattle.std.specs.Prelude.{OnOk}
use Rattle.calls.specs.Contents.{Collection}
use Rattle.calls.specs.declared.refusal.Refusal.{Refusal}
use Rattle.images.specs.declared.gather.ImageHead.{ImageHead}
use Rattle.records.specs.declared.block.Image.{Image}
use Rattle.images.specs.Gathers.{GatherState, FrozenState, gathered, Repeats, Packs}
use Rattle.images.specs.Gathers.{nothing_gathered}
use Rattle.images.specs.Images.{IsPacked, TellsGathered}
use Rattle.images.proofs.Repeats.{repeated_none, repeated_same}
use Rattle.txn.specs.Books.{BookState}
use Rattle.txn.specs.Freezing.{FreezeAnswers}
use Rattle.engine.specs.Gatherings.{IsHeadOf, unless_outrun}

pub repeats_none : (g : GatherState) → Repeats g g
repeats_none g =
    record { repeated = repeated_none g.parts g.effects; mark = refl; frozen = refl }

-- What is packed behind a repetition could be packed before.
pub packed_before : (g h : GatherState) (image : Image) → Repeats g h → Packs h image →
    Packs g image
packed_before g h image repeats packs = record {
  frozen = packs.frozen;
  is_frozen = sym repeats.frozen ∙ packs.is_frozen;
  packed = subst (λ ps. IsPacked (TellsGathered packs.frozen.image_head.format
      packs.frozen.image_head.next
      packs.frozen.image_head.wear
      (gathered ps) packs.frozen.live) image.blocks.items)
      (repeated_same g.parts h.parts g.effects h.effects repeats.repeated) packs.packed;
  end = packs.end;
  place = packs.place;
}

-- ---- the head of what is frozen

same_head : (a b : ImageHead) → ◌≡◌ {A = Option ImageHead} (Some a) (Some b) → a ≡ b
same_head a b both = cc

-- there is one
pub one_head : (g : GatherState) (a b : ImageHead) → IsHeadOf g a → IsHeadOf g b → a ≡ b
one_head g a b p q = same_head a b (p ∙ sym q)

none_some : {X : Type 0} (x : X) → ◌≡◌ {A = Option X} None (Some x) → ⊥
none_some x both = cc

-- what a book froze is frozen
pub froze_there : {S : Type 0} (collections : S → List Collection) (b c : BookState S)
    (m n : GatherState) (frozen : Result (Unit {0}) Refusal) →
    FreezeAnswers collections b m frozen c n → OnOk frozen (n.frozen ≢ None)
froze_there collections b c m n (Ok done) froze =
    λ none. none_some froze.1.frozen (sym none ∙ froze.1.is_frozen)
froze_there collections b c m n (Err e) froze = tt

-- ---- what is given up

pub outrun_or : (frozen : Option FrozenState) (e : Refusal) (g : GatherState) →
    (unless_outrun frozen e g ≡ g) ⊎ (unless_outrun frozen e g ≡ nothing_gathered)
outrun_or None Refusal.Outrun g = inr refl
outrun_or None e g = inl refl
outrun_or (Some f) e g = inl refl

-- what is left is frozen no more than before
pub outrun_unfrozen : (frozen : Option FrozenState) (e : Refusal) (g : GatherState) →
    g.frozen ≡ None → (unless_outrun frozen e g).frozen ≡ None
outrun_unfrozen None Refusal.Outrun g none = refl
outrun_unfrozen None e g none = none
outrun_unfrozen (Some f) e g none = none
