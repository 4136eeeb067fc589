-- An upgrade: where its keeper writes.
use Rattle.std.proofs.Common.{◌≡◌, ⊎_elim, ℕ, ◌+◌, ◌≤◌, List, refl, sym, ◌∙◌, ap}
use Rattle.std.proofs.Common.{subst, arith, Bool, Ok, Err}
use Rattle.calls.specs.declared.format.Format.{Format}
use Rattle.calls.specs.declared.refusal.Refusal.{Refusal}
use Rattle.disk_model.specs.Disk.{Torn}
use Rattle.disk_model.specs.declared.disk.Disk.{Ghosts}
use Rattle.gate_block.specs.declared.area.Area.{Area}
use Rattle.gate_block.specs.Row.{SameOutside}
use Rattle.gate_block.specs.Area.{base_of, size_of}
use Rattle.gate_block.specs.Layout.{base_in_use}
use Rattle.records.specs.declared.block.Image.{Image}
use Rattle.replay.specs.Journals.{IsHeader}
use Rattle.checkpoint.specs.declared.laying.Laying.{Laying}
use Rattle.checkpoint.specs.declared.stage.Stage.{Stage}
use Rattle.checkpoint.specs.Imaging.{IsOther, HasPlainRoot}
use Rattle.checkpoint.specs.ImageAnswers.{BeginAnswers, PieceAnswers, FlipAnswers, IsStarted}
use Rattle.checkpoint.specs.Keepers.{KeeperState, IsOneOfTwo}
use Rattle.checkpoint.proofs.HeadLemmas.{head_header, same_front}
use Rattle.recovery.specs.Upgrades.{IsFlippedTo, HasFlipped, HasFlippedTo}

one_laid : (w v : Laying) → Stage.Laid w ≡ Stage.Laid v → w ≡ v
one_laid w v e = cc

outside_then : (base size : ℕ) (a b c : List ℕ) → SameOutside base size a b →
    SameOutside base size b c → SameOutside base size a c
outside_then base size a b c first second = record {
  before = second.before ∙ first.before;
  after = second.after ∙ first.after;
  same_size = second.same_size ∙ first.same_size;
}

-- where the area is another one, nothing changed outside of it
outside_as : (area other : Area) (a b : List ℕ) → base_of other ≡ base_of area →
    size_of other ≡ size_of area → SameOutside (base_of other) (size_of other) a b →
    SameOutside (base_of area) (size_of area) a b
outside_as area other a b base size outside =
    subst (λ n. SameOutside (base_of area) n a b) size
    (subst (λ n. SameOutside n (size_of other) a b) base outside)

-- ---- an image is laid in its area

module _ {D : Type 0} (g : Ghosts D) where
  -- From the first keeper on blocks of the image in progress were laid in its area, and nothing was
  -- written elsewhere.
  abbrev pub LaidBeside : KeeperState D → KeeperState D → Type 0
  LaidBeside k l = (w : Laying) → k.stage ≡ Stage.Laid w →
      (v : Laying) × (l.stage ≡ Stage.Laid v) × (base_of v.area ≡ base_of w.area) ×
      (size_of v.area ≡ size_of w.area) ×
      SameOutside (base_of w.area) (size_of w.area) (g.seen k.disk) (g.seen l.disk)

  pub laid_nothing : (k : KeeperState D) → LaidBeside k k
  laid_nothing k w is =
      (w, is, refl, refl, record { before = refl; after = refl; same_size = refl })

  pub laid_more : (k l m : KeeperState D) → LaidBeside k l → (risen : Type 0) (more : Bool) →
      PieceAnswers l risen m (Ok more) → ((w : Laying) → l.stage ≡ Stage.Laid w →
      SameOutside (base_of w.area) (size_of w.area) (g.seen l.disk) (g.seen m.disk)) →
      LaidBeside k m
  laid_more k l m so_far risen more answer elsewhere w is =
      let was = so_far w is in
      let same : answer.1.0 ≡ was.0 =
      one_laid answer.1.0 was.0 (sym answer.1.2 ∙ was.1) in
      let image = answer.1.3.same in (
        answer.1.1,
        ap (λ (x : KeeperState D). x.stage) answer.1.4,
        image.base ∙ ap (λ (v : Laying). base_of v.area) same ∙ was.2,
        image.size ∙ ap (λ (v : Laying). size_of v.area) same ∙ was.3,
        outside_then (base_of w.area) (size_of w.area) (g.seen k.disk) (g.seen l.disk)
            (g.seen m.disk) was.4
            (outside_as w.area was.0.area (g.seen l.disk) (g.seen m.disk) was.2 was.3
            (elsewhere was.0 was.1)),
      )

  -- and the root byte picks that area
  pub flipped_to : (k j m : KeeperState D) → LaidBeside k j → (risen : Type 0) (mark : ℕ) →
      FlipAnswers j risen m (Ok mark) → Torn 512 1 (g.seen j.disk) (g.seen m.disk) →
      base_in_use (size_of m.area) (g.seen m.disk) ≡ base_of m.area →
      HasPlainRoot (base_of m.area) (g.seen m.disk) → (w : Laying) → k.stage ≡ Stage.Laid w →
      HasFlippedTo g w k m
  flipped_to k j m so_far risen mark answer torn picks plain w is =
      let was = so_far w is in
      let same : answer.1.0 ≡ was.0 =
      one_laid answer.1.0 was.0 (sym answer.1.1 ∙ was.1) in
      let area : m.area ≡ answer.1.0.area =
      ap (λ (x : KeeperState D). x.area) answer.1.3.1 in
      let base : base_of m.area ≡ base_of w.area =
      ap base_of area ∙ ap (λ (v : Laying). base_of v.area) same ∙ was.2 in
      let size : size_of m.area ≡ size_of w.area =
      ap size_of area ∙ ap (λ (v : Laying). size_of v.area) same ∙ was.3 in
      record {
        base = base;
        size = size;
        flipped = record {
          laid = g.seen j.disk;
          beside = outside_as m.area w.area (g.seen k.disk) (g.seen j.disk) (sym base) (sym size)
              was.4;
          root = torn;
          picks = picks;
          plain = plain;
        };
      }

  -- ---- from before its end was held

  module _ (k h b : KeeperState D) (image : Image)
      (held : h ≡ record k { stage = Stage.Awaited (record { end = 0; place = 0 }) }) where
    pub has_flipped : (m : KeeperState D) (other : Area) → IsStarted h.area other →
        b ≡ record h { stage = Stage.Laid (record { area = other; image = image }) } →
        HasFlippedTo g (record { area = other; image = image }) b m → HasFlipped g k m
    has_flipped m other started begun to =
        let area : h.area ≡ k.area = ap (λ (x : KeeperState D). x.area) held in
        let disk : b.disk ≡ k.disk =
        ap (λ (x : KeeperState D). x.disk) begun ∙ ap (λ (x : KeeperState D). x.disk) held in
        record {
          is_other = record {
            size = to.size ∙ started.other.size ∙ ap size_of area;
            base = omega (
              arith,
              to.base,
              started.other.base,
              ap base_of area,
              ap size_of area,
            );
          };
          flipped = subst (λ d. IsFlippedTo m.area (g.seen d) (g.seen m.disk)) disk to.flipped;
        }

    -- an image that is not begun leaves the disk
    pub begin_unwritten : (e : Refusal) → BeginAnswers h image 0 b (Err e) → b.disk ≡ k.disk
    begin_unwritten Refusal.Failed a =
        ap (λ (x : KeeperState D). x.disk) a.1 ∙ ap (λ (x : KeeperState D). x.disk) held
    begin_unwritten Refusal.Full a =
        ap (λ (x : KeeperState D). x.disk) a.3 ∙ ap (λ (x : KeeperState D). x.disk) held
    begin_unwritten e a =
        ap (λ (x : KeeperState D). x.disk) a.2 ∙ ap (λ (x : KeeperState D). x.disk) held

-- ---- the head stays

pub other_far : (area other : Area) (bytes : ℕ) → IsOneOfTwo area bytes → IsOther area other →
    4096 ≤ base_of other
other_far area other bytes one is =
    ⊎_elim (λ (first : base_of area ≡ 4096). omega (arith, first, is.base))
    (λ (second : base_of area ≡ 4096 + size_of area). omega (arith, second, is.base)) one.base

pub flipped_header : (other : Area) (mid new : List ℕ) → 4096 ≤ base_of other →
    IsFlippedTo other mid new → (version : Format) (size : ℕ) → IsHeader version size mid →
    IsHeader version size new
flipped_header other mid new far flipped version size header =
    head_header version size 512 mid new (omega arith)
    (flipped.root.before ∙
    same_front 512 (base_of other) flipped.laid mid (omega (arith, far)) flipped.beside.before)
    (flipped.root.size ∙ flipped.beside.same_size) header
