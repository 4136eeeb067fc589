-- What a turn answers.
use Rattle.std.proofs.Common.{◌≡◌, ◌∙◌, sym, [], ◌∷◌, None, List, ℕ, Bool, false, length, subst}
use Rattle.std.proofs.Common.{Option, Some}
use Rattle.std.proofs.Common.{OnOk, Result, Ok, Err, inr}
use Rattle.std.proofs.Common.{inl, refl}
use Rattle.disk_model.specs.Disk.{LeavesOnly}
use Rattle.disk_model.proofs.Walk.{started}
use Rattle.calls.specs.declared.refusal.Refusal.{Refusal}
use Rattle.gate_block.specs.Row.{SameOutside, IsRow}
use Rattle.gate_block.specs.declared.area.Area.{Area}
use Rattle.gate_block.specs.Area.{base_of, size_of, IsReady, LeavesBlocks}
use Rattle.records.specs.declared.block.Block.{Block}
use Rattle.checkpoint.specs.declared.turn.Turn.{Turn}
use Rattle.checkpoint.specs.declared.laying.Laying.{Laying}
use Rattle.checkpoint.specs.declared.stage.Stage.{Stage}
use Rattle.checkpoint.specs.Imaging.{IsLaidBeside, IsBeside, IsBeingLaid}
use Rattle.checkpoint.specs.Keepers.{KeeperState, IsKeeper, OnKept, AppendAnswers, BringAnswers}
use Rattle.checkpoint.specs.Keepers.{TurnAnswers, IsBrought}
use Rattle.checkpoint.proofs.Apart.{still_laid}

same_head : (b d : Block) → b ∷ [] ≡ d ∷ [] → b ≡ d
same_head b d e = cc

-- a turn that brings a block
pub brought : (holds : Option Block) (receives : List Block → Type 0) (was_empty : Type 0)
    (b : Block) (failed fails : Bool) (mark next : ℕ) (is_covered is_past is_full : Block → Type 0)
    (is_same is_risen : Type 0) (r : Result Turn Refusal) (held : Option Block) →
    IsBrought holds receives b → failed ≡ false →
    BringAnswers b mark (is_covered b) (is_past b) (is_full b) is_same is_risen r held next fails →
    TurnAnswers holds receives was_empty failed mark is_covered is_past is_full is_same is_risen r
    held next fails
brought holds receives was_empty b failed fails mark next is_covered is_past is_full is_same
    is_risen (Ok (Turn.Kept place)) held first not_failed a = (not_failed, (b, first, a))
brought holds receives was_empty b failed fails mark next is_covered is_past is_full is_same
    is_risen (Ok Turn.Held) held first not_failed a = (not_failed, (b, first, a))
brought holds receives was_empty b failed fails mark next is_covered is_past is_full is_same
    is_risen (Ok Turn.Idle) held first not_failed a = absurd a.2
brought holds receives was_empty b failed fails mark next is_covered is_past is_full is_same
    is_risen (Err Refusal.Failed) held first not_failed a = absurd a.2
brought holds receives was_empty b failed fails mark next is_covered is_past is_full is_same
    is_risen (Err e) held first not_failed a = (not_failed, (b, first, a))

-- a block that is neither covered nor past the image is brought as it is appended
pub appended : (b : Block) (mark next : ℕ) (is_covered is_past is_full is_same is_risen : Type 0)
    (r : Result Turn Refusal) (held : Option Block) (failed : Bool) → ¬ is_covered → ¬ is_past
    → AppendAnswers b mark is_full is_same is_risen r held next failed →
    BringAnswers b mark is_covered is_past is_full is_same is_risen r held next failed
appended b mark next is_covered is_past is_full is_same is_risen (Ok (Turn.Kept place)) held failed
    fresh near a = inr (fresh, near, a)
appended b mark next is_covered is_past is_full is_same is_risen (Ok Turn.Held) held failed fresh
    near a = absurd a
appended b mark next is_covered is_past is_full is_same is_risen (Ok Turn.Idle) held failed fresh
    near a = absurd a
appended b mark next is_covered is_past is_full is_same is_risen (Err e) held failed fresh near a =
    (fresh, near, a)

-- nothing was asked of the disk
pub unmoved : {D : Type 0} (seen : D → List ℕ) (may_leave : D → List ℕ → Type 0) (moment : D → ℕ)
    (left_since : D → ℕ → List ℕ → Type 0) (disk : D)
    → ((c : List ℕ) → left_since disk (moment disk) c → may_leave disk c) → (area : Area)
    (bodies : List (List ℕ)) (body : List ℕ) → IsReady seen may_leave area disk bodies →
    LeavesOnly moment left_since disk disk (LeavesBlocks (may_leave disk) area bodies body)
unmoved seen may_leave moment left_since disk only_now area bodies body ready =
    started moment left_since disk (LeavesBlocks (may_leave disk) area bodies body)
    (λ c left. let now = only_now c left in record {
      blocks = inl (subst (λ l. IsRow bodies l) (sym (ready.at_rest c now)) ready.holds);
      elsewhere = (c, now, record { before = refl; after = refl; same_size = refl });
    })

-- where an append that was answered well has led to P, so has one that kept a block
pub kept_of : (P : Type 0) (r : Result Turn Refusal) → OnOk r P → OnKept r P
kept_of P (Ok (Turn.Kept place)) p = p
kept_of P (Ok Turn.Idle) p = tt
kept_of P (Ok Turn.Held) p = tt
kept_of P (Err e) p = tt

-- the block that a turn brings is one
pub brought_once : (holds : Option Block) (receives : List Block → Type 0) →
    ((xs ys : List Block) → receives xs → receives ys → xs ≡ ys) → (b d : Block) →
    IsBrought holds receives b → IsBrought holds receives d → b ≡ d
brought_once None receives one_list b d first second =
    same_head b d (one_list (b ∷ []) (d ∷ []) first second)
brought_once (Some h) receives one_list b d first second = first.0 ∙ sym second.0

-- an image that is here is laid into the other area
pub beside_is : {D : Type 0} (seen : D → List ℕ) (k : KeeperState D) (w : Laying) →
    IsKeeper seen k → k.stage ≡ Stage.Laid w → IsLaidBeside k.area k.failed w
beside_is seen k w held is = subst (λ (s : Stage). IsBeside k.area k.failed s) is held.beside

-- what was laid of it stays where the area in use alone changes
pub laid_on : {D : Type 0} (seen : D → List ℕ) (k : KeeperState D) (w : Laying) (s : List ℕ)
    (bodies : List (List ℕ)) → IsKeeper seen k → k.stage ≡ Stage.Laid w →
    SameOutside (base_of k.area) (size_of k.area) (seen k.disk) s →
    IsBeingLaid w (seen k.disk) bodies → IsBeingLaid w s bodies
laid_on seen k w s bodies held is same was =
    still_laid k.area (length (seen k.disk)) w (seen k.disk) s bodies held.one
    (beside_is seen k w held is).other same was
