-- A checkpoint: the collections are copied one by one, the book is frozen, its image packed,
-- written piece by piece, and made the store.
use Rattle.std.specs.Prelude.{◌≡◌, ◌⊎◌, ℕ, zero, suc, ◌<◌, Bool, true, false, [], ◌∷◌, ◌++◌}
use Rattle.std.specs.Prelude.{length, Option, None, Some, unwrap_or, is_some, Result, Ok, Err}
use Rattle.std.specs.List.{AllByRecursion}
use Rattle.calls.specs.Limits.{max_collections}
use Rattle.calls.specs.declared.refusal.Refusal.{Refusal}
use Rattle.disk_model.specs.declared.disk.Disk.{Ghosts}
use Rattle.checkpoint.specs.Imaging.{pieces_left}
use Rattle.world.specs.declared.step.Step.{Step}
use Rattle.world.specs.declared.step.Answer.{Answer}
use Rattle.world.specs.Moves.{Whole}
use Rattle.world.specs.Pasts.{Past, alone}
use Rattle.talks.specs.Plays.{Plays, Tries}

-- how many pieces of the image in progress are not yet written, if one is in progress
abbrev pub left_in : {D : Type 0} → Whole D → Option ℕ
left_in w = pieces_left w.keeper.stage

-- so many collections were copied, each with another one left
abbrev pub copied : ℕ → Past
copied zero = []
copied (suc k) = (Step.Gather, Answer.Gathered true) ∷ copied k

-- With this one all are copied; or so many were as a book has at most.
abbrev pub CopiesLast : ℕ → Past → Type 0
CopiesLast k steps = ((k < max_collections) × (steps ≡ (Step.Gather, Answer.Gathered false) ∷ [])) ⊎
    ((k ≡ max_collections) × (steps ≡ []))

-- Collections are copied until none is left, at most so many as a store has; or that is refused.
abbrev pub Gathers : Result (Unit {0}) Refusal → Past → Type 0
Gathers (Ok done) steps =
    (k : ℕ) × (last : Past) × CopiesLast k last × (steps ≡ copied k ++ last)
Gathers (Err e) steps = (k : ℕ) × (last : Past) × (k < max_collections) ×
    Tries {T = Bool} Step.Gather Answer.Gathered (Err e) last × (steps ≡ copied k ++ last)

-- once all collections are copied, the book is frozen
abbrev pub FreezesAs : Result (Unit {0}) Refusal → Result (Unit {0}) Refusal → Past → Type 0
FreezesAs (Ok done) r steps = Tries Step.Freeze (alone Answer.Frozen) r steps
FreezesAs (Err e) r steps = (r ≡ Err e) × (steps ≡ [])

-- All collections are copied, and then the book is frozen; unless it is frozen.
abbrev pub Freezes : Bool → Result (Unit {0}) Refusal → Past → Type 0
Freezes true r steps = (r ≡ Ok tt) × (steps ≡ [])
Freezes false r steps = (gathered : Result (Unit {0}) Refusal) × (first last : Past) ×
    Gathers gathered first × FreezesAs gathered r last × (steps ≡ first ++ last)

-- once the book is frozen, its image is packed and begun
abbrev pub PacksAs : Result (Unit {0}) Refusal → Result (Unit {0}) Refusal → Past → Type 0
PacksAs (Ok done) r steps = Tries Step.Pack (alone Answer.Packed) r steps
PacksAs (Err e) r steps = (r ≡ Err e) × (steps ≡ [])

-- The book is frozen, unless it is, and its image begun.
abbrev pub BeginsNow : Bool → Result (Unit {0}) Refusal → Past → Type 0
BeginsNow is_frozen r steps = (frozen : Result (Unit {0}) Refusal) × (first last : Past) ×
    Freezes is_frozen frozen first × PacksAs frozen r last × (steps ≡ first ++ last)

-- The same, unless an image is in progress.
abbrev pub Begins : Option ℕ → Bool → Result (Unit {0}) Refusal → Past → Type 0
Begins None is_frozen r steps = BeginsNow is_frozen r steps
Begins (Some n) is_frozen r steps = (r ≡ Ok tt) × (steps ≡ [])

-- what is gathered is frozen
abbrev pub is_frozen : {D : Type 0} → Whole D → Bool
is_frozen w = is_some w.gather.frozen

-- a piece was written
abbrev pub IsPieceLaid : Step × Answer → Type 0
IsPieceLaid x = (more : Bool) × (x ≡ (Step.Piece, Answer.Laid more))

-- So many pieces are written; or fewer, and then one is refused.
abbrev pub Lays : ℕ → Result (Unit {0}) Refusal → Past → Type 0
Lays n (Ok done) steps = AllByRecursion IsPieceLaid steps × (length steps ≡ n)
Lays n (Err e) steps = (first last : Past) × AllByRecursion IsPieceLaid first × (length first < n) ×
    Tries {T = Bool} Step.Piece Answer.Laid (Err e) last × (steps ≡ first ++ last)

-- once all pieces are written, the image is made the store
abbrev pub FlipsAs : Result (Unit {0}) Refusal → Result ℕ Refusal → Past → Type 0
FlipsAs (Ok done) r steps = Tries Step.Flip Answer.Flipped r steps
FlipsAs (Err e) r steps = (r ≡ Err e) × (steps ≡ [])

-- So many pieces are written, and then the image is made the store.
abbrev pub Finishes : ℕ → Result ℕ Refusal → Past → Type 0
Finishes n r steps = (laid : Result (Unit {0}) Refusal) × (first last : Past) × Lays n laid first ×
    FlipsAs laid r last × (steps ≡ first ++ last)

-- the same, once an image is in progress
abbrev pub FinishesAs : ℕ → Result (Unit {0}) Refusal → Result ℕ Refusal → Past → Type 0
FinishesAs n (Ok done) r steps = Finishes n r steps
FinishesAs n (Err e) r steps = (r ≡ Err e) × (steps ≡ [])

-- An image is begun, unless one is in progress. Behind that, in the world that is left by it, the
-- pieces that are left are written, and the image is made the store, of which this is the result;
-- or the first refusal is.
pub record Checkpoints {D : Type 0} (g : Ghosts D) (old : Whole D) (r : Result ℕ Refusal)
    (new : Whole D) : Type 0 where
  pub begun : Result (Unit {0}) Refusal
  pub first : Past
  pub last : Past
  pub mid : Whole D
  pub begins : Begins (left_in old) (is_frozen old) begun first
  pub before : Plays g old first mid
  pub finishes : FinishesAs (unwrap_or (left_in mid) 0) begun r last
  pub behind : Plays g mid last new
  pub whole : Plays g old (first ++ last) new
