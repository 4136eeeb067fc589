-- A binary heap of pairs, the least at the root, of which some are marked as plucked.
use Rattle.std.specs.Prelude.{◌≡◌, ℕ, ◌+◌, ◌*◌, ◌<◌, ◌≤◌, Bool, false, cond, List, [], ◌∷◌}
use Rattle.std.specs.Prelude.{length, slice_index_or, ◌≢◌, map, filter, not, true, IsPermutation}
use Rattle.std.specs.List.{count_by}
use Rattle.std.specs.Ordering.{is_lt}
use Rattle.std.specs.FinMap.{empty}
use Rattle.calls.specs.Bags.{Bag, pair_cmp, add}
use Rattle.collections.specs.declared.heap.Holder.{Holder}

abbrev pub pair_of : Holder → ℕ × ℕ
pair_of h = (h.priority, h.tag)

-- a holder of the pair that is not marked
abbrev pub live : ℕ → ℕ → Holder
live p g = record { priority = p; tag = g; marked = false }

-- The bag of the pairs that are not marked.
abbrev pub bag_of : List Holder → Bag
bag_of [] = empty
bag_of (h ∷ hs) = cond h.marked (bag_of hs) (add (bag_of hs) (pair_of h))

-- how many are marked
abbrev pub marks_of : List Holder → ℕ
marks_of hs = count_by (λ h. h.marked) hs

-- whether x has a lesser pair than y
abbrev pub is_before : Holder → Holder → Bool
is_before x y = is_lt (pair_cmp (pair_of x) (pair_of y))

-- The pair of x is at most that of y, so x may stand above y.
abbrev pub IsUpTo : Holder → Holder → Type 0
IsUpTo x y = is_before y x ≡ false

-- No holder is less than the one above it: below the one at p stand those at p * 2 + 1 and p * 2 +
-- 2.
pub record IsHeap (hs : List Holder) : Type 0 where
  pub order : (p k : ℕ) (d : Holder) → p * 2 + 1 ≤ k → k ≤ p * 2 + 2 → k < length hs →
      IsUpTo (slice_index_or hs p d) (slice_index_or hs k d)

-- Where a holder stands at the place, it is not marked.
abbrev pub IsLiveAt : List Holder → ℕ → Type 0
IsLiveAt hs k = (d : Holder) → k < length hs → (slice_index_or hs k d).marked ≡ false

-- There is a root, and it is marked.
pub record HasMarkedRoot (hs : List Holder) : Type 0 where
  pub some : 0 < length hs
  pub is_marked : (d : Holder) → (slice_index_or hs 0 d).marked ≡ true

-- The holders, in some order, are the root and these.
abbrev pub IsWithoutRoot : List Holder → List Holder → Type 0
IsWithoutRoot hs ks = (d : Holder) → IsPermutation hs (slice_index_or hs 0 d ∷ ks)

-- At the place stands a copy of the pair that is not marked.
pub record IsCopyAt (hs : List Holder) (k p g : ℕ) : Type 0 where
  pub within : k < length hs
  pub there : (d : Holder) → slice_index_or hs k d ≡ live p g

-- No copy of the pair stands there that is not marked.
abbrev pub HasNoCopy : List Holder → ℕ → ℕ → Type 0
HasNoCopy hs p g =
    (k : ℕ) (d : Holder) → k < length hs → slice_index_or hs k d ≡ live p g → ⊥

-- what stands above the place is at most what stands below it
abbrev pub Skips : List Holder → ℕ → Type 0
Skips hs j = (p k : ℕ) (d : Holder) → p * 2 + 1 ≤ j → j ≤ p * 2 + 2 → j * 2 + 1 ≤ k →
    k ≤ j * 2 + 2 → k < length hs → IsUpTo (slice_index_or hs p d) (slice_index_or hs k d)

-- The holders are a heap, but that the one at j may be less than the one above it.
pub record RisesAt (hs : List Holder) (j : ℕ) : Type 0 where
  pub order : (p k : ℕ) (d : Holder) → p * 2 + 1 ≤ k → k ≤ p * 2 + 2 → k < length hs → k ≢ j →
      IsUpTo (slice_index_or hs p d) (slice_index_or hs k d)
  pub skips : Skips hs j

-- The holders are a heap, but that the one at j may be greater than one below it.
pub record SinksAt (hs : List Holder) (j : ℕ) : Type 0 where
  pub order : (p k : ℕ) (d : Holder) → p * 2 + 1 ≤ k → k ≤ p * 2 + 2 → k < length hs → p ≢ j →
      IsUpTo (slice_index_or hs p d) (slice_index_or hs k d)
  pub skips : Skips hs j

-- The holder at c is at most each that stands below j.
abbrev pub IsLeastChild : List Holder → ℕ → ℕ → Type 0
IsLeastChild hs j c = (k : ℕ) (d : Holder) → j * 2 + 1 ≤ k → k ≤ j * 2 + 2 → k < length hs →
    IsUpTo (slice_index_or hs c d) (slice_index_or hs k d)

-- The rules on the holders of a queue, of which so many are marked: they are a heap, the root is
-- not marked, and no more are marked than not.
pub record AreKept (hs : List Holder) (marked : ℕ) : Type 0 where
  pub heap : IsHeap hs
  pub root : IsLiveAt hs 0
  pub marks : marked ≡ marks_of hs
  pub fewer : marked * 2 ≤ length hs

-- The pairs that are not marked.
abbrev pub live_pairs : List Holder → List (ℕ × ℕ)
live_pairs hs = map pair_of (filter (λ h. not h.marked) hs)
