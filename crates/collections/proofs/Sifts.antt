-- A holder that moves up or down in a heap.
use Rattle.std.proofs.Common.{◌≡◌, ℕ, zero, suc, ◌+◌, ◌-◌, ◌*◌, ◌/◌, ◌<◌, ◌≤◌, true}
use Rattle.std.proofs.Common.{List, ◌++◌, length, get_or, ◌∙◌, ap, arith}
use Rattle.std.proofs.Common.{⊎_elim, take}
use Rattle.std.proofs.lemmas.Bool.{cases_eq}
use Rattle.std.proofs.lemmas.Cmp.{tied_itself}
use Rattle.std.proofs.lemmas.List.{get_or_default, take-append-le, take_all}
use Rattle.std.proofs.lemmas.List.MinMax.{ranks_by}
use Rattle.std.proofs.lemmas.List.Sorted.{sorted_far}
use Rattle.std.specs.Cmp.{IsStrictWeakOrder}
use Rattle.std.specs.List.{SwappedAt}
use Rattle.std.specs.List.Sorted.{IsSortedBy}
use Rattle.std.specs.Ordering.{is_lt}
use Rattle.calls.proofs.BagPoints.{pair_cmp_total}
use Rattle.collections.specs.declared.heap.Holder.{Holder}
use Rattle.collections.specs.Holders.{pair_of, is_before, IsUpTo, IsHeap, IsLeastChild, RisesAt}
use Rattle.collections.specs.Holders.{SinksAt}

orders : IsStrictWeakOrder is_before
orders = ranks_by pair_cmp_total pair_of

itself : (x : Holder) → IsUpTo x x
itself x = ap is_lt (tied_itself pair_cmp_total (pair_of x))

pub trans : (x y z : Holder) → IsUpTo x y → IsUpTo y z → IsUpTo x z
trans x y z a b = orders.chain z y x b a

pub up_to : (x y : Holder) → is_before x y ≡ true → IsUpTo x y
up_to x y e = orders.one_way x y e

by : (a b x y : Holder) → a ≡ x → b ≡ y → IsUpTo x y → IsUpTo a b
by a b x y p q h = (λ k. is_before (q k) (p k)) ∙ h

-- an order of two that stand in a list
pub between : (hs : List Holder) (a b : ℕ) (x : Holder) → a < length hs → b < length hs →
    IsUpTo (get_or hs a x) (get_or hs b x) → (d : Holder) → IsUpTo (get_or hs a d) (get_or hs b d)
between hs a b x l m h d = by _ _ _ _ (get_or_default hs a d x l) (get_or_default hs b d x m) h

either : {P : Type 0} (a b : ℕ) → (a ≡ b → P) → ((a ≡ b → ⊥) → P) → P
either a b y n = ⊎_elim y n (cases_eq a b)

module _ (xs ys : List Holder) (a b : ℕ) (from : b * 2 + 1 ≤ a) (to : a ≤ b * 2 + 2)
    (inside : a < length xs) (long : length ys ≡ length xs) where
  -- the holder at a goes up to b
  pub rises : SwappedAt xs ys a b → ((d : Holder) → IsUpTo (get_or xs a d) (get_or xs b d)) →
      RisesAt xs a → RisesAt ys b
  rises sw less h =
      let at_a = λ (k : ℕ) (d : Holder) (e : k ≡ a). ap (λ m. get_or ys m d) e ∙ sw.0 d in
      let at_b = λ (k : ℕ) (d : Holder) (e : k ≡ b). ap (λ m. get_or ys m d) e ∙ sw.1 d in
      record {
        order = λ p k d lo hi l ne. either k a
            (λ e. by _ _ _ _ (at_b p d (omega arith)) (at_a k d e) (less d))
            (λ n. either p a
            (λ e. by _ _ _ _ (at_a p d e) (sw.2 k d n ne)
            (h.skips b k d from to (omega arith) (omega arith) (omega arith)))
            (λ m. either p b
            (λ e. by _ _ _ _ (at_b p d e) (sw.2 k d n ne)
            (trans (get_or xs a d) (get_or xs b d) (get_or xs k d) (less d)
            (h.order b k d (omega arith) (omega arith) (omega arith) n)))
            (λ o. by _ _ _ _ (sw.2 p d m o) (sw.2 k d n ne)
            (h.order p k d lo hi (omega arith) n))));
        skips = λ p k d f g i j l.
            let over = h.order p b d f g (omega arith) (omega arith) in
            let same = sw.2 p d (omega arith) (omega arith) in
            either k a
            (λ e. by _ _ _ _ same (at_a k d e) over)
            (λ n. by _ _ _ _ same (sw.2 k d n (omega arith))
            (trans (get_or xs p d) (get_or xs b d) (get_or xs k d) over
            (h.order b k d i j (omega arith) n)));
      }

  -- the holder at b goes down to a
  pub sinks : SwappedAt xs ys b a → ((d : Holder) → IsUpTo (get_or xs a d) (get_or xs b d)) →
      IsLeastChild xs b a → SinksAt xs b → SinksAt ys a
  sinks sw less least h =
      let at_b = λ (k : ℕ) (d : Holder) (e : k ≡ b). ap (λ m. get_or ys m d) e ∙ sw.0 d in
      let at_a = λ (k : ℕ) (d : Holder) (e : k ≡ a). ap (λ m. get_or ys m d) e ∙ sw.1 d in
      record {
        order = λ p k d lo hi l ne. either p b
            (λ e. either k a
            (λ i. by _ _ _ _ (at_b p d e) (at_a k d i) (less d))
            (λ n. by _ _ _ _ (at_b p d e) (sw.2 k d (omega arith) n)
            (least k d (omega arith) (omega arith) (omega arith))))
            (λ m. either k b
            (λ e. by _ _ _ _ (sw.2 p d m ne) (at_b k d e)
            (h.skips p a d (omega arith) (omega arith) from to inside))
            (λ n. by _ _ _ _ (sw.2 p d m ne) (sw.2 k d n (omega arith))
            (h.order p k d lo hi (omega arith) m)));
        skips = λ p k d f g i j l. by _ _ _ _ (at_b p d (omega arith))
            (sw.2 k d (omega arith) (omega arith)) (h.order a k d i j (omega arith) (omega arith));
      }

module _ (hs : List Holder) (j : ℕ) where
  pub sinks_no_more : (c : ℕ) → ((d : Holder) → IsUpTo (get_or hs j d) (get_or hs c d)) →
      IsLeastChild hs j c → SinksAt hs j → IsHeap hs
  sinks_no_more c up least h = record {
    order = λ p k d lo hi l. either p j
        (λ e. rw e (trans (get_or hs j d) (get_or hs c d) (get_or hs k d) (up d)
        (least k d (omega arith) (omega arith) l)))
        (λ n. h.order p k d lo hi l n);
  }

-- The root is at most each holder.
root_from : (hs : List Holder) (d : Holder) → IsHeap hs → (fuel k : ℕ) → k ≤ fuel →
    k < length hs → IsUpTo (get_or hs 0 d) (get_or hs k d)
root_from hs d h zero k f l = let e : k ≡ 0 = omega arith in rw e (itself (get_or hs 0 d))
root_from hs d h (suc fuel) k f l = either k 0
    (λ e. rw e (itself (get_or hs 0 d)))
    (λ n. trans (get_or hs 0 d) (get_or hs ((k - 1) / 2) d) (get_or hs k d)
    (root_from hs d h fuel ((k - 1) / 2) (omega arith) (omega arith))
    (h.order ((k - 1) / 2) k d (omega arith) (omega arith) l))

pub root_least : (hs : List Holder) (k : ℕ) (d : Holder) → IsHeap hs → k < length hs →
    IsUpTo (get_or hs 0 d) (get_or hs k d)
root_least hs k d h l = root_from hs d h k k (omega arith) l

-- A list in order is a heap.
pub in_order : (hs : List Holder) → IsSortedBy is_before hs → IsHeap hs
in_order hs up = record {
  order = λ p k d lo hi l. sorted_far is_before orders hs up p k d (omega arith) l;
}

-- what a slice of a whole Vec leaves of it
pub whole : {X : Type 0} (n : ℕ) (xs ys : List X) → n ≡ length xs → take n (xs ++ ys) ≡ xs
whole n xs ys e = take-append-le n xs ys (omega arith) ∙ take_all n xs (omega arith)
