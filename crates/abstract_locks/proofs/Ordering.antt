-- The order of the holds, and where a search of a rising list ends.
use Rattle.std.proofs.Common.{◌≡◌, ◌∙◌, ℕ, zero, suc, ◌+◌, ◌<◌, List, [], ◌∷◌, length, get_or}
use Rattle.std.proofs.Common.{Result, Ok, Err, Less, Equal, Greater, true, false, refl, sym, ap}
use Rattle.std.proofs.Common.{subst, arith}
use Rattle.std.specs.Cmp.{IsTotalOrder, tied_itself}
use Rattle.std.specs.Cmp.Lexicographic.{on_texts}
use Rattle.std.specs.List.Sorted.{IsBinarySearchResult, IsSearchInRange, IsSortedBy}
use Rattle.std.specs.Ordering.{is_lt, is_le, nat_cmp, ordering_reverse, ordering_then}
use Rattle.std.specs.declared.cmp.Ordering.{Ordering}
use Rattle.std.proofs.lemmas.List.{length-take, length-drop, get_or-take, get_or-drop}
use Rattle.std.proofs.lemmas.List.Sorted.{searchable_from_sorted}
use Rattle.std.proofs.lemmas.Map.Lookups.{exact_bytes}
use Rattle.calls.specs.Modes.{rank}
use Rattle.calls.proofs.ModeLaws.{same_mode}
use Rattle.abstract_locks.specs.declared.table.Hold.{Hold}
use Rattle.abstract_locks.specs.Order.{key, compare, compare_rest}
use Rattle.abstract_locks.specs.Order.{Precedes, Rises, IsPlace}

pub order : IsTotalOrder compare
unfolding compare
order = on_texts key

chain : (a b c d : Ordering) → ordering_then (ordering_then (ordering_then a b) c) d
    ≡ ordering_then a (ordering_then b (ordering_then c (ordering_then d Equal)))
chain Less b c d = refl
chain Greater b c d = refl
chain Equal Less c d = refl
chain Equal Greater c d = refl
chain Equal Equal Less d = refl
chain Equal Equal Greater d = refl
chain Equal Equal Equal Less = refl
chain Equal Equal Equal Equal = refl
chain Equal Equal Equal Greater = refl

-- number by number
pub compared : (h g : Hold) →
    ordering_then (ordering_then (ordering_then (nat_cmp h.owner g.owner)
    (nat_cmp h.need.high g.need.high)) (nat_cmp (rank h.need.mode) (rank g.need.mode)))
    (nat_cmp h.at g.at) ≡ compare_rest h g
unfolding compare_rest
compared h g = chain (nat_cmp h.owner g.owner) (nat_cmp h.need.high g.need.high)
    (nat_cmp (rank h.need.mode) (rank g.need.mode)) (nat_cmp h.at g.at)

-- by the lowest keys first
pub by_low : (h g : Hold) (r : Ordering) → nat_cmp h.need.low g.need.low ≡ r →
    ordering_then r (compare_rest h g) ≡ compare h g
unfolding compare compare_rest
by_low h g r is = ap (λ o. ordering_then o (compare_rest h g)) (sym is)

pub precedes_itself : (h : Hold) → Precedes h h → ⊥
precedes_itself h less = let tied = tied_itself order h in cc

pub precedes_further : (a b c : Hold) → Precedes a b → Precedes b c → Precedes a c
precedes_further a b c first then = order.trans a b c first then

pub same_hold : (h g : Hold) → compare h g ≡ Equal → h ≡ g
unfolding compare
same_hold h g e =
    let keys : key h ≡ key g = exact_bytes (key h) (key g) e in
    let low = ap (λ (l : List ℕ). get_or l 0 0) keys in
    let owner = ap (λ (l : List ℕ). get_or l 1 0) keys in
    let high = ap (λ (l : List ℕ). get_or l 2 0) keys in
    let mode = same_mode h.need.mode g.need.mode (ap (λ (l : List ℕ). get_or l 3 0) keys) in
    let at = ap (λ (l : List ℕ). get_or l 4 0) keys in
    λ i. record {
      owner = owner i;
      at = at i;
      need = record { low = low i; high = high i; mode = mode i };
    }

pub turned : (h g : Hold) → compare h g ≡ Greater → Precedes g h
turned h g e = order.antisymm g h ∙ ap ordering_reverse e

back : (h g : Hold) → Precedes h g → compare g h ≡ Greater
back h g e = order.antisymm g h ∙ ap ordering_reverse e

-- a hold in front of one that does not stand behind h is in front of h
up_to : (r : Ordering) (a f h : Hold) → compare f h ≡ r → is_le r ≡ true → Precedes a f →
    Precedes a h
up_to Less a f h is le before = precedes_further a f h before is
up_to Equal a f h is le before = subst (Precedes a) (same_hold f h is) before
up_to Greater a f h is le before = absurd (cc)

pub in_front : (a f h : Hold) → is_le (compare f h) ≡ true → Precedes a f → Precedes a h
in_front a f h le before = up_to (compare f h) a f h refl le before

beyond : (r : Ordering) (f h : Hold) → compare f h ≡ r → is_le r ≡ false → Precedes h f
beyond Less f h is gt = absurd (cc)
beyond Equal f h is gt = absurd (cc)
beyond Greater f h is gt = turned f h is

pub behind : (f h : Hold) → is_le (compare f h) ≡ false → Precedes h f
behind f h gt = beyond (compare f h) f h refl gt

pub rises_at : (xs : List Hold) → Rises xs → (i j : ℕ) (d : Hold) → i < j → j < length xs →
    Precedes (get_or xs i d) (get_or xs j d)
rises_at [] r i j d lt in_list = absurd (omega arith)
rises_at (x ∷ xs) r i zero d lt in_list = absurd (omega arith)
rises_at (x ∷ xs) r zero (suc j) d lt in_list = r.0 j d (omega arith)
rises_at (x ∷ xs) r (suc i) (suc j) d lt in_list = rises_at xs r.1 i j d (omega arith) (omega arith)

sorted : (xs : List Hold) → Rises xs → IsSortedBy (λ a b. is_lt (compare a b)) xs
sorted xs r k d le lt =
    ap is_lt (back (get_or xs k d) (get_or xs (k + 1) d)
    (rises_at xs r k (k + 1) d (omega arith) lt))

-- what a halving answers
pub found : (holds : List Hold) (h : Hold) (r : Result ℕ ℕ) → Rises holds →
    IsSearchInRange r (length holds) → IsBinarySearchResult (λ g. compare g h) holds r →
    IsPlace holds h r
found holds h (Ok i) rises range there = (range, λ d. same_hold (get_or holds i d) h (there d))
found holds h (Err i) rises range there =
    let point = there (searchable_from_sorted order (λ g. g) holds h (sorted holds rises)) in
    let front_long = length-take i holds in
    let back_long = length-drop i holds in
    record {
      within = range;
      front = λ k d lt. subst (λ g. Precedes g h) (sym (get_or-take i holds k d (omega arith)))
          (point.0 k d (omega arith) (omega arith));
      back = λ k d lt. subst (Precedes h) (sym (get_or-drop i holds k d))
          (turned (get_or holds (i + k) d) h (point.1 (i + k) d (omega arith) (omega arith)));
    }
