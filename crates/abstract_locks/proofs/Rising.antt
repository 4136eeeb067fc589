-- Lists of holds in their order: parts of them, and what is put in, exchanged or taken out.
use Rattle.std.proofs.Common.{◌≡◌, ◌⊎◌, ◌↔◌, ℕ, suc, ◌<◌, inl, inr, List, [], ◌∷◌, ◌++◌}
use Rattle.std.proofs.Common.{Bool, true, false, true≢false, length, get_or, refl, take, drop}
use Rattle.std.proofs.Common.{take-append-drop, IsTrue, sym, subst}
use Rattle.std.proofs.Common.{⊎_elim, arith}
use Rattle.std.specs.List.{All, Contains, insert, remove}
use Rattle.std.proofs.lemmas.List.{append-nil}
use Rattle.std.proofs.lemmas.List.Elements.{All-nil, All-cons, All-append, All-head, All-tail}
use Rattle.std.proofs.lemmas.List.Elements.{All-weaker, All-contains, All-contains_itself}
use Rattle.std.proofs.lemmas.List.Elements.{Contains-append_left, Contains-append_right}
use Rattle.std.proofs.lemmas.List.Elements.{Contains-append_cases}
use Rattle.calls.proofs.Parts.{All-left, All-right, only, around}
use Rattle.abstract_locks.specs.declared.table.Hold.{Hold}
use Rattle.abstract_locks.specs.Holds.{IsAdded, IsRemoved}
use Rattle.abstract_locks.specs.Order.{Precedes, Rises, IsGap}
use Rattle.abstract_locks.specs.Segments.{begins_by}
use Rattle.abstract_locks.proofs.Ordering.{precedes_itself, precedes_further, in_front}
use Rattle.abstract_locks.proofs.Ordering.{behind as behind_it}

-- Each of the first precedes each of the others.
abbrev pub ArePreceding : (xs ys : List Hold) → Type 0
ArePreceding xs ys = All (λ x. All (Precedes x) ys) xs

pub rises_append : (xs ys : List Hold) → Rises xs → Rises ys → ArePreceding xs ys →
    Rises (xs ++ ys)
rises_append [] ys r s between = s
rises_append (x ∷ xs) ys r s between = (
  All-append (Precedes x) xs ys r.0 (All-head (λ x. All (Precedes x) ys) x xs between),
  rises_append xs ys r.1 s (All-tail (λ x. All (Precedes x) ys) x xs between),
)

pub rises_left : (xs ys : List Hold) → Rises (xs ++ ys) → Rises xs
rises_left [] ys r = tt
rises_left (x ∷ xs) ys r = (All-left (Precedes x) xs ys r.0, rises_left xs ys r.1)

pub rises_right : (xs ys : List Hold) → Rises (xs ++ ys) → Rises ys
rises_right [] ys r = r
rises_right (x ∷ xs) ys r = rises_right xs ys r.1

pub rises_between : (xs ys : List Hold) → Rises (xs ++ ys) → ArePreceding xs ys
rises_between [] ys r = All-nil (λ x. All (Precedes x) ys)
rises_between (x ∷ xs) ys r = All-cons (λ x. All (Precedes x) ys) x xs
    (All-right (Precedes x) xs ys r.0) (rises_between xs ys r.1)

module _ (front back : List Hold) (h : Hold) (before : All (λ g. Precedes g h) front)
    (behind : All (Precedes h) back) where
  -- what is put between, but for h, was there
  pub exchanged : (old new : List Hold) → Rises (front ++ (old ++ back)) → Rises new →
      All (λ g. Contains old g ⊎ (g ≡ h)) new → Rises (front ++ (new ++ back))
  exchanged old new rises own known =
      let rest = rises_right front (old ++ back) rises in
      let others = rises_between front (old ++ back) rises in
      let later = rises_between old back rest in
      rises_append front (new ++ back) (rises_left front (old ++ back) rises)
      (rises_append new back own (rises_right old back rest)
      (All-weaker (λ g. Contains old g ⊎ (g ≡ h)) (λ g. All (Precedes g) back)
      (λ g either. ⊎_elim (λ was. All-contains (λ g. All (Precedes g) back) old g later was)
      (λ same. subst (λ k. All (Precedes k) back) (sym same) behind) either) new known))
      (All-weaker (Contains front) (λ x. All (Precedes x) (new ++ back))
      (λ x there.
      let all = All-contains (λ x. All (Precedes x) (old ++ back)) front x others there in
      All-append (Precedes x) new back
      (All-weaker (λ g. Contains old g ⊎ (g ≡ h)) (Precedes x)
      (λ g either. ⊎_elim
      (λ was. All-contains (Precedes x) old g (All-left (Precedes x) old back all) was)
      (λ same. subst (Precedes x) (sym same)
      (All-contains (λ g. Precedes g h) front x before there)) either) new known)
      (All-right (Precedes x) old back all)) front (All-contains_itself front))

  not_in_front : Contains front h → ⊥
  not_in_front there =
      precedes_itself h (All-contains (λ g. Precedes g h) front h before there)

  not_in_back : Contains back h → ⊥
  not_in_back there = precedes_itself h (All-contains (Precedes h) back h behind there)

  pub there_between : (old : List Hold) → Contains (front ++ (old ++ back)) h → Contains old h
  there_between old there =
      ⊎_elim (λ a. absurd (not_in_front a))
      (λ rest. ⊎_elim (λ b. b) (λ c. absurd (not_in_back c))
      (Contains-append_cases old back h rest))
      (Contains-append_cases front (old ++ back) h there)

  pub fresh_between : {b : Bool} (old : List Hold) → IsTrue b ↔ (Contains old h → ⊥) →
      IsTrue b ↔ (Contains (front ++ (old ++ back)) h → ⊥)
  fresh_between old fresh = (
    λ yes there. fresh.0 yes (there_between old there),
    λ none. fresh.1 (λ there. none (Contains-append_right front (old ++ back) h
        (Contains-append_left old back h there))),
  )

  pub removed_between : (old new : List Hold) → IsRemoved old new h →
      IsRemoved (front ++ (old ++ back)) (front ++ (new ++ back)) h
  removed_between old new removed x = (
    λ inside. ⊎_elim
        (λ a. (
          Contains-append_left front (old ++ back) x a,
          λ same. not_in_front (subst (Contains front) same a),
        ))
        (λ rest. ⊎_elim
        (λ b. let both = (removed x).0 b in (
          Contains-append_right front (old ++ back) x (Contains-append_left old back x both.0),
          both.1,
        ))
        (λ c. (
          Contains-append_right front (old ++ back) x (Contains-append_right old back x c),
          λ same. not_in_back (subst (Contains back) same c),
        )) (Contains-append_cases new back x rest))
        (Contains-append_cases front (new ++ back) x inside),
    λ both. ⊎_elim (λ a. Contains-append_left front (new ++ back) x a)
        (λ rest. Contains-append_right front (new ++ back) x
        (⊎_elim (λ b. Contains-append_left new back x ((removed x).1 (b, both.1)))
        (λ c. Contains-append_right new back x c) (Contains-append_cases old back x rest)))
        (Contains-append_cases front (old ++ back) x both.0),
  )

one_removed : (h : Hold) → IsRemoved (h ∷ []) [] h
one_removed h x = (
  λ inside. let lt = inside.1 in absurd (omega arith),
  λ both. absurd (both.1 (sym (only h x both.0))),
)

-- ---- one list

pub known_added : (old new : List Hold) (h : Hold) → IsAdded old new h →
    All (λ g. Contains old g ⊎ (g ≡ h)) new
known_added old new h added = All-weaker (Contains new) (λ g. Contains old g ⊎ (g ≡ h))
    (λ g there. (added g).0 there) new (All-contains_itself new)

pub known_removed : (old new : List Hold) (h : Hold) → IsRemoved old new h →
    All (λ g. Contains old g ⊎ (g ≡ h)) new
known_removed old new h removed = All-weaker (Contains new) (λ g. Contains old g ⊎ (g ≡ h))
    (λ g there. inl ((removed g).0 there).0) new (All-contains_itself new)

pub all_left : (P : Hold → Type 0) (old new : List Hold) (h : Hold) → IsRemoved old new h →
    All P old → All P new
all_left P old new h removed all = All-weaker (Contains new) P
    (λ g there. All-contains P old g all ((removed g).0 there).0) new (All-contains_itself new)

-- one that is not there need not be taken out
pub none_removed : (holds : List Hold) (h : Hold) → (Contains holds h → ⊥) → IsRemoved holds holds h
none_removed holds h none x =
    (λ was. (was, λ same. none (subst (Contains holds) same was)), λ both. both.0)

module _ (holds : List Hold) (i : ℕ) (h : Hold) where
  pub rises_insert : Rises holds → IsGap holds h i → Rises (insert holds i h)
  rises_insert rises gap =
      exchanged (take i holds) (drop i holds) h gap.front gap.back [] (h ∷ [])
      (subst Rises (sym (take-append-drop i holds)) rises) (All-nil (Precedes h), tt)
      (All-cons (λ g. Contains [] g ⊎ (g ≡ h)) h [] (inr refl)
      (All-nil (λ g. Contains [] g ⊎ (g ≡ h))))

  pub not_there : IsGap holds h i → Contains holds h → ⊥
  not_there gap there =
      let none = there_between (take i holds) (drop i holds) h gap.front gap.back []
      (subst (λ l. Contains l h) (sym (take-append-drop i holds)) there) in
      let lt = none.1 in
      absurd (omega arith)

  module _ (lt : i < length holds) (is : get_or holds i h ≡ h) (rises : Rises holds) where
    whole : take i holds ++ h ∷ drop (suc i) holds ≡ holds
    whole = around holds i h lt (sym is)

    all_rise : Rises (take i holds ++ h ∷ drop (suc i) holds)
    all_rise = subst Rises (sym whole) rises

    before : All (λ g. Precedes g h) (take i holds)
    before = All-weaker (λ x. All (Precedes x) (h ∷ drop (suc i) holds)) (λ g. Precedes g h)
        (λ x all. All-head (Precedes x) h (drop (suc i) holds) all) (take i holds)
        (rises_between (take i holds) (h ∷ drop (suc i) holds) all_rise)

    behind : All (Precedes h) (drop (suc i) holds)
    behind = (rises_right (take i holds) (h ∷ drop (suc i) holds) all_rise).0

    pub rises_remove : Rises (remove holds i)
    rises_remove = exchanged (take i holds) (drop (suc i) holds) h before behind (h ∷ []) []
        all_rise tt (All-nil (λ g. Contains (h ∷ []) g ⊎ (g ≡ h)))

    pub is_removed : IsRemoved holds (remove holds i) h
    is_removed = subst (λ l. IsRemoved l (remove holds i) h) whole
        (removed_between (take i holds) (drop (suc i) holds) h before behind (h ∷ []) []
        (one_removed h))

-- ---- a hold and a segment

-- what precedes a segment that begins at the hold's place or before it precedes the hold
pub front_of : (front s : List Hold) (h : Hold) → ArePreceding front s → 0 < length s →
    begins_by h s ≡ true → All (λ g. Precedes g h) front
front_of front [] h between some begins = absurd (omega arith)
front_of front (f ∷ fs) h between some begins =
    All-weaker (λ x. All (Precedes x) (f ∷ fs)) (λ g. Precedes g h)
    (λ x all. in_front x f h begins (All-head (Precedes x) f fs all)) front between

-- a segment that begins behind the hold's place stands behind it
pub back_of : (s : List Hold) (h : Hold) → Rises s → begins_by h s ≡ false → All (Precedes h) s
back_of [] h rises begins = absurd (true≢false begins)
back_of (f ∷ fs) h rises begins =
    let first = behind_it f h begins in
    All-cons (Precedes h) f fs first (All-weaker (Precedes f) (Precedes h)
    (λ x later. precedes_further h f x first later) fs rises.0)

pub some_added : (old new : List Hold) (h : Hold) → IsAdded old new h → 0 < length new
some_added old new h added = let lt = ((added h).1 (inr refl)).1 in omega arith

module _ (lower upper new : List Hold) (h : Hold) (rises : Rises (lower ++ upper)) where
  -- the upper part gets the hold
  module _ (before : All (λ g. Precedes g h) lower) where
    pub upper_rises : Rises new → IsAdded upper new h → Rises (lower ++ new)
    upper_rises own added = subst (λ l. Rises (lower ++ l)) (append-nil new)
        (exchanged lower [] h before (All-nil (Precedes h)) upper new
        (subst (λ l. Rises (lower ++ l)) (sym (append-nil upper)) rises) own
        (known_added upper new h added))

    pub upper_fresh : {b : Bool} → IsTrue b ↔ (Contains upper h → ⊥) →
        IsTrue b ↔ (Contains (lower ++ upper) h → ⊥)
    upper_fresh {b} fresh = subst (λ l. IsTrue b ↔ (Contains (lower ++ l) h → ⊥)) (append-nil upper)
        (fresh_between lower [] h before (All-nil (Precedes h)) upper fresh)

  -- the lower part does
  module _ (behind : All (Precedes h) upper) where
    pub lower_rises : Rises new → IsAdded lower new h → Rises (new ++ upper)
    lower_rises own added = exchanged [] upper h (All-nil (λ g. Precedes g h)) behind lower new
        rises own (known_added lower new h added)

    pub lower_fresh : {b : Bool} → IsTrue b ↔ (Contains lower h → ⊥) →
        IsTrue b ↔ (Contains (lower ++ upper) h → ⊥)
    lower_fresh fresh = fresh_between [] upper h (All-nil (λ g. Precedes g h)) behind lower fresh
