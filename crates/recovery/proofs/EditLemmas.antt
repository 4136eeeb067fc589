-- What the edits of a copy leave, and that it is kept as they say.
use Rattle.std.proofs.Common.{◌≡◌, ℕ, zero, suc, ◌+◌, ◌^◌, ◌<◌, ◌≤◌, Bool, true, false, not, cond}
use Rattle.std.proofs.Common.{Some, List, [], ◌∷◌, ◌++◌, length, map}
use Rattle.std.proofs.Common.{take, drop, get_or, slice_get, Contains, refl, sym, ◌∙◌, ap, subst}
use Rattle.std.proofs.Common.{arith, add-one}
use Rattle.std.specs.Prelude.{slice_index_or, slice_set}
use Rattle.std.specs.List.{AllByRecursion, filter, remove}
use Rattle.std.specs.Option.{option_map}
use Rattle.std.proofs.lemmas.List.{take_more, drop_more, take_all}
use Rattle.std.proofs.lemmas.Slice.Eq.{bytes_eq-Decides}
use Rattle.calls.specs.declared.refusal.Refusal.{Refusal}
use Rattle.calls.specs.Contents.{Content, InStock, Collection}
use Rattle.calls.specs.Names.{IsName}
use Rattle.calls.specs.declared.format.Format.{Format}
use Rattle.calls.specs.declared.item.Item.{Item}
use Rattle.calls.specs.Contents.{kind_of_content}
use Rattle.std.specs.declared.vec.Vec.{Vec}
use Rattle.std.specs.declared.alloc.Global.{Global}
use Rattle.boosted.proofs.Each.{each_filter}
use Rattle.catalog.specs.declared.shown.Shown.{Shown}
use Rattle.catalog.specs.Holdings.{AreNamed, Shows, ShowRefused, ListsContent}
use Rattle.records.specs.declared.record.Record.{Record}
use Rattle.records.specs.Images.{TellsOf, IsImage}
use Rattle.images.specs.Images.{AreOf, CanStand, TellsGathered}
use Rattle.catalog.specs.Making.{names_of, IsFree, AreDistinct}
use Rattle.catalog.specs.Places.{At}
use Rattle.catalog.specs.Woven.{Label, names_in}
use Rattle.recovery.specs.declared.editing.Edit.{Edit}
use Rattle.recovery.specs.declared.editing.Kept.{Kept}
use Rattle.recovery.specs.Edits.{has_name, renamed, edited, edited_once, CanEdit, CanBeEdited}
use Rattle.recovery.specs.Edits.{RefusesNew, RefusesEdit}
use Rattle.recovery.specs.Kept.{kept_names, IsKept, AreKept, Keeps, Refuses, OrStarved}
use Rattle.recovery.specs.Kept.{IsNamedAt, HasNone}

-- ---- names that differ

abbrev pub IsOther : List ℕ → List ℕ → Type 0
IsOther name n = n ≡ name → ⊥

-- each name differs from all that come behind it
abbrev pub Apart : List (List ℕ) → Type 0
Apart [] = Unit {0}
Apart (n ∷ ns) = AllByRecursion (IsOther n) ns × Apart ns

each_at : {X : Type 0} (P : X → Type 0) (xs : List X) →
    ((k : ℕ) (v : X) → slice_get xs k ≡ Some v → P v) → AllByRecursion P xs
each_at P [] f = tt
each_at P (x ∷ xs) f = (f 0 x refl, each_at P xs (λ k v e. f (suc k) v e))

of_each : {X : Type 0} (P : X → Type 0) (xs : List X) (k : ℕ) (v : X) → AllByRecursion P xs →
    slice_get xs k ≡ Some v → P v
of_each P [] k v all e = absurd (cc)
of_each P (x ∷ xs) zero v all e = subst P (some_is x v e) all.0
  where
    some_is : {X : Type 0} (x v : X) → Some x ≡ Some v → x ≡ v
    some_is x v e = cc
of_each P (x ∷ xs) (suc k) v all e = of_each P xs k v all.1 e

pub apart : (ns : List (List ℕ)) → AreDistinct ns → Apart ns
apart [] distinct = tt
apart (n ∷ ns) distinct = (
  each_at (IsOther n) ns (λ k v e same. zero_suc k
      (distinct n 0 (suc k) refl (e ∙ ap Some same))),
  apart ns (λ name j k a b. suc_is j k (distinct name (suc j) (suc k) a b)),
)
  where
    zero_suc : (k : ℕ) → 0 ≡ suc k → ⊥
    zero_suc k e = omega (arith, e)

    suc_is : (j k : ℕ) → suc j ≡ suc k → j ≡ k
    suc_is j k e = omega (arith, e)

pub distinct : (ns : List (List ℕ)) → Apart ns → AreDistinct ns
distinct [] a name j k e f = absurd (cc)
distinct (n ∷ ns) a name zero zero e f = refl
distinct (n ∷ ns) a name zero (suc k) e f =
    absurd (of_each (IsOther n) ns k name a.0 f (some_sym n name e))
  where
    some_sym : (n name : List ℕ) → Some n ≡ Some name → name ≡ n
    some_sym n name e = cc
distinct (n ∷ ns) a name (suc j) zero e f =
    absurd (of_each (IsOther n) ns j name a.0 e (some_sym n name f))
  where
    some_sym : (n name : List ℕ) → Some n ≡ Some name → name ≡ n
    some_sym n name e = cc
distinct (n ∷ ns) a name (suc j) (suc k) e f = ap suc (distinct ns a.1 name j k e f)

pub free_each : (ns : List (List ℕ)) (name : List ℕ) → IsFree ns name →
    AllByRecursion (IsOther name) ns
free_each [] name free = tt
free_each (n ∷ ns) name free = (
  λ same. free (0, omega arith, same),
  free_each ns name (λ there. let below = there.1 in
      free (suc there.0, omega (arith, below), there.2)),
)

pub each_free : (ns : List (List ℕ)) (name : List ℕ) → AllByRecursion (IsOther name) ns →
    IsFree ns name
each_free [] name all there = let below = there.1 in absurd (omega (arith, below))
each_free (n ∷ ns) name all (zero, below, is) = all.0 is
each_free (n ∷ ns) name all (suc k, below, is) =
    each_free ns name all.1 (k, omega (arith, below), is)

-- ---- a name at a place

-- one place is taken out
each_removed : {X : Type 0} (P : X → Type 0) (xs : List X) (i : ℕ) → AllByRecursion P xs →
    AllByRecursion P (remove xs i)
each_removed P [] zero all = tt
each_removed P [] (suc i) all = tt
each_removed P (x ∷ xs) zero all = all.1
each_removed P (x ∷ xs) (suc i) all = (all.0, each_removed P xs i all.1)

names_removed : (ks : List Kept) (i : ℕ) → kept_names (remove ks i) ≡ remove (kept_names ks) i
names_removed [] zero = refl
names_removed [] (suc i) = refl
names_removed (k ∷ ks) zero = refl
names_removed (k ∷ ks) (suc i) = ap (λ l. k.name ∷ l) (names_removed ks i)

apart_removed : (ns : List (List ℕ)) (i : ℕ) → Apart ns → Apart (remove ns i)
apart_removed [] zero a = tt
apart_removed [] (suc i) a = tt
apart_removed (n ∷ ns) zero a = a.1
apart_removed (n ∷ ns) (suc i) a = (each_removed (IsOther n) ns i a.0, apart_removed ns i a.1)

pub good_removed : (ks : List Kept) (i : ℕ) → AllByRecursion IsName (kept_names ks) →
    AllByRecursion IsName (kept_names (remove ks i))
good_removed ks i good = subst (AllByRecursion IsName) (sym (names_removed ks i))
    (each_removed IsName (kept_names ks) i good)

pub distinct_removed : (ks : List Kept) (i : ℕ) → AreDistinct (kept_names ks) →
    AreDistinct (kept_names (remove ks i))
distinct_removed ks i d = subst AreDistinct (sym (names_removed ks i))
    (distinct (remove (kept_names ks) i)
    (apart_removed (kept_names ks) i (apart (kept_names ks) d)))

-- the one at the place has another name
abbrev pub with_name : List ℕ → List Kept → ℕ → List Kept
with_name to [] i = []
with_name to (k ∷ ks) zero = record { at = k.at; name = to } ∷ ks
with_name to (k ∷ ks) (suc i) = k ∷ with_name to ks i

pub each_named : (P : List ℕ → Type 0) (to : List ℕ) (ks : List Kept) (i : ℕ) → P to →
    AllByRecursion P (kept_names ks) → AllByRecursion P (kept_names (with_name to ks i))
each_named P to [] i p all = tt
each_named P to (k ∷ ks) zero p all = (p, all.1)
each_named P to (k ∷ ks) (suc i) p all = (all.0, each_named P to ks i p all.1)

apart_named : (to : List ℕ) (ks : List Kept) (i : ℕ) →
    AllByRecursion (IsOther to) (kept_names ks) → Apart (kept_names ks) →
    Apart (kept_names (with_name to ks i))
apart_named to [] i free a = tt
apart_named to (k ∷ ks) zero free a = (free.1, a.1)
apart_named to (k ∷ ks) (suc i) free a = (
  each_named (IsOther k.name) to ks i (λ same. free.0 (sym same)) a.0,
  apart_named to ks i free.1 a.1,
)

pub distinct_named : (to : List ℕ) (ks : List Kept) (i : ℕ) → IsFree (kept_names ks) to →
    AreDistinct (kept_names ks) → AreDistinct (kept_names (with_name to ks i))
distinct_named to ks i free d = distinct (kept_names (with_name to ks i))
    (apart_named to ks i (free_each (kept_names ks) to free) (apart (kept_names ks) d))

-- what is found by its name stands there,
pub place_get : (ks : List Kept) (name : List ℕ) (i : ℕ) → IsNamedAt ks name i →
    slice_get (kept_names ks) i ≡ Some name
place_get [] name i at = let below = at.within in absurd (omega (arith, below))
place_get (k ∷ ks) name zero at = ap Some (at.there k)
place_get (k ∷ ks) name (suc i) at = let below = at.within in
    place_get ks name i (record { within = omega (arith, below); there = at.there })

-- and what is not found is free
none_free : (ks : List Kept) (name : List ℕ) → HasNone ks name →
    AllByRecursion (IsOther name) (kept_names ks)
none_free [] name none = tt
none_free (k ∷ ks) name none = (
  none 0 k (omega arith),
  none_free ks name (λ i d below. none (suc i) d (omega (arith, below))),
)

pub place_free : (ks : List Kept) (name : List ℕ) → HasNone ks name →
    IsFree (kept_names ks) name
place_free ks name none = each_free (kept_names ks) name (none_free ks name none)

get_contains : (ns : List (List ℕ)) (i : ℕ) (name : List ℕ) → slice_get ns i ≡ Some name →
    Contains ns name
get_contains [] i name e = absurd (cc)
get_contains (n ∷ ns) zero name e = (0, omega arith, some_is n name e)
  where
    some_is : (a b : List ℕ) → Some a ≡ Some b → a ≡ b
    some_is a b e = cc
get_contains (n ∷ ns) (suc i) name e = let there = get_contains ns i name e in
    let below = there.1 in (suc there.0, omega (arith, below), there.2)

pub place_contains : (ks : List Kept) (name : List ℕ) (i : ℕ) → IsNamedAt ks name i →
    Contains (kept_names ks) name
place_contains ks name i at = get_contains (kept_names ks) i name (place_get ks name i at)

-- the write at the place
pub written : (ks : List Kept) (i : ℕ) (k : Kept) (to : List ℕ) → i < length ks →
    k ≡ slice_index_or ks i k → slice_set ks i (record k { name = to }) ≡ with_name to ks i
written [] i k to below is = absurd (omega (arith, below))
written (j ∷ ks) zero k to below is =
    ap (λ (v : Kept). record { at = v.at; name = to } ∷ ks) is
written (j ∷ ks) (suc i) k to below is =
    ap (λ l. j ∷ l) (written ks i k to (omega (arith, below)) is)

-- ---- the edits keep what they leave

by_bool : (b : Bool) → (b ≡ true → ⊥) → b ≡ false
by_bool true never = absurd (never refl)
by_bool false never = refl

has : (name : List ℕ) (x : Collection) → x.name ≡ name → has_name name x ≡ true
has name x same = (bytes_eq-Decides x.name name).1 same

has_not : (name : List ℕ) (x : Collection) → IsOther name x.name → has_name name x ≡ false
has_not name x other =
    by_bool (has_name name x) (λ yes. other ((bytes_eq-Decides x.name name).0 yes))

pub names_kept : (s : List Collection) (ks : List Kept) (xs : List Collection) → AreKept s ks xs →
    kept_names ks ≡ names_of xs
names_kept s [] [] are = refl
names_kept s [] (x ∷ xs) are = absurd are
names_kept s (k ∷ ks) [] are = absurd are
names_kept s (k ∷ ks) (x ∷ xs) are =
    ap (λ n. n ∷ kept_names ks) are.0.0 ∙ ap (λ l. x.name ∷ l) (names_kept s ks xs are.1)

-- no collection has the name
without_none : (name : List ℕ) (s : List Collection) (ks : List Kept) (xs : List Collection) →
    AllByRecursion (IsOther name) (kept_names ks) → AreKept s ks xs →
    AreKept s ks (filter (λ x. not (has_name name x)) xs)
without_none name s [] [] other are = tt
without_none name s [] (x ∷ xs) other are = absurd are
without_none name s (k ∷ ks) [] other are = absurd are
without_none name s (k ∷ ks) (x ∷ xs) other are =
    let not_it = has_not name x (λ same. other.0 (are.0.0 ∙ same)) in
    subst (λ b. AreKept s (k ∷ ks) (cond (not b)
    (x ∷ filter (λ y. not (has_name name y)) xs) (filter (λ y. not (has_name name y)) xs)))
    (sym not_it) (are.0, without_none name s ks xs other.1 are.1)

some_same : (a b : List ℕ) → Some a ≡ Some b → a ≡ b
some_same a b e = cc

without_one : (name : List ℕ) (s : List Collection) (ks : List Kept) (xs : List Collection)
    (i : ℕ) → slice_get (kept_names ks) i ≡ Some name → Apart (kept_names ks) → AreKept s ks xs →
    AreKept s (remove ks i) (filter (λ x. not (has_name name x)) xs)
without_one name s [] xs i there a are = absurd (cc)
without_one name s (k ∷ ks) [] i there a are = absurd are
without_one name s (k ∷ ks) (x ∷ xs) zero there a are =
    let same = some_same k.name name there in
    subst (λ b. AreKept s ks (cond (not b) (x ∷ filter (λ y. not (has_name name y)) xs)
    (filter (λ y. not (has_name name y)) xs)))
    (sym (has name x (sym are.0.0 ∙ same)))
    (without_none name s ks xs
    (subst (λ n. AllByRecursion (IsOther n) (kept_names ks)) same a.0) are.1)
without_one name s (k ∷ ks) (x ∷ xs) (suc i) there a are =
    let other = of_each (IsOther k.name) (kept_names ks) i name a.0 there in
    let not_it = has_not name x (λ same. other (sym (are.0.0 ∙ same))) in
    subst (λ b. AreKept s (k ∷ remove ks i) (cond (not b)
    (x ∷ filter (λ y. not (has_name name y)) xs) (filter (λ y. not (has_name name y)) xs)))
    (sym not_it) (are.0, without_one name s ks xs i there a.1 are.1)

pub keeps_without : (name : List ℕ) (s : List Collection) (ks : List Kept) (xs : List Collection)
    (i : ℕ) → slice_get (kept_names ks) i ≡ Some name → AreDistinct (kept_names ks) →
    AreKept s ks xs → AreKept s (remove ks i) (edited_once (Edit.Without name) xs)
keeps_without name s ks xs i there d are =
    without_one name s ks xs i there (apart (kept_names ks) d) are

rename_none : (from to : List ℕ) (s : List Collection) (ks : List Kept) (xs : List Collection) →
    AllByRecursion (IsOther from) (kept_names ks) → AreKept s ks xs →
    AreKept s ks (map (renamed from to) xs)
rename_none from to s [] [] other are = tt
rename_none from to s [] (x ∷ xs) other are = absurd are
rename_none from to s (k ∷ ks) [] other are = absurd are
rename_none from to s (k ∷ ks) (x ∷ xs) other are =
    let not_it = has_not from x (λ same. other.0 (are.0.0 ∙ same)) in (
      (are.0.0 ∙ sym (ap (λ b. cond b to x.name) not_it), are.0.1),
      rename_none from to s ks xs other.1 are.1,
    )

rename_one : (from to : List ℕ) (s : List Collection) (ks : List Kept) (xs : List Collection)
    (i : ℕ) → slice_get (kept_names ks) i ≡ Some from → Apart (kept_names ks) → AreKept s ks xs →
    AreKept s (with_name to ks i) (map (renamed from to) xs)
rename_one from to s [] xs i there a are = absurd (cc)
rename_one from to s (k ∷ ks) [] i there a are = absurd are
rename_one from to s (k ∷ ks) (x ∷ xs) zero there a are =
    let same = some_same k.name from there in (
      (sym (ap (λ b. cond b to x.name) (has from x (sym are.0.0 ∙ same))), are.0.1),
      rename_none from to s ks xs
          (subst (λ n. AllByRecursion (IsOther n) (kept_names ks)) same a.0) are.1,
    )
rename_one from to s (k ∷ ks) (x ∷ xs) (suc i) there a are =
    let other = of_each (IsOther k.name) (kept_names ks) i from a.0 there in
    let not_it = has_not from x (λ same. other (sym (are.0.0 ∙ same))) in (
      (are.0.0 ∙ sym (ap (λ b. cond b to x.name) not_it), are.0.1),
      rename_one from to s ks xs i there a.1 are.1,
    )

pub keeps_renamed : (from to : List ℕ) (s : List Collection) (ks : List Kept)
    (xs : List Collection) (i : ℕ) → slice_get (kept_names ks) i ≡ Some from →
    AreDistinct (kept_names ks) → AreKept s ks xs →
    AreKept s (with_name to ks i) (edited_once (Edit.Rename from to) xs)
keeps_renamed from to s ks xs i there d are =
    rename_one from to s ks xs i there (apart (kept_names ks) d) are

pub named_kept : (s : List Collection) (ks : List Kept) (xs : List Collection) → AreKept s ks xs →
    AllByRecursion IsName (kept_names ks) → AreNamed xs
named_kept s [] [] are good = tt
named_kept s [] (x ∷ xs) are good = absurd are
named_kept s (k ∷ ks) [] are good = absurd are
named_kept s (k ∷ ks) (x ∷ xs) are good =
    (subst IsName are.0.0 good.0, named_kept s ks xs are.1 good.1)

-- ---- all collections, in their order

zip_push : (s : List Collection) (ks : List Kept) (xs : List Collection) (k : Kept)
    (x : Collection) → AreKept s ks xs → IsKept s k x → AreKept s (ks ++ k ∷ []) (xs ++ x ∷ [])
zip_push s [] [] k x are is = (is, tt)
zip_push s [] (y ∷ xs) k x are is = absurd are
zip_push s (j ∷ ks) [] k x are is = absurd are
zip_push s (j ∷ ks) (y ∷ xs) k x are is = (are.0, zip_push s ks xs k x are.1 is)

take_push : {X : Type 0} (xs : List X) (i : ℕ) (x : X) → slice_get xs i ≡ Some x →
    take (suc i) xs ≡ take i xs ++ x ∷ []
take_push [] i x e = absurd (cc)
take_push (y ∷ xs) zero x e = cc
take_push (y ∷ xs) (suc i) x e = ap (λ l. y ∷ l) (take_push xs i x e)

at_get : (P : Collection → Type 0) (s : List Collection) (at : ℕ) (x : Collection) →
    slice_get s at ≡ Some x → P x → At P s at
at_get P [] at x e p = absurd (cc)
at_get P (y ∷ s) zero x e p = subst P (some_is x y e) p
  where
    some_is : (x y : Collection) → Some y ≡ Some x → x ≡ y
    some_is x y e = cc
at_get P (y ∷ s) (suc at) x e p = at_get P s at x e p

named_get : (s : List Collection) (at : ℕ) (name : List ℕ) →
    slice_get (names_of s) at ≡ Some name → (x : Collection) × (slice_get s at ≡ Some x) ×
    (x.name ≡ name)
named_get [] at name e = absurd (cc)
named_get (x ∷ s) zero name e = (x, refl, some_same x.name name e)
named_get (x ∷ s) (suc at) name e = named_get s at name e

label_get : (labels : List Label) (at : ℕ) →
    slice_get (names_in labels) at ≡ option_map (λ x. x.name) (slice_get labels at)
label_get [] at = refl
label_get (x ∷ labels) zero = refl
label_get (x ∷ labels) (suc at) = label_get labels at

-- the first of them are kept, of any collections of these names
abbrev pub KeepsFirst : List Label → List Kept → ℕ → Type 0
KeepsFirst labels ks i = (s : List Collection) → names_of s ≡ names_in labels →
    AreKept s ks (take i s)

pub good_more : (ks : List Kept) (k : Kept) → AllByRecursion IsName (kept_names ks) →
    IsName k.name → AllByRecursion IsName (kept_names (ks ++ k ∷ []))
good_more [] k good this = (this, tt)
good_more (j ∷ ks) k good this = (good.0, good_more ks k good.1 this)

pub first_more : (labels : List Label) (ks : List Kept) (k : Kept) (i : ℕ) (name : List ℕ) →
    KeepsFirst labels ks i → Some name ≡ option_map (λ x. x.name) (slice_get labels i) →
    k.at ≡ i → k.name ≡ name → KeepsFirst labels (ks ++ k ∷ []) (i + 1)
first_more labels ks k i name so_far there at is s names =
    let get = named_get s i name
    (ap (λ l. slice_get l i) names ∙ label_get labels i ∙ sym there) in
    subst (AreKept s (ks ++ k ∷ []))
    (sym (ap (λ n. take n s) (add-one i) ∙ take_push s i get.0 get.1))
    (zip_push s ks (take i s) k get.0 (so_far s names) (
      is ∙ sym get.2,
      subst (At (λ y. y.content ≡ get.0.content) s) (sym at)
          (at_get (λ y. y.content ≡ get.0.content) s i get.0 get.1 refl),
    ))

pub first_all : (labels : List Label) (ks : List Kept) (i : ℕ) → KeepsFirst labels ks i →
    length labels ≤ i → Keeps [] (names_in labels) ks
first_all labels ks i so_far all s names = (
  tt,
  subst (AreKept s ks) (take_all i s (omega (
    arith,
    all,
    sym (long_names s) ∙ ap length names ∙ long_labels labels,
  )))
      (so_far s names),
)
  where
    long_names : (s : List Collection) → length (names_of s) ≡ length s
    long_names [] = refl
    long_names (x ∷ s) = ap suc (long_names s)

    long_labels : (ls : List Label) → length (names_in ls) ≡ length ls
    long_labels [] = refl
    long_labels (x ∷ ls) = ap suc (long_labels ls)

-- some collections of these names
of_names : List (List ℕ) → List Collection
of_names ns = map (λ n. record { name = n; content = InStock 0 }) ns

names_back : (ns : List (List ℕ)) → names_of (of_names ns) ≡ ns
unfolding of_names
names_back [] = refl
names_back (n ∷ ns) = ap (λ l. n ∷ l) (names_back ns)

pub distinct_all : (labels : List Label) (ks : List Kept) (i : ℕ) → KeepsFirst labels ks i →
    length labels ≤ i → AreDistinct (names_in labels) → AreDistinct (kept_names ks)
distinct_all labels ks i so_far all d =
    let s = of_names (names_in labels) in
    let back = names_back (names_in labels) in
    subst AreDistinct (sym (names_kept s ks s (first_all labels ks i so_far all s back).1 ∙ back)) d

-- ---- one edit more

edited_push : (es : List Edit) (e : Edit) (s : List Collection) →
    edited (es ++ e ∷ []) s ≡ edited_once e (edited es s)
edited_push [] e s = refl
edited_push (f ∷ es) e s = edited_push es e (edited_once f s)

can_push : (es : List Edit) (e : Edit) (s : List Collection) → CanBeEdited es s →
    CanEdit e (names_of (edited es s)) → CanBeEdited (es ++ e ∷ []) s
can_push [] e s can this = (this, tt)
can_push (f ∷ es) e s can this = (can.0, can_push es e (edited_once f s) can.1 this)

pub keeps_more : (es : List Edit) (e : Edit) (i : ℕ) (names : List (List ℕ)) (ks js : List Kept) →
    i < length es → e ≡ get_or es i e → Keeps (take i es) names ks → CanEdit e (kept_names ks) →
    ((s xs : List Collection) → AreKept s ks xs → AreKept s js (edited_once e xs)) →
    Keeps (take (i + 1) es) names js
keeps_more es e i names ks js below at so_far can leaves =
    subst (λ l. Keeps l names js)
    (sym (take_more es i e below ∙ ap (λ v. take i es ++ v ∷ []) (sym at)))
    (λ s is. let before = so_far s is in (
      can_push (take i es) e s before.0
          (subst (CanEdit e) (names_kept s ks (edited (take i es) s) before.1) can),
      subst (AreKept s js) (sym (edited_push (take i es) e s))
          (leaves s (edited (take i es) s) before.1),
    ))

pub keeps_all : (es : List Edit) (i : ℕ) (names : List (List ℕ)) (ks : List Kept) →
    length es ≤ i → Keeps (take i es) names ks → Keeps es names ks
keeps_all es i names ks all so_far = subst (λ l. Keeps l names ks) (take_all i es all) so_far

take_drop : {X : Type 0} (xs : List X) (i : ℕ) → xs ≡ take i xs ++ drop i xs
take_drop [] zero = refl
take_drop [] (suc i) = refl
take_drop (x ∷ xs) zero = refl
take_drop (x ∷ xs) (suc i) = ap (λ l. x ∷ l) (take_drop xs i)

pub or_weaker : (P Q : Refusal → Type 0) → ((e : Refusal) → P e → Q e) → (e : Refusal) →
    OrStarved P e → OrStarved Q e
or_weaker P Q f Refusal.NoMemory is = tt
or_weaker P Q f e is = f e is

pub refuses_at : (es : List Edit) (edit : Edit) (i : ℕ) (names : List (List ℕ)) (ks : List Kept)
    (e : Refusal) → i < length es → edit ≡ get_or es i edit → Keeps (take i es) names ks →
    RefusesEdit edit (kept_names ks) e → Refuses es names e
refuses_at es edit i names ks e below at so_far refused s is =
    let before = so_far s is in record {
      before = take i es;
      edit = edit;
      after = drop (i + 1) es;
      are = take_drop es i ∙ ap (λ l. take i es ++ l)
          (drop_more es i edit below ∙ ap (λ v. v ∷ drop (i + 1) es) (sym at));
      can = before.0;
      refused = subst (λ l. RefusesEdit edit l e)
          (names_kept s ks (edited (take i es) s) before.1) refused;
    }

-- a new name is refused
pub new_refused : (from to : List ℕ) (names : List (List ℕ)) (e : Refusal) →
    Contains names from → RefusesNew names to e →
    OrStarved (RefusesEdit (Edit.Rename from to) names) e
new_refused from to names Refusal.NoMemory there why = tt
new_refused from to names Refusal.NoSuchCollection there why = absurd why
new_refused from to names e there why = (there, why)

-- ---- what is left of what holds

module _ (P : Content → Type 0) where
  renamed_each : (from to : List ℕ) (xs : List Collection) →
      AllByRecursion (λ x. P x.content) xs →
      AllByRecursion (λ x. P x.content) (map (renamed from to) xs)
  renamed_each from to [] all = tt
  renamed_each from to (x ∷ xs) all = (all.0, renamed_each from to xs all.1)

  once_each : (e : Edit) (xs : List Collection) → AllByRecursion (λ x. P x.content) xs →
      AllByRecursion (λ x. P x.content) (edited_once e xs)
  once_each (Edit.Without name) xs all =
      each_filter (λ x. P x.content) (λ x. not (has_name name x)) xs all
  once_each (Edit.Rename from to) xs all = renamed_each from to xs all

  pub edited_each : (es : List Edit) (xs : List Collection) →
      AllByRecursion (λ x. P x.content) xs →
      AllByRecursion (λ x. P x.content) (edited es xs)
  edited_each [] xs all = all
  edited_each (e ∷ es) xs all = edited_each es (edited_once e xs) (once_each e xs all)

filter_few : (test : Collection → Bool) (xs : List Collection) →
    length (names_of (filter test xs)) ≤ length (names_of xs)
filter_few test [] = omega arith
filter_few test (x ∷ xs) = one (test x) (filter_few test xs)
  where
    one : (b : Bool) → length (names_of (filter test xs)) ≤ length (names_of xs) →
        length (names_of (cond b (x ∷ filter test xs) (filter test xs))) ≤
        suc (length (names_of xs))
    one true rest = omega (arith, rest)
    one false rest = omega (arith, rest)

renamed_few : (from to : List ℕ) (xs : List Collection) →
    length (names_of (map (renamed from to) xs)) ≤ length (names_of xs)
renamed_few from to [] = omega arith
renamed_few from to (x ∷ xs) = let rest = renamed_few from to xs in omega (arith, rest)

once_few : (e : Edit) (xs : List Collection) →
    length (names_of (edited_once e xs)) ≤ length (names_of xs)
once_few (Edit.Without name) xs = filter_few (λ x. not (has_name name x)) xs
once_few (Edit.Rename from to) xs = renamed_few from to xs

pub edited_few : (es : List Edit) (xs : List Collection) →
    length (names_of (edited es xs)) ≤ length (names_of xs)
edited_few [] xs = omega arith
edited_few (e ∷ es) xs =
    let first = once_few e xs in let rest = edited_few es (edited_once e xs) in
    omega (arith, first, rest)

-- ---- what is kept, one after another

pub kept_at : (P : Collection → Type 0) (s : List Collection) (ks : List Kept)
    (xs : List Collection) (i : ℕ) (k : Kept) → AreKept s ks xs → i < length ks →
    k ≡ get_or ks i k → ((x : Collection) → IsKept s k x → P x) → At P xs i
kept_at P s [] xs i k are below is f = absurd (omega (arith, below))
kept_at P s (j ∷ ks) [] i k are below is f = absurd are
kept_at P s (j ∷ ks) (x ∷ xs) zero k are below is f = f x (subst (λ v. IsKept s v x) (sym is) are.0)
kept_at P s (j ∷ ks) (x ∷ xs) (suc i) k are below is f =
    kept_at P s ks xs i k are.1 (omega (arith, below)) is f

pub kept_there : (s : List Collection) (ks : List Kept) (xs : List Collection) (i : ℕ) (k : Kept) →
    AreKept s ks xs → AreNamed xs → i < length ks → k ≡ get_or ks i k →
    (x : Collection) × IsKept s k x × IsName x.name
kept_there s [] xs i k are named below is = absurd (omega (arith, below))
kept_there s (j ∷ ks) [] i k are named below is = absurd are
kept_there s (j ∷ ks) (x ∷ xs) zero k are named below is =
    (x, subst (λ v. IsKept s v x) (sym is) are.0, named.0)
kept_there s (j ∷ ks) (x ∷ xs) (suc i) k are named below is =
    kept_there s ks xs i k are.1 named.1 (omega (arith, below)) is

pub kept_count : (s : List Collection) (ks : List Kept) (xs : List Collection) → AreKept s ks xs →
    length xs ≡ length ks
kept_count s [] [] are = refl
kept_count s [] (x ∷ xs) are = absurd are
kept_count s (k ∷ ks) [] are = absurd are
kept_count s (k ∷ ks) (x ∷ xs) are = ap suc (kept_count s ks xs are.1)

-- what is kept can be shown,
pub show_refused : (P : Collection → Type 0) (s : List Collection) (at : ℕ) (e : Refusal) →
    At P s at → ShowRefused s at e → e ≡ Refusal.NoMemory
show_refused P s at Refusal.NoMemory there why = refl
show_refused P s at Refusal.NoSuchCollection there why = absurd (past P s at there why)
  where
    past : (P : Collection → Type 0) (s : List Collection) (at : ℕ) → At P s at → length s ≤ at → ⊥
    past P [] at there few = there
    past P (x ∷ s) zero there few = omega (arith, few)
    past P (x ∷ s) (suc at) there few = past P s at there (omega (arith, few))
show_refused P s at e there why = absurd why

-- and tells of it under its name.
pub kept_tells : (s : List Collection) (at : ℕ) (shown named : Shown) (x : Collection)
    (rs : List Record) → At (λ y. Shows y shown) s at → At (λ y. y.content ≡ x.content) s at →
    named.name ≡ x.name → named.kind ≡ shown.kind → named.items ≡ shown.items →
    AreOf named rs → TellsOf x rs
kept_tells [] at shown named x rs shows holds name kind items is = absurd shows
kept_tells (y ∷ s) zero shown named x rs shows holds name kind items is = record {
  items = named.items.items;
  lists = subst (λ c. ListsContent named.items.items c) holds
      (subst (λ (v : Vec Item Global). ListsContent v.items y.content) (sym items) shows.holds);
  is = is ∙ ap (λ k. Record.Name k named.name ∷ map Record.Item named.items.items)
      (kind ∙ shows.of_kind ∙ ap kind_of_content holds) ∙
      ap (λ n. Record.Name (kind_of_content x.content) n ∷ map Record.Item named.items.items) name;
}
kept_tells (y ∷ s) (suc at) shown named x rs shows holds name kind items is =
    kept_tells s at shown named x rs shows holds name kind items is

-- ---- the image of what is kept

pub can_stand : (next wear : ℕ) → (1 ≤ next) × (next ≤ 2 ^ 61) → wear ≤ 2 ^ 61 + 65536 →
    CanStand next wear []
can_stand next wear range worn = record {
  low = range.0;
  high = range.1;
  worn = omega (arith, worn);
  good = λ last. tt;
}

pub settled_is : (f : Format) (next wear : ℕ) (xs : List Collection) (rs : List Record) →
    TellsGathered f next wear xs [] rs → IsImage f next wear xs [] [] rs
settled_is f next wear xs rs tells =
    record { told = tells.told; tells = tells.tells; rise = tt; all_live = tt; is = tells.is }

pub settled_some : (f : Format) (next wear : ℕ) (xs : List Collection) (rs : List Record) →
    IsImage f next wear xs [] [] rs → 0 < length rs
settled_some f next wear xs rs is = omega (arith, ap length is.is)
