-- Entries of one number and of all others, and the newest call of a number.
use Rattle.std.proofs.Common.{◌≡◌, ℕ, suc, zero, ◌<◌, ◌==◌, Bool, true, false, cond}
use Rattle.std.proofs.Common.{List, [], ◌∷◌, ◌++◌, map, take, drop, get_or, length, refl, sym, ap}
use Rattle.std.proofs.Common.{subst, ◌∙◌, arith, length-drop}
use Rattle.std.specs.List.{filter, remove}
use Rattle.std.proofs.lemmas.List.{take-append-drop, drop_more, map-append}
use Rattle.calls.specs.Transactions as transactions
use Rattle.calls.specs.Transactions.{own, calls_of}
use Rattle.undo_log.specs.declared.logged.Logged.{Logged}
use Rattle.undo_log.specs.declared.logged.Later.{Later}
use Rattle.undo_log.specs.declared.logged.Entry.TheVariants.{Asked, Deferred}
use Rattle.undo_log.specs.declared.logged.Stamped.{Stamped}
use Rattle.undo_log.specs.Entries.{event_of, entry_of, stamped_entry}
use Rattle.undo_log.specs.Entries.{IsNewestCall, IsNewestPlace}

-- ---- what passes a test

module _ {X Y : Type 0} (p : X → Bool) (f : X → Y) where
  -- f of what passes the test, between a and b: the list is parted there
  pub record IsParted (xs : List X) (a : List Y) (y : Y) (b : List Y) : Type 0 where
    pub before : List X
    pub here : X
    pub after : List X
    pub is : xs ≡ before ++ here ∷ after
    pub passes : p here ≡ true
    pub here_is : f here ≡ y
    pub before_is : map f (filter p before) ≡ a
    pub after_is : map f (filter p after) ≡ b

  push_front : (v : X) (xs : List X) (a : List Y) (y : Y) (b : List Y) → p v ≡ false →
      IsParted xs a y b → IsParted (v ∷ xs) a y b
  push_front v xs a y b fails r = record {
    before = v ∷ r.before;
    here = r.here;
    after = r.after;
    is = ap (λ l. v ∷ l) r.is;
    passes = r.passes;
    here_is = r.here_is;
    before_is =
        ap (λ c. map f (cond c (v ∷ filter p r.before) (filter p r.before))) fails ∙ r.before_is;
    after_is = r.after_is;
  }

  push_passing : (v : X) (xs : List X) (a : List Y) (y : Y) (b : List Y) → p v ≡ true →
      IsParted xs a y b → IsParted (v ∷ xs) (f v ∷ a) y b
  push_passing v xs a y b passes r = record {
    before = v ∷ r.before;
    here = r.here;
    after = r.after;
    is = ap (λ l. v ∷ l) r.is;
    passes = r.passes;
    here_is = r.here_is;
    before_is =
        ap (λ c. map f (cond c (v ∷ filter p r.before) (filter p r.before))) passes ∙
        ap (λ l. f v ∷ l) r.before_is;
    after_is = r.after_is;
  }

  parted_by : (v : X) (xs : List X) (a : List Y) (y : Y) (b : List Y) (c : Bool) → p v ≡ c →
      ((a : List Y) → map f (filter p xs) ≡ a ++ y ∷ b → IsParted xs a y b) →
      map f (cond c (v ∷ filter p xs) (filter p xs)) ≡ a ++ y ∷ b → IsParted (v ∷ xs) a y b
  parted_by v xs [] y b true is later h = record {
    before = [];
    here = v;
    after = xs;
    is = refl;
    passes = is;
    here_is = cc;
    before_is = refl;
    after_is = cc;
  }
  parted_by v xs (u ∷ a) y b true is later h =
      let first : f v ≡ u = cc in
      let rest : map f (filter p xs) ≡ a ++ y ∷ b = cc in
      subst (λ w. IsParted (v ∷ xs) (w ∷ a) y b) first (push_passing v xs a y b is (later a rest))
  parted_by v xs a y b false is later h = push_front v xs a y b is (later a h)

  pub parted : (xs : List X) (a : List Y) (y : Y) (b : List Y) → map f (filter p xs) ≡ a ++ y ∷ b →
      IsParted xs a y b
  parted [] [] y b h = cc
  parted [] (u ∷ a) y b h = cc
  parted (v ∷ xs) a y b h = parted_by v xs a y b (p v) refl (λ c. parted xs c y b) h

map_cond : {X Y : Type 0} (f : X → Y) (b : Bool) (x : X) (xs : List X) →
    map f (cond b (x ∷ xs) xs) ≡ cond b (f x ∷ map f xs) (map f xs)
map_cond f true x xs = refl
map_cond f false x xs = refl

-- a test on what f gives
pub filter_mapped : {X Y : Type 0} (p : Y → Bool) (f : X → Y) (xs : List X) →
    filter p (map f xs) ≡ map f (filter (λ x. p (f x)) xs)
filter_mapped p f [] = refl
filter_mapped p f (x ∷ xs) =
    ap (λ l. cond (p (f x)) (f x ∷ l) l) (filter_mapped p f xs) ∙
    sym (map_cond f (p (f x)) x (filter (λ v. p (f v)) xs))

module _ {X : Type 0} (p q : X → Bool) (weaker : (x : X) → p x ≡ true → q x ≡ true) where
  through_by : (x : X) (xs ys : List X) (b c : Bool) → p x ≡ b → q x ≡ c →
      filter p xs ≡ ys → filter p (cond c (x ∷ xs) xs) ≡ cond b (x ∷ ys) ys
  through_by x xs ys true true is at h =
      ap (λ b. cond b (x ∷ filter p xs) (filter p xs)) is ∙ ap (λ l. x ∷ l) h
  through_by x xs ys true false is at h = let no : true ≡ false = sym (weaker x is) ∙ at in cc
  through_by x xs ys false true is at h =
      ap (λ b. cond b (x ∷ filter p xs) (filter p xs)) is ∙ h
  through_by x xs ys false false is at h = h

  -- a test behind a weaker one
  pub filter_through : (xs : List X) → filter p (filter q xs) ≡ filter p xs
  filter_through [] = refl
  filter_through (x ∷ xs) = through_by x (filter q xs) (filter p xs) (p x) (q x) refl refl
      (filter_through xs)

-- ---- the newest call

after_drop : {X : Type 0} (i : ℕ) (xs : List X) (x : X) (rest : List X) → drop i xs ≡ x ∷ rest →
    drop (suc i) xs ≡ rest
after_drop zero [] x rest e = cc
after_drop zero (y ∷ xs) x rest e = cc
after_drop (suc i) [] x rest e = cc
after_drop (suc i) (y ∷ xs) x rest e = after_drop i xs x rest e

-- the list before the place and behind it
pub at_place : {X Y : Type 0} (f : X → Y) (i : ℕ) (xs : List X) (x : X) (rest : List X) →
    drop i xs ≡ x ∷ rest → map f xs ≡ map f (take i xs) ++ f x ∷ map f rest
at_place f i xs x rest e =
    ap (map f) (sym (take-append-drop i xs) ∙ ap (λ r. take i xs ++ r) e) ∙
    map-append f (take i xs) (x ∷ rest)

pub without_place : {X Y : Type 0} (f : X → Y) (i : ℕ) (xs : List X) (x : X) (rest : List X) →
    drop i xs ≡ x ∷ rest → map f (remove xs i) ≡ map f (take i xs) ++ map f rest
without_place f i xs x rest e =
    ap (λ r. map f (take i xs ++ r)) (after_drop i xs x rest e) ∙ map-append f (take i xs) rest

-- the place is one of the list
within : {X : Type 0} (i : ℕ) (xs : List X) (x : X) (rest : List X) → drop i xs ≡ x ∷ rest →
    i < length xs
within i xs x rest e = let short = ap length e in let long = length-drop i xs in omega arith

-- what is read at the place of the newest call
module _ (ss : List Stamped) (i : ℕ) (s : Stamped) (is : s ≡ get_or ss i s)
    (place : IsNewestPlace ss i) where
  here : s.entry ≡ Asked place.3.0
  here =
      let more = drop_more ss i s (within i ss place.0 place.1 place.2) in
      let at = place.2 in
      let same : s ≡ place.0 = cc in
      ap (λ v. v.entry) same ∙ place.3.1

  pub newest_logged : (m : Logged) → s.entry ≡ Asked m → place.3.0 ≡ m
  newest_logged m asked = let at = here in cc

  pub newest_asked : (l : Later) → s.entry ≡ Deferred l → ⊥
  newest_asked l deferred = let at = here in cc

-- The newest of a transaction's own entries, among all
pub newest_of_all : (n : ℕ) (es : List (ℕ × transactions.Entry)) (ss : List Stamped) (i : ℕ)
    (place : IsNewestPlace ss i) → map stamped_entry ss ≡ own n es →
    (rest : List (ℕ × transactions.Entry)) × IsNewestCall n es (event_of place.3.0) rest
newest_of_all n es ss i place told =
    let r = parted (λ (e : ℕ × transactions.Entry). e.0 == n) (λ e. e.1) es
    (map stamped_entry (take i ss)) (stamped_entry place.0) (map stamped_entry place.1)
    (sym told ∙ at_place stamped_entry i ss place.0 place.1 place.2) in
    let number : r.here.0 ≡ n = grind (arith, r.passes) in
    let entry : r.here.1 ≡ transactions.Asked (event_of place.3.0) =
    r.here_is ∙ ap entry_of place.3.1 in (
      r.before ++ r.after,
      record {
        before = r.before;
        after = r.after;
        is = r.is ∙ ap (λ e. r.before ++ e ∷ r.after) (λ j. (number j, entry j));
        rest_is = refl;
        none_newer = ap calls_of r.after_is ∙ place.4;
      },
    )
