-- What is at a number of a shelf, and what its kind says of a call there.
use Rattle.std.proofs.Common.{◌≡◌, ℕ, zero, suc, ◌≤◌, ◌⊎◌, ⊎_elim, inl, inr, Some, None, List, []}
use Rattle.std.proofs.Common.{◌∷◌}
use Rattle.std.proofs.Common.{slice_get, length, refl, sym, subst, arith, Result, Ok, Err, ap, ◌∙◌}
use Rattle.std.proofs.Common.{map}
use Rattle.std.proofs.Common.{Option, ◌<◌, ◌/◌, slice_set, slice_index_or, Bor, MatchOption}
use Rattle.std.specs.Option.{option_map}
use Rattle.std.specs.Slice.{IsItemAt}
use Rattle.std.proofs.lemmas.List.{length-map}
use Rattle.std.proofs.lemmas.Option.{slice_get-map}
use Rattle.std.specs.Prelude.{IfErr, IsOkUnless}
use Rattle.std.specs.List.{AllByRecursion}
use Rattle.calls.specs.declared.call.Call.{Call}
use Rattle.calls.specs.declared.reply.Reply.{Reply}
use Rattle.calls.specs.declared.refusal.Refusal.{Refusal}
use Rattle.calls.specs.Rules.{Askable}
use Rattle.calls.specs.Formats.{widest}
use Rattle.calls.specs.Contents.{Content, Answers, kind_of_content}
use Rattle.boosted.specs.Kinds.{IsOf, IsWrong}
use Rattle.boosted.specs.Meaning.{AskRefusal, DeferRefusal}
use Rattle.catalog.specs.declared.holding.Holding.{Holding}
use Rattle.catalog.specs.Fours.{Which, which_of, quarter}
use Rattle.catalog.specs.Holdings.{content_of}
use Rattle.catalog.specs.Laws.Numbers.{quotient_is}
use Rattle.catalog.specs.Places.{At, Reaches}
use Rattle.catalog.specs.Shelving.{CopyRefused}
use Rattle.catalog.specs.Woven.{ShelfContent, On, MisplacedOn, IsHeld, IsAbsent, with_at}
use Rattle.catalog.specs.Woven.{shelf_meaning}

-- Where k is at a place, what holds there holds of k.
module _ {X : Type 0} (P : X → Type 0) where
  pub at_get : (k : X) (xs : List X) (p : ℕ) → slice_get xs p ≡ Some k → P k → At P xs p
  at_get k [] p e h = absurd (cc)
  at_get k (x ∷ xs) zero e h = let same : x ≡ k = cc in subst P (sym same) h
  at_get k (x ∷ xs) (suc p) e h = at_get k xs p e h

  pub get_at : (k : X) (xs : List X) (p : ℕ) → slice_get xs p ≡ Some k → At P xs p → P k
  get_at k [] p e h = absurd h
  get_at k (x ∷ xs) zero e h = let same : x ≡ k = cc in subst P same h
  get_at k (x ∷ xs) (suc p) e h = get_at k xs p e h

  pub nothing_at : (xs : List X) (p : ℕ) → slice_get xs p ≡ None → At P xs p → ⊥
  nothing_at [] p e h = h
  nothing_at (x ∷ xs) zero e h = absurd (cc)
  nothing_at (x ∷ xs) (suc p) e h = nothing_at xs p e h

pub nothing_past : {X : Type 0} (xs : List X) (p : ℕ) → slice_get xs p ≡ None → length xs ≤ p
nothing_past [] p e = omega arith
nothing_past (x ∷ xs) zero e = absurd (cc)
nothing_past (x ∷ xs) (suc p) e = let l : length xs ≤ p = nothing_past xs p e in omega arith

-- Where nothing is, nothing holds.
pub nothing_on : (P : Content → Type 0) (s : ShelfContent) (at : ℕ) → IsAbsent s at → On P s at → ⊥
nothing_on P s at absent h = nothing_at P s.held (quarter at) (absent h.0) h.1

pub absent_past : (s : ShelfContent) (at : ℕ) (c : Call) → IsAbsent s at →
    MisplacedOn s at c Refusal.NoSuchCollection
absent_past s at c absent here = nothing_past s.held (quarter at) (absent here)

-- Whether a call belongs where k is, and how it is refused where not.
module _ (s : ShelfContent) (at : ℕ) (k : Content) (there : IsHeld s at k) where
  pub on_it : (P : Content → Type 0) → P k → On P s at
  on_it P h = (there.0, at_get P k s.held (quarter at) there.1 h)

  pub of_it : (P : Content → Type 0) → On P s at → P k
  of_it P h = get_at P k s.held (quarter at) there.1 h.1

  module _ (c : Call) where
    -- what the kind's own test refuses is refused so at the place
    pub asked_there : (e : Refusal) →
        AskRefusal widest (IsOf (kind_of_content k) c) (IsWrong (kind_of_content k) c) c e →
        AskRefusal widest (shelf_meaning.belongs s at c) (MisplacedOn s at c) c e
    asked_there Refusal.BadArg h = (on_it (λ x. IsOf (kind_of_content x) c) h.0, h.1)
    asked_there Refusal.TooLong h = (on_it (λ x. IsOf (kind_of_content x) c) h.0, h.1, h.2)
    asked_there Refusal.WrongKind h = on_it (λ x. IsOf (kind_of_content x) c → ⊥) h.0
    asked_there e h = let is : e ≡ Refusal.WrongKind = h.1 in absurd (cc)

    pub deferred_there : (e : Refusal) →
        DeferRefusal (IsOf (kind_of_content k) c) (IsWrong (kind_of_content k) c) c e →
        DeferRefusal (shelf_meaning.belongs s at c) (MisplacedOn s at c) c e
    deferred_there Refusal.BadArg h = (on_it (λ x. IsOf (kind_of_content x) c) h.0, h.1)
    deferred_there Refusal.WrongKind h = on_it (λ x. IsOf (kind_of_content x) c → ⊥) h.0
    deferred_there e h = let is : e ≡ Refusal.WrongKind = h.1 in absurd (cc)

    pub reply_there : Askable c ⊎ ((r : Reply) × shelf_meaning.answers s at c r) →
        Askable c ⊎ ((r : Reply) × Answers k c r)
    reply_there h = ⊎_elim (λ (a : Askable c). inl a)
        (λ (w : (r : Reply) × shelf_meaning.answers s at c r).
        inr (w.0, of_it (λ x. Answers x c w.0) w.1)) h

-- What is not on the shelf cannot be copied there, and what is, only for want of memory.
pub not_held : (s : ShelfContent) (at : ℕ) → IsAbsent s at → (k : Content) → IsHeld s at k → ⊥
not_held s at absent k h = let none = absent h.0 in let some = h.1 in cc

pub copied_or_not : {T : Type 0} (s : ShelfContent) (at : ℕ) (k : Content) → IsHeld s at k →
    (r : Result T Refusal) → IsOkUnless r Refusal.NoMemory →
    IfErr r (CopyRefused (IsHeld s at))
copied_or_not s at k there (Ok x) h = tt
copied_or_not s at k there (Err Refusal.NoMemory) h = (k, there)
copied_or_not s at k there (Err e) h = absurd (cc)

-- ---- the holdings of a shelf

pub at_within : {X : Type 0} (P : X → Type 0) (xs : List X) (p : ℕ) → At P xs p → p < length xs
at_within P [] p h = absurd h
at_within P (x ∷ xs) zero h = omega arith
at_within P (x ∷ xs) (suc p) h = let l : p < length xs = at_within P xs p h in omega (arith, l)

pub within_get : (n : ℕ) (k : Content) (xs : List Content) (p : ℕ) → slice_get xs p ≡ Some k →
    AllByRecursion (λ x. Reaches x n) xs → Reaches k n
within_get n k [] p e w = absurd (cc)
within_get n k (x ∷ xs) zero e w = let same : x ≡ k = cc in subst (λ v. Reaches v n) same w.0
within_get n k (x ∷ xs) (suc p) e w = within_get n k xs p e w.1

-- What is written over one holding is a change at its place.
pub set_is : (f : Content → Content) (old new : Holding) (hs : List Holding) (i : ℕ) →
    slice_get hs i ≡ Some old → content_of new ≡ f (content_of old) →
    map content_of (slice_set hs i new) ≡ with_at f (map content_of hs) i
set_is f old new [] i e n = absurd (cc)
set_is f old new (h ∷ hs) zero e n =
    let same : h ≡ old = cc in
    ap (λ k. k ∷ map content_of hs) (n ∙ ap (λ v. f (content_of v)) (sym same))
set_is f old new (h ∷ hs) (suc i) e n =
    ap (λ l. content_of h ∷ l) (set_is f old new hs i e n)

pub read_at : {X : Type 0} (xs : List X) (i : ℕ) (x : X) → i < length xs →
    x ≡ slice_index_or xs i x → slice_get xs i ≡ Some x
read_at [] i x l e = absurd (omega (arith, l))
read_at (y ∷ xs) zero x l e = ap Some (sym e)
read_at (y ∷ xs) (suc i) x l e = read_at xs i x (omega (arith, l)) e

past_nothing : {X : Type 0} (xs : List X) (i : ℕ) → length xs ≤ i → slice_get xs i ≡ None
past_nothing [] i l = refl
past_nothing (y ∷ xs) zero l = absurd (omega (arith, l))
past_nothing (y ∷ xs) (suc i) l = past_nothing xs i (omega (arith, l))

-- What a shelf is seen as, at a number.
abbrev shelf_of : Which → List Content → ShelfContent
shelf_of w held = record { index = w; held = held }

abbrev seen_as : ℕ → List Holding → ShelfContent
seen_as index hs = record { index = which_of index; held = map content_of hs }

module _ (index : ℕ) (hs : List Holding) (s : ShelfContent) (seen : seen_as index hs ≡ s)
    (at i : ℕ) (is : i ≡ at / 4) where
  pub quarter_is : i ≡ quarter at
  quarter_is = is ∙ quotient_is at

  pub item_there : (P : Content → Type 0) → On P s at → i < length hs
  item_there P h = subst (λ n. n < length hs) (sym quarter_is)
      (subst (λ n. quarter at < n) (length-map hs content_of)
      (at_within P (map content_of hs) (quarter at)
      (subst (λ (v : ShelfContent). At P v.held (quarter at)) (sym seen) h.1)))

  item_at : slice_get s.held (quarter at) ≡ option_map content_of (slice_get hs i)
  item_at = ap (λ (v : ShelfContent). slice_get v.held (quarter at)) (sym seen) ∙
      ap (slice_get (map content_of hs)) (sym quarter_is) ∙ slice_get-map content_of hs i

  pub item_held : (h : Holding) → slice_get hs i ≡ Some h →
      slice_get s.held (quarter at) ≡ Some (content_of h)
  item_held h e = item_at ∙ ap (option_map content_of) e

  pub none_held : slice_get hs i ≡ None → slice_get s.held (quarter at) ≡ None
  none_held e = item_at ∙ ap (option_map content_of) e

  pub got : (o : Option (Bor Holding)) → IsItemAt hs i o → which_of at ≡ s.index →
      MatchOption o (IsAbsent s at) (λ h. IsHeld s at (content_of h.now))
  got None e here = λ again. none_held (past_nothing hs i e.3)
  got (Some h) e here = (here, item_held h.now (read_at hs i h.now e.3.0 e.1))

  pub set_seen : (f : Content → Content) (old new : Holding) → slice_get hs i ≡ Some old →
      content_of new ≡ f (content_of old) →
      seen_as index (slice_set hs i new) ≡ record s { held = with_at f s.held (quarter at) }
  set_seen f old new there n =
      ap (λ l. shelf_of (which_of index) l)
      (set_is f old new hs i there n ∙ ap (with_at f (map content_of hs)) quarter_is) ∙
      ap (λ (v : ShelfContent). shelf_of v.index (with_at f v.held (quarter at))) seen
