-- What the entries of the names of a catalog stand for: at a place, and by name.
use Rattle.std.proofs.Common.{◌≡◌, ℕ, zero, suc, ◌<◌, ◌≤◌, Bool, true, false}
use Rattle.std.proofs.Common.{true≢false, Option, Some, None, List, [], ◌∷◌, ◌++◌, length, map}
use Rattle.std.proofs.Common.{is_some, slice_get, position, get_or, Contains, refl, sym, ◌∙◌, ap}
use Rattle.std.proofs.Common.{subst, arith, length-append}
use Rattle.std.specs.Prelude.{string_bytes, IsTrue, ◌↔◌}
use Rattle.std.specs.List.{AllByRecursion, IsDistinct}
use Rattle.std.specs.Map.{keys_of, lookup}
use Rattle.std.specs.Option.{option_map}
use Rattle.std.specs.Str.{bytes_eq}
use Rattle.std.specs.String.{string_eq}
use Rattle.std.specs.declared.string.String.{String}
use Rattle.std.specs.declared.alloc.Global.{Global}
use Rattle.std.proofs.lemmas.List.{length-map}
use Rattle.std.proofs.lemmas.List.Quantifiers.{position-Some}
use Rattle.std.proofs.lemmas.Map.Keys.{IsDistinct-head, IsDistinct-tail}
use Rattle.std.proofs.lemmas.Map.Entries.{lookup_head, lookup_tail, place_from_lookup}
use Rattle.std.proofs.lemmas.Option.{slice_get_within, slice_get_read, get_or_from_slice_get}
use Rattle.std.proofs.lemmas.Option.{slice_get-map}
use Rattle.std.proofs.lemmas.Slice.Eq.{bytes_eq-Decides}
use Rattle.indexmap.specs.IndexMap.{insert_entry}
use Rattle.indexmap.proofs.MapLemmas.{absent_from_lookup, insert_entry-absent}
use Rattle.calls.specs.declared.kind.Kind.{Kind}
use Rattle.calls.specs.Names.{IsName}
use Rattle.catalog.specs.Making.{IsPlaceOf, IsFree, AreDistinct}
use Rattle.catalog.specs.Woven.{Label, names_in, labels_of, AreGood}

abbrev Entry : Type 0
Entry = String Global × Kind

abbrev label_of : Entry → Label
label_of e = record { name = string_bytes e.0; kind = e.1 }

length-labels_of : (es : List Entry) → length (labels_of es) ≡ length es
length-labels_of [] = refl
length-labels_of (e ∷ es) = ap suc (length-labels_of es)

-- What is at a place.
label_at : (es : List Entry) (at : ℕ) →
    slice_get (labels_of es) at ≡ option_map label_of (slice_get es at)
label_at [] at = refl
label_at (e ∷ es) zero = refl
label_at (e ∷ es) (suc at) = label_at es at

-- One entry more.
labels_of-push : (es : List Entry) (key : String Global) (kind : Kind) →
    labels_of (es ++ (key, kind) ∷ []) ≡ labels_of es ++
    record { name = string_bytes key; kind = kind } ∷ []
labels_of-push [] key kind = refl
labels_of-push (e ∷ es) key kind = ap (λ l. label_of e ∷ l) (labels_of-push es key kind)

-- The names are those of the keys.
abbrev is_text : List ℕ → String Global → Bool
is_text name k = bytes_eq name (string_bytes k)

names_are : (es : List Entry) → names_in (labels_of es) ≡ map string_bytes (keys_of es)
names_are [] = refl
names_are (e ∷ es) = ap (λ l. string_bytes e.0 ∷ l) (names_are es)

-- A name that stands nowhere after a key that differs.
apart : (k : String Global) (es : List Entry) (i : ℕ) →
    AllByRecursion (λ y. string_eq k y ≡ false) (keys_of es) →
    slice_get (names_in (labels_of es)) i ≡ Some (string_bytes k) → ⊥
apart k [] i a e = absurd (cc)
apart k (x ∷ es) zero a e =
    let same : string_bytes x.0 ≡ string_bytes k = cc in
    true≢false (sym ((bytes_eq-Decides (string_bytes k) (string_bytes x.0)).1 (sym same)) ∙ a.0)
apart k (x ∷ es) (suc i) a e = apart k es i a.1 e

pub names_distinct : (es : List Entry) → IsDistinct string_eq (keys_of es) →
    AreDistinct (names_in (labels_of es))
names_distinct [] d name j k a b = absurd (cc)
names_distinct (x ∷ es) d name zero zero a b = refl
names_distinct (x ∷ es) d name zero (suc k) a b =
    absurd (apart x.0 es k (IsDistinct-head string_eq x.0 (keys_of es) d) (b ∙ sym a))
names_distinct (x ∷ es) d name (suc j) zero a b =
    absurd (apart x.0 es j (IsDistinct-head string_eq x.0 (keys_of es) d) (a ∙ sym b))
names_distinct (x ∷ es) d name (suc j) (suc k) a b =
    ap suc (names_distinct es (IsDistinct-tail string_eq x.0 (keys_of es) d) name j k a b)

module _ (name : List ℕ) where
  -- a name that is looked up stands where it is found
  stands : (ks : List (String Global)) (i : ℕ) → position (is_text name) ks ≡ Some i →
      slice_get (map string_bytes ks) i ≡ Some name
  stands [] i e = absurd (cc)
  stands (k ∷ ks) i e =
      let p = position-Some (is_text name) (k ∷ ks) i k e in
      at (k ∷ ks) i k p.0 ((bytes_eq-Decides name _).0 p.1)
    where
      at : (ls : List (String Global)) (j : ℕ) (d : String Global) → j < length ls →
          name ≡ string_bytes (get_or ls j d) → slice_get (map string_bytes ls) j ≡ Some name
      at [] j d l q = absurd (omega arith)
      at (x ∷ ls) zero d l q = ap Some (sym q)
      at (x ∷ ls) (suc j) d l q = at ls j d (omega arith) q

  pub found_at : (es : List Entry) (i : ℕ) → IsDistinct string_eq (keys_of es) →
      position (is_text name) (keys_of es) ≡ Some i →
      IsPlaceOf (names_in (labels_of es)) name i
  found_at es i d e =
      let here : slice_get (names_in (labels_of es)) i ≡ Some name =
      subst (λ l. slice_get l i ≡ Some name) (sym (names_are es)) (stands (keys_of es) i e) in
      record { there = here; only = λ k h. names_distinct es d name k i h here }

  -- one that is not found is free
  missed : (x : Entry) (es : List Entry) (b : Bool) → is_text name x.0 ≡ b →
      lookup (is_text name) (x ∷ es) ≡ None →
      ((j : ℕ) → lookup (is_text name) es ≡ None →
      slice_get (names_in (labels_of es)) j ≡ Some name → ⊥) → (i : ℕ) →
      slice_get (names_in (labels_of (x ∷ es))) i ≡ Some name → ⊥
  missed x es true t n rest i h = let some = lookup_head (is_text name) x es t in cc
  missed x es false t n rest zero h = let same : string_bytes x.0 ≡ name = cc in
      true≢false (sym ((bytes_eq-Decides name (string_bytes x.0)).1 (sym same)) ∙ t)
  missed x es false t n rest (suc j) h = rest j (sym (lookup_tail (is_text name) x es t) ∙ n) h

  nowhere : (es : List Entry) (i : ℕ) → lookup (is_text name) es ≡ None →
      slice_get (names_in (labels_of es)) i ≡ Some name → ⊥
  nowhere [] i n e = cc
  nowhere (x ∷ es) i n e = missed x es (is_text name x.0) refl n (nowhere es) i e

  pub absent_free : (es : List Entry) → lookup (is_text name) es ≡ None →
      IsFree (names_in (labels_of es)) name
  absent_free es n c = nowhere es c.0 n
      (slice_get_read (names_in (labels_of es)) _ c.0 name refl c.1 (sym c.2))

  pub place_contains : (names : List (List ℕ)) (i : ℕ) → slice_get names i ≡ Some name →
      Contains names name
  place_contains names i e = (
    i,
    slice_get_within names i name e,
    get_or_from_slice_get names i name name e,
  )

-- Names and look-ups.
name_at : (es : List Entry) (i : ℕ) →
    slice_get (names_in (labels_of es)) i ≡ option_map (λ e. string_bytes e.0) (slice_get es i)
name_at [] i = refl
name_at (e ∷ es) zero = refl
name_at (e ∷ es) (suc i) = name_at es i

is_none : {X : Type 0} (o : Option X) → is_some o ≡ false → o ≡ None
is_none None e = refl
is_none (Some x) e = absurd (true≢false e)

module _ (name : List ℕ) (es : List Entry) where
  hit : (v : Kind) → lookup (is_text name) es ≡ Some v →
      Contains (names_in (labels_of es)) name
  hit v e =
      let p = place_from_lookup (is_text name) es v e in
      let same : name ≡ string_bytes p.1 = (bytes_eq-Decides name (string_bytes p.1)).0 p.3 in
      place_contains name (names_in (labels_of es)) p.0
      (name_at es p.0 ∙ ap (option_map (λ e. string_bytes e.0)) p.2 ∙ ap Some (sym same))

  by_lookup : (o : Option Kind) → lookup (is_text name) es ≡ o →
      IsFree (names_in (labels_of es)) name → o ≡ None
  by_lookup None e f = refl
  by_lookup (Some v) e f = absurd (f (hit v e))

  pub free_absent : IsFree (names_in (labels_of es)) name → lookup (is_text name) es ≡ None
  free_absent f = by_lookup (lookup (is_text name) es) refl f

  by_taken : (o : Option Kind) → lookup (is_text name) es ≡ o → is_some o ≡ true →
      Contains (names_in (labels_of es)) name
  by_taken None e t = absurd (true≢false (sym t))
  by_taken (Some v) e t = hit v e

-- Whether a name is taken, in what the names are seen as.
module _ (s : List Label) (es : List Entry) (seen : labels_of es ≡ s)
    (name : List ℕ) where
  pub taken : is_some (lookup (is_text name) es) ≡ true → Contains (names_in s) name
  taken t = rw (← seen) (by_taken name es (lookup (is_text name) es) refl t)

  pub free : is_some (lookup (is_text name) es) ≡ false → IsFree (names_in s) name
  free t = rw (← seen) (absent_free name es (is_none (lookup (is_text name) es) t))

  pub many : length (names_in s) ≡ length es
  many = rw (← seen) (length-map (labels_of es) (λ (x : Label). x.name) ∙
      length-labels_of es)

  pub stands_at : (i : ℕ) → IsDistinct string_eq (keys_of es) →
      position (is_text name) (keys_of es) ≡ Some i → IsPlaceOf (names_in s) name i
  stands_at i d e = rw (← seen) (found_at name es i d e)

  -- A new entry is a new name.
  pub added : (key : String Global) (kind : Kind) (n : List Entry) → string_bytes key ≡ name →
      n ≡ insert_entry string_eq es key kind → IsFree (names_in s) name →
      labels_of n ≡ s ++ record { name = name; kind = kind } ∷ []
  added key kind n k i f =
      let absent : IsFree (names_in (labels_of es)) (string_bytes key) = rw (k, seen) f in
      let new : n ≡ es ++ (key, kind) ∷ [] =
      i ∙ insert_entry-absent string_eq key kind es
      (absent_from_lookup (string_eq key) es (free_absent (string_bytes key) es absent)) in
      ap labels_of new ∙ labels_of-push es key kind ∙
      (λ j. seen j ++ record { name = k j; kind = kind } ∷ [])

-- What the names are seen as, at a place.
module _ (s : List Label) (es : List Entry) (seen : labels_of es ≡ s) (i at : ℕ)
    (place : i ≡ at) where
  pub entry_at : (o : Option Entry) → o ≡ slice_get es i →
      option_map label_of o ≡ slice_get s at
  entry_at o e = rw (← seen, ← place, e) (sym (label_at es i))

-- Each name is a good one,
pub good_at : (es : List Entry) (i : ℕ) (e : Entry) → AreGood (labels_of es) →
    Some e ≡ slice_get es i → IsName (string_bytes e.0)
good_at [] i e good t = absurd (cc)
good_at (f ∷ es) zero e good t = let same : e ≡ f = cc in
    subst (λ v. IsName (string_bytes v.0)) (sym same) good.0
good_at (f ∷ es) (suc i) e good t = good_at es i e good.1 t

-- also with one more behind the others, of which there are at most 256.
pub few_more : (s : List Label) (x : Label) (es : List Entry) →
    labels_of es ≡ s ++ x ∷ [] → length (names_in s) < 256 → length es ≤ 256
few_more s x es is few = omega (
  arith,
  few,
  length-map s (λ (x : Label). x.name),
  ap length is,
  length-append s (x ∷ []),
  length-labels_of es,
)

pub good_more : (s : List Label) (x : Label) (t : List Label) → AreGood s → IsName x.name →
    t ≡ s ++ x ∷ [] → AreGood t
good_more s x t good one is = subst AreGood (sym is) (more s good)
  where
    more : (ys : List Label) → AreGood ys → AreGood (ys ++ x ∷ [])
    more [] good = (one, tt)
    more (y ∷ ys) good = (good.0, more ys good.1)

-- Whether a name is the one at a place.
module _ (s : List Label) (es : List Entry) (seen : labels_of es ≡ s) (i at : ℕ)
    (place : i ≡ at) where
  name_there : (o : Option Entry) → o ≡ slice_get es i →
      slice_get (names_in s) at ≡ option_map (λ e. string_bytes e.0) o
  name_there None there = slice_get-map (λ (x : Label). x.name) s at ∙
      ap (option_map (λ (x : Label). x.name)) (sym (entry_at s es seen i at place None there))
  name_there (Some e) there = slice_get-map (λ (x : Label). x.name) s at ∙
      ap (option_map (λ (x : Label). x.name)) (sym (entry_at s es seen i at place (Some e) there))

  pub tells_name : (e : Entry) → Some e ≡ slice_get es i → (name : List ℕ) (b : Bool) →
      b ≡ bytes_eq (string_bytes e.0) name →
      IsTrue b ↔ (slice_get (names_in s) at ≡ Some name)
  tells_name e there name b is = (
    λ t. name_there (Some e) there ∙
        ap Some ((bytes_eq-Decides (string_bytes e.0) name).0 (sym is ∙ t)),
    λ h. let mine = name_there (Some e) there in
        let same : string_bytes e.0 ≡ name = cc in
        is ∙ (bytes_eq-Decides (string_bytes e.0) name).1 same,
  )

  pub no_name : None ≡ slice_get es i → (name : List ℕ) →
      IsTrue false ↔ (slice_get (names_in s) at ≡ Some name)
  no_name there name = (
    λ t. absurd (true≢false (sym t)),
    λ h. let none = name_there None there in absurd (cc),
  )
