-- Lists of entries by rising keys: two with the same elements are one, and so a map made of any
-- list with these elements has this one.
use Rattle.std.proofs.Common.{◌≡◌, ℕ, ◌<◌, ◌==◌, Bool, true, false, cond, ◌⊎◌, inl, inr}
use Rattle.std.proofs.Common.{⊎_elim, Option, Some, List, [], ◌∷◌, ◌++◌, map, length, refl}
use Rattle.std.proofs.Common.{sym, ap, subst, ◌∙◌, arith}
use Rattle.std.specs.Prelude.{T, ◌&&◌}
use Rattle.std.specs.List.{filter, AllByRecursion}
use Rattle.std.specs.declared.cmp.Ordering.{Ordering}
use Rattle.std.specs.declared.cmp.Ordering.TheVariants.{Less, Equal, Greater}
use Rattle.std.specs.Ordering.{nat_cmp, eq_by_cmp, is_lt}
use Rattle.std.specs.Cmp.{nat_cmp_total, unsigned_tied}
use Rattle.std.specs.FinMap as maps
use Rattle.std.specs.FinMap.Entries.{below_all, by_order}
use Rattle.std.proofs.lemmas.Bool.{eq-eqb}

-- ---- what is in a list

module _ {X : Type 0} where
  -- The element is in the list.
  abbrev pub In : X → List X → Type 0
  In x [] = ⊥
  In x (y ∷ ys) = (y ≡ x) ⊎ In x ys

  pub in_left : (x : X) (xs ys : List X) → In x xs → In x (xs ++ ys)
  in_left x [] ys i = absurd i
  in_left x (y ∷ xs) ys (inl here) = inl here
  in_left x (y ∷ xs) ys (inr i) = inr (in_left x xs ys i)

  pub in_right : (x : X) (xs ys : List X) → In x ys → In x (xs ++ ys)
  in_right x [] ys i = i
  in_right x (y ∷ xs) ys i = inr (in_right x xs ys i)

  pub in_either : (x : X) (xs ys : List X) → In x (xs ++ ys) → In x xs ⊎ In x ys
  in_either x [] ys i = inr i
  in_either x (y ∷ xs) ys (inl here) = inl (inl here)
  in_either x (y ∷ xs) ys (inr i) =
      ⊎_elim (λ (left : In x xs). inl (inr left)) (λ (right : In x ys). inr right)
      (in_either x xs ys i)

  pub nothing : (xs : List X) → ((x : X) → In x xs → ⊥) → xs ≡ []
  nothing [] none = refl
  nothing (x ∷ xs) none = absurd (none x (inl refl))

  pub all_in : (P : X → Type 0) (xs : List X) → AllByRecursion P xs → (x : X) → In x xs → P x
  all_in P [] all x i = absurd i
  all_in P (y ∷ xs) all x (inl here) = subst P here all.0
  all_in P (y ∷ xs) all x (inr i) = all_in P xs all.1 x i

  pub in_all : (P : X → Type 0) (xs : List X) → ((x : X) → In x xs → P x) → AllByRecursion P xs
  in_all P [] each = tt
  in_all P (x ∷ xs) each = (each x (inl refl), in_all P xs (λ y i. each y (inr i)))

  module _ (p : X → Bool) where
    in_cond : (x y : X) (ys : List X) (b : Bool) → p y ≡ b → In x (cond b (y ∷ ys) ys) →
        ((y ≡ x) × (p x ≡ true)) ⊎ In x ys
    in_cond x y ys true is (inl here) = inl (here, ap p (sym here) ∙ is)
    in_cond x y ys true is (inr i) = inr i
    in_cond x y ys false is i = inr i

    -- what passes the test is in the list,
    pub in_filter : (x : X) (xs : List X) → In x (filter p xs) → In x xs × (p x ≡ true)
    in_filter x [] i = absurd i
    in_filter x (y ∷ xs) i =
        ⊎_elim (λ (here : (y ≡ x) × (p x ≡ true)). (inl here.0, here.1))
        (λ (later : In x (filter p xs)). let r = in_filter x xs later in (inr r.0, r.1))
        (in_cond x y (filter p xs) (p y) refl i)

    kept : (x y : X) (ys : List X) (b : Bool) → p y ≡ b → ((y ≡ x) × (p x ≡ true)) ⊎ In x ys →
        In x (cond b (y ∷ ys) ys)
    kept x y ys true is (inl here) = inl here.0
    kept x y ys true is (inr i) = inr i
    kept x y ys false is (inl here) =
        let no : false ≡ true = sym is ∙ ap p here.0 ∙ here.1 in
        cc
    kept x y ys false is (inr i) = i

    -- and the other way round
    pub filter_in : (x : X) (xs : List X) → In x xs → p x ≡ true → In x (filter p xs)
    filter_in x [] i passes = absurd i
    filter_in x (y ∷ xs) (inl here) passes =
        kept x y (filter p xs) (p y) refl (inl (here, passes))
    filter_in x (y ∷ xs) (inr i) passes =
        kept x y (filter p xs) (p y) refl (inr (filter_in x xs i passes))

pub in_map : {X Y : Type 0} (f : X → Y) (y : Y) (xs : List X) → In y (map f xs) →
    (x : X) × In x xs × (f x ≡ y)
in_map f y [] i = absurd i
in_map f y (x ∷ xs) (inl here) = (x, inl refl, here)
in_map f y (x ∷ xs) (inr i) = let r = in_map f y xs i in (r.0, inr r.1, r.2)

pub map_in : {X Y : Type 0} (f : X → Y) (x : X) (xs : List X) → In x xs → In (f x) (map f xs)
map_in f x [] i = absurd i
map_in f x (y ∷ xs) (inl here) = inl (ap f here)
map_in f x (y ∷ xs) (inr i) = inr (map_in f x xs i)

-- ---- entries by rising keys

both : (a b : Bool) → T (a && b) → T a × T b
both true b h = (tt, h)
both false b h = absurd h

module _ {X : Type 0} where
  -- The keys rise.
  abbrev pub Rises : List (ℕ × X) → Type 0
  Rises [] = Unit {0}
  Rises (e ∷ es) = AllByRecursion (λ d. e.0 < d.0) es × Rises es

  -- two such lists with the same elements are one
  pub same_rising : (xs ys : List (ℕ × X)) → Rises xs → Rises ys →
      ((e : ℕ × X) → In e xs → In e ys) → ((e : ℕ × X) → In e ys → In e xs) → xs ≡ ys
  same_rising [] [] r s f g = refl
  same_rising [] (y ∷ ys) r s f g = absurd (g y (inl refl))
  same_rising (x ∷ xs) [] r s f g = absurd (f x (inl refl))
  same_rising (x ∷ xs) (y ∷ ys) r s f g =
      let first : x ≡ y =
      ⊎_elim (λ (here : y ≡ x). sym here)
      (λ (later : In x ys). ⊎_elim (λ (here : x ≡ y). here)
      (λ (behind : In y xs).
      let over = all_in (λ d. y.0 < d.0) ys s.0 x later in
      let under = all_in (λ d. x.0 < d.0) xs r.0 y behind in
      absurd (omega arith)) (g y (inl refl))) (f x (inl refl)) in
      let rest : xs ≡ ys =
      same_rising xs ys r.1 s.1
      (λ e i. ⊎_elim
      (λ (here : y ≡ e).
      let over = all_in (λ d. x.0 < d.0) xs r.0 e i in
      let at = ap (λ v. v.0) (first ∙ here) in
      absurd (omega arith))
      (λ (later : In e ys). later) (f e (inr i)))
      (λ e i. ⊎_elim
      (λ (here : x ≡ e).
      let over = all_in (λ d. y.0 < d.0) ys s.0 e i in
      let at = ap (λ v. v.0) (sym first ∙ here) in
      absurd (omega arith))
      (λ (later : In e xs). later) (g e (inr i))) in
      ap (λ v. v ∷ xs) first ∙ ap (λ l. y ∷ l) rest

  -- a key has one value
  pub one_value : (es : List (ℕ × X)) → Rises es → (k : ℕ) (v w : X) → In (k, v) es → In (k, w) es →
      v ≡ w
  one_value [] r k v w i j = absurd i
  one_value (e ∷ es) r k v w (inl i) (inl j) = ap (λ d. d.1) (sym i ∙ j)
  one_value (e ∷ es) r k v w (inl i) (inr j) =
      let over = all_in (λ d. e.0 < d.0) es r.0 (k, w) j in
      let at = ap (λ d. d.0) i in
      absurd (omega arith)
  one_value (e ∷ es) r k v w (inr i) (inl j) =
      let over = all_in (λ d. e.0 < d.0) es r.0 (k, v) i in
      let at = ap (λ d. d.0) j in
      absurd (omega arith)
  one_value (e ∷ es) r k v w (inr i) (inr j) = one_value es r.1 k v w i j

  pub rises_filter : (p : ℕ × X → Bool) (es : List (ℕ × X)) → Rises es → Rises (filter p es)
  rises_filter p [] r = tt
  rises_filter p (e ∷ es) r =
      let rest = rises_filter p es r.1 in
      elim (p e) as (λ b. Rises (cond b (e ∷ filter p es) (filter p es))) [
        | true ↦ (
          in_all (λ d. e.0 < d.0) (filter p es)
              (λ d i. all_in (λ c. e.0 < c.0) es r.0 d (in_filter p d es i).0),
          rest,
        )
        | false ↦ rest
      ]

  -- an entry is taken out,
  pub rises_without : (xs : List (ℕ × X)) (e : ℕ × X) (ys : List (ℕ × X)) → Rises (xs ++ e ∷ ys) →
      Rises (xs ++ ys)
  rises_without [] e ys r = r.1
  rises_without (x ∷ xs) e ys r = (
    in_all (λ d. x.0 < d.0) (xs ++ ys)
        (λ d i. all_in (λ c. x.0 < c.0) (xs ++ e ∷ ys) r.0 d
        (⊎_elim (λ (left : In d xs). in_left d xs (e ∷ ys) left)
        (λ (right : In d ys). in_right d xs (e ∷ ys) (inr right)) (in_either d xs ys i))),
    rises_without xs e ys r.1,
  )

  -- or one with a greater key comes to the end
  pub rises_push : (es : List (ℕ × X)) (k : ℕ) (v : X) → Rises es →
      AllByRecursion (λ d. d.0 < k) es → Rises (es ++ (k, v) ∷ [])
  rises_push [] k v r below = (tt, tt)
  rises_push (e ∷ es) k v r below = (
    in_all (λ d. e.0 < d.0) (es ++ (k, v) ∷ [])
        (λ d i. ⊎_elim (λ (left : In d es). all_in (λ c. e.0 < c.0) es r.0 d left)
        (λ (right : In d ((k, v) ∷ [])). ⊎_elim
        (λ (here : (k, v) ≡ d).
        let at = ap (λ c. c.0) here in
        let under = below.0 in
        omega arith) (λ (none : ⊥). absurd none) right) (in_either d es ((k, v) ∷ []) i)),
    rises_push es k v r.1 below.1,
  )

  -- ---- the map of a list

  rising_by : (k : ℕ) (e : ℕ × X) → T (is_lt (nat_cmp k e.0)) → k < e.0
  rising_by k e h = grind arith

  below_sorted : (k : ℕ) (es : List (ℕ × X)) → T (below_all nat_cmp k es) →
      AllByRecursion (λ d. k < d.0) es
  below_sorted k [] h = tt
  below_sorted k (e ∷ es) h =
      let r = both (is_lt (nat_cmp k e.0)) (below_all nat_cmp k es) h in
      (rising_by k e r.0, below_sorted k es r.1)

  sorted_rises : (es : List (ℕ × X)) → T (maps.is_sorted nat_cmp es) → Rises es
  sorted_rises [] h = tt
  sorted_rises (e ∷ es) h =
      let r = both (below_all nat_cmp e.0 es) (maps.is_sorted nat_cmp es) h in
      (below_sorted e.0 es r.0, sorted_rises es r.1)

  pub map_rises : (m : maps.FinMap nat_cmp X) → Rises (maps.entries m)
  map_rises m = sorted_rises (maps.entries m) (maps.entries_sorted m)

  in_put_by : (k : ℕ) (v : X) (e : ℕ × X) (es put : List (ℕ × X)) (o : Ordering) →
      nat_cmp k e.0 ≡ o → (d : ℕ × X) → (In d put → (d ≡ (k, v)) ⊎ In d es) →
      In d (by_order o ((k, v) ∷ e ∷ es) ((e.0, v) ∷ es) (e ∷ put)) →
      (d ≡ (k, v)) ⊎ In d (e ∷ es)
  in_put_by k v e es put Less is d later (inl here) = inl (sym here)
  in_put_by k v e es put Less is d later (inr i) = inr i
  in_put_by k v e es put Equal is d later (inl here) =
      let same : k ≡ e.0 = maps.nat_cmp-IsAntisymmetric k e.0 is in
      inl (sym here ∙ ap (λ j. (j, v)) (sym same))
  in_put_by k v e es put Equal is d later (inr i) = inr (inr i)
  in_put_by k v e es put Greater is d later (inl here) = inr (inl here)
  in_put_by k v e es put Greater is d later (inr i) =
      ⊎_elim (λ (new : d ≡ (k, v)). inl new) (λ (old : In d es). inr (inr old)) (later i)

  in_put : (k : ℕ) (v : X) (es : List (ℕ × X)) (d : ℕ × X) → In d (maps.put nat_cmp k v es) →
      (d ≡ (k, v)) ⊎ In d es
  in_put k v [] d (inl here) = inl (sym here)
  in_put k v [] d (inr i) = absurd i
  in_put k v (e ∷ es) d i =
      in_put_by k v e es (maps.put nat_cmp k v es) (nat_cmp k e.0) refl d (in_put k v es d) i

  none_in : (es : List (ℕ × X)) → length es ≡ 0 → (d : ℕ × X) → In d es → ⊥
  none_in [] is d i = i
  none_in (e ∷ es) is d i = absurd (omega arith)

  -- what the map has was in the list
  pub in_map_of : (es : List (ℕ × X)) (d : ℕ × X) →
      In d (maps.entries (maps.from_entries {R = nat_cmp} es)) → In d es
  in_map_of [] d i =
      let size = sym (maps.len-entries (maps.empty {X = X} {R = nat_cmp})) ∙
      maps.len-empty nat_cmp X in
      none_in _ size d i
  in_map_of (e ∷ es) d i =
      let m = maps.from_entries {R = nat_cmp} es in
      ⊎_elim (λ (new : d ≡ (e.0, e.1)). inl (sym new))
      (λ (old : In d (maps.entries m)). inr (in_map_of es d old))
      (in_put e.0 e.1 (maps.entries m) d
      (subst (In d) (maps.entries-insert nat_cmp_total m e.0 e.1) i))

  found_by : (q : ℕ) (e : ℕ × X) (b : Bool) → (q == e.0) ≡ b → (o : Option X) (w : X)
      (es : List (ℕ × X)) → (o ≡ Some w → In (q, w) es) → cond b (Some e.1) o ≡ Some w →
      In (q, w) (e ∷ es)
  found_by q e true is o w es later h =
      let same : q ≡ e.0 = grind arith in
      let value : e.1 ≡ w = cc in
      inl (λ i. (sym same i, value i))
  found_by q e false is o w es later h = inr (later h)

  -- what is found under a key is in the list
  in_found : (q : ℕ) (es : List (ℕ × X)) (w : X) → maps.find nat_cmp q es ≡ Some w → In (q, w) es
  in_found q [] w h = cc
  in_found q (e ∷ es) w h =
      found_by q e (q == e.0) refl (maps.find nat_cmp q es) w es (in_found q es w)
      (ap (λ b. cond b (Some e.1) (maps.find nat_cmp q es)) (sym (unsigned_tied q e.0)) ∙ h)

  some_by : (b : Bool) (v : X) (o : Option X) → (w : X) × (o ≡ Some w) →
      (w : X) × (cond b (Some v) o ≡ Some w)
  some_by true v o r = (v, refl)
  some_by false v o r = r

  -- and something is found under a key that is in the list
  found_some : (q : ℕ) (v : X) (es : List (ℕ × X)) → In (q, v) es →
      (w : X) × (maps.find nat_cmp q es ≡ Some w)
  found_some q v [] i = absurd i
  found_some q v (e ∷ es) (inl here) =
      let tied = unsigned_tied q e.0 ∙ eq-eqb q e.0 (sym (ap (λ d. d.0) here)) in
      (e.1, ap (λ b. cond b (Some e.1) (maps.find nat_cmp q es)) tied)
  found_some q v (e ∷ es) (inr i) =
      some_by (eq_by_cmp nat_cmp q e.0) e.1 (maps.find nat_cmp q es) (found_some q v es i)

  -- The map of a list with the elements of one that rises has these entries.
  pub map_is : (es rising : List (ℕ × X)) → Rises rising → ((d : ℕ × X) → In d es → In d rising) →
      ((d : ℕ × X) → In d rising → In d es) →
      maps.entries (maps.from_entries {R = nat_cmp} es) ≡ rising
  map_is es rising rises into from =
      let m = maps.from_entries {R = nat_cmp} es in
      same_rising (maps.entries m) rising (map_rises m) rises (λ d i. into d (in_map_of es d i))
      (λ d i.
      let some = found_some d.0 d.1 es (from d i) in
      let value = one_value rising rises d.0 some.0 d.1
      (into (d.0, some.0) (in_found d.0 es some.0 some.1)) i in
      let found : maps.find nat_cmp d.0 (maps.entries m) ≡ Some some.0 =
      sym (maps.get-entries m d.0) ∙ maps.get-from_entries nat_cmp_total es d.0 ∙ some.1 in
      subst (λ w. In (d.0, w) (maps.entries m)) value
      (in_found d.0 (maps.entries m) some.0 found))
