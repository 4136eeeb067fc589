-- Lists of entries: whose they are, their calls, and what is in them.
use Rattle.std.proofs.Common.{◌≡◌, ℕ, ◌==◌, Bool, true, false, not, cond, ◌⊎◌, inl, inr, ⊎_elim}
use Rattle.std.proofs.Common.{List, [], ◌∷◌, ◌++◌, map, refl, sym, ◌∙◌, ap, subst, eqb-true}
use Rattle.std.proofs.Common.{true≢false, append_assoc}
use Rattle.std.specs.List.{filter, AllByRecursion}
use Rattle.boosted.specs.Runs.{own, others}
use Rattle.boosted.proofs.Each.{each_passing, each_append, differ, not_true}
use Rattle.steps.specs.Theory.Journal.{Entry, Asked, Deferred, event, calls, laters}
use Rattle.steps.specs.Theory.Rules.{Has, Lacks, AllDiffer}
use Rattle.steps.specs.Theory.Machine.{puts, without, lefts}

pub either : (b : Bool) → (b ≡ true) ⊎ (b ≡ false)
either true = inl refl
either false = inr refl

pub not_same : (m n : ℕ) → (m ≡ n → ⊥) → (m == n) ≡ false
not_same m n h = ⊎_elim (λ t. absurd (h (eqb-true m n t))) (λ f. f) (either (m == n))

pub kept_true : (m n : ℕ) → (m ≡ n → ⊥) → not (m == n) ≡ true
kept_true m n h = rw (not_same m n h) refl

module _ {X : Type 0} where
  everywhere : (P : X → Type 0) → ((x : X) → P x) → (xs : List X) → AllByRecursion P xs
  everywhere P h [] = tt
  everywhere P h (x ∷ xs) = (h x, everywhere P h xs)

  pub at : (P : X → Type 0) (xs : List X) (x : X) → AllByRecursion P xs → Has xs x → P x
  at P [] x a h = absurd h
  at P (y ∷ ys) x a h = ⊎_elim (λ e. subst P e a.0) (λ k. at P ys x a.1 k) h

  pub every : (P : X → Type 0) (xs : List X) → ((x : X) → Has xs x → P x) → AllByRecursion P xs
  every P [] h = tt
  every P (x ∷ xs) h = (h x (inl refl), every P xs (λ y k. h y (inr k)))

  has_cond : (b : Bool) (y : X) (ys : List X) (x : X) → (b ≡ true) × (y ≡ x) ⊎ Has ys x →
      Has (cond b (y ∷ ys) ys) x
  has_cond true y ys x h = ⊎_elim (λ (k : (true ≡ true) × (y ≡ x)). inl k.1) inr h
  has_cond false y ys x h = ⊎_elim (λ (k : (false ≡ true) × (y ≡ x)). absurd (true≢false (sym k.0)))
      (λ k. k) h

  pub has_filter : (test : X → Bool) (xs : List X) (x : X) → Has xs x → test x ≡ true →
      Has (filter test xs) x
  has_filter test [] x h t = h
  has_filter test (y ∷ ys) x h t =
      has_cond (test y) y (filter test ys) x
      (⊎_elim (λ e. inl (ap test e ∙ t, e)) (λ k. inr (has_filter test ys x k t)) h)

  cond_has : (b : Bool) (y : X) (ys : List X) (x : X) → Has (cond b (y ∷ ys) ys) x →
      ((b ≡ true) × (y ≡ x)) ⊎ Has ys x
  cond_has true y ys x h = ⊎_elim (λ e. inl (refl, e)) inr h
  cond_has false y ys x h = inr h

  pub filter_has : (test : X → Bool) (xs : List X) (x : X) → Has (filter test xs) x →
      Has xs x × (test x ≡ true)
  filter_has test [] x h = absurd h
  filter_has test (y ∷ ys) x h =
      ⊎_elim
      (λ (k : (test y ≡ true) × (y ≡ x)). let r : Has (y ∷ ys) x × (test x ≡ true) =
      (inl k.1, sym (ap test k.1) ∙ k.0) in r)
      (λ k. let q = filter_has test ys x k in
      let r : Has (y ∷ ys) x × (test x ≡ true) = (inr q.0, q.1) in r)
      (cond_has (test y) y (filter test ys) x h)

  pub has_left : (xs ys : List X) (x : X) → Has xs x → Has (xs ++ ys) x
  has_left [] ys x h = absurd h
  has_left (y ∷ xs) ys x h = ⊎_elim inl (λ k. inr (has_left xs ys x k)) h

  pub has_right : (xs ys : List X) (x : X) → Has ys x → Has (xs ++ ys) x
  has_right [] ys x h = h
  has_right (y ∷ xs) ys x h = inr (has_right xs ys x h)

  pub append_has : (xs ys : List X) (x : X) → Has (xs ++ ys) x → Has xs x ⊎ Has ys x
  append_has [] ys x h = inr h
  append_has (y ∷ xs) ys x h = ⊎_elim (λ e. inl (inl e))
      (λ k. ⊎_elim (λ l. inl (inr l)) inr (append_has xs ys x k)) h

  pub differ_append : (xs ys : List X) → AllDiffer xs → AllDiffer ys →
      AllByRecursion (Lacks ys) xs → AllDiffer (xs ++ ys)
  differ_append [] ys a b c = b
  differ_append (x ∷ xs) ys a b c =
      (λ h. ⊎_elim a.0 c.0 (append_has xs ys x h), differ_append xs ys a.1 b c.1)

  pub differ_front : (xs ys : List X) → AllDiffer (xs ++ ys) → AllDiffer xs
  differ_front [] ys a = tt
  differ_front (x ∷ xs) ys a = (λ h. a.0 (has_left xs ys x h), differ_front xs ys a.1)

  pub differ_back : (xs ys : List X) → AllDiffer (xs ++ ys) → AllDiffer ys
  differ_back [] ys a = a
  differ_back (x ∷ xs) ys a = differ_back xs ys a.1

  pub differ_across : (xs ys : List X) → AllDiffer (xs ++ ys) → AllByRecursion (Lacks ys) xs
  differ_across [] ys a = tt
  differ_across (x ∷ xs) ys a = (λ h. a.0 (has_right xs ys x h), differ_across xs ys a.1)

  pub differ_without : (xs ys zs : List X) → AllDiffer (xs ++ (ys ++ zs)) → AllDiffer (xs ++ zs)
  differ_without [] ys zs a = differ_back ys zs a
  differ_without (x ∷ xs) ys zs a = (
    λ h. a.0 (⊎_elim (has_left xs (ys ++ zs) x)
        (λ k. has_right xs (ys ++ zs) x (has_right ys zs x k)) (append_has xs zs x h)),
    differ_without xs ys zs a.1,
  )

pub each_map : {X Y : Type 0} (f : X → Y) (P : Y → Type 0) (xs : List X) →
    AllByRecursion (λ x. P (f x)) xs → AllByRecursion P (map f xs)
each_map f P [] a = tt
each_map f P (x ∷ xs) a = (a.0, each_map f P xs a.1)

pub without_has : (n : ℕ) (ms : List ℕ) (m : ℕ) → Has (without n ms) m → Has ms m × (m ≡ n → ⊥)
without_has n ms m h = let r = filter_has (λ m. not (m == n)) ms m h in
    (r.0, differ m n (not_true (m == n) r.1))

pub has_without : (n : ℕ) (ms : List ℕ) (m : ℕ) → Has ms m → (m ≡ n → ⊥) → Has (without n ms) m
has_without n ms m h d = has_filter (λ m. not (m == n)) ms m h (kept_true m n d)

module _ {X : Type 0} (f : X → ℕ) where
  pub own_mine : (n : ℕ) (es : List X) → AllByRecursion (λ e. f e ≡ n) (own f n es)
  own_mine n es = each_passing (λ e. f e ≡ n) (λ e. f e == n) es
      (everywhere _ (λ e. eqb-true (f e) n) es)

  same_step : (n : ℕ) (b : Bool) (x : X) (r : List X) → (f x == n) ≡ b → own f n r ≡ [] →
      own f n (cond (not b) (x ∷ r) r) ≡ []
  same_step n true x r h ih = ih
  same_step n false x r h ih = rw h ih

  pub own_others_same : (n : ℕ) (es : List X) → own f n (others f n es) ≡ []
  own_others_same n [] = refl
  own_others_same n (x ∷ es) = same_step n (f x == n) x (others f n es) refl (own_others_same n es)

  other_step : (n k : ℕ) (b : Bool) (x : X) (r es : List X) → (k ≡ n → ⊥) → (f x == n) ≡ b →
      own f k r ≡ own f k es → own f k (cond (not b) (x ∷ r) r) ≡ own f k (x ∷ es)
  other_step n k true x r es d h ih = rw (not_same (f x) k (λ e. d (sym e ∙ eqb-true (f x) n h))) ih
  other_step n k false x r es d h ih = ap (λ q. cond (f x == k) (x ∷ q) q) ih

  pub own_others_other : (n k : ℕ) (es : List X) → (k ≡ n → ⊥) →
      own f k (others f n es) ≡ own f k es
  own_others_other n k [] d = refl
  own_others_other n k (x ∷ es) d =
      other_step n k (f x == n) x (others f n es) es d refl (own_others_other n k es d)

  pub none_own : (n : ℕ) (es : List X) → AllByRecursion (λ e. f e ≡ n → ⊥) es → own f n es ≡ []
  none_own n [] a = refl
  none_own n (x ∷ es) a = rw (not_same (f x) n a.0) (none_own n es a.1)

  pub none_others : (n : ℕ) (es : List X) → AllByRecursion (λ e. f e ≡ n → ⊥) es →
      others f n es ≡ es
  none_others n [] a = refl
  none_others n (x ∷ es) a = rw (not_same (f x) n a.0) (ap (λ q. x ∷ q) (none_others n es a.1))

  -- a later entry of another number is not seen
  pub own_without : (k : ℕ) (xs : List X) (x : X) (ys : List X) → (f x ≡ k → ⊥) →
      own f k (xs ++ x ∷ ys) ≡ own f k (xs ++ ys)
  own_without k [] x ys d = rw (not_same (f x) k d) refl
  own_without k (z ∷ xs) x ys d = ap (λ q. cond (f z == k) (z ∷ q) q) (own_without k xs x ys d)

module _ {E : Type 0} where
  pub calls_append : (xs ys : List (Entry E)) → calls (xs ++ ys) ≡ calls xs ++ calls ys
  calls_append [] ys = refl
  calls_append (Asked a ∷ xs) ys = ap (λ q. a ∷ q) (calls_append xs ys)
  calls_append (Deferred d ∷ xs) ys = calls_append xs ys

  pub puts_append : (xs ys : List (Entry E)) → puts (xs ++ ys) ≡ puts xs ++ puts ys
  puts_append [] ys = refl
  puts_append (Asked a ∷ xs) ys = puts_append xs ys
  puts_append (Deferred d ∷ xs) ys = ap (λ q. d ∷ q) (puts_append xs ys)

  asked_cond : (b : Bool) (a : E) (r : List (Entry E)) (q : List E) → calls r ≡ q →
      calls (cond b (Asked a ∷ r) r) ≡ cond b (a ∷ q) q
  asked_cond true a r q h = ap (λ v. a ∷ v) h
  asked_cond false a r q h = h

  put_cond : (b : Bool) (d : E) (r : List (Entry E)) (q : List E) → calls r ≡ q →
      calls (cond b (Deferred d ∷ r) r) ≡ q
  put_cond true d r q h = h
  put_cond false d r q h = h

  pub calls_filter : (test : E → Bool) (es : List (Entry E)) →
      calls (filter (λ e. test (event e)) es) ≡ filter test (calls es)
  calls_filter test [] = refl
  calls_filter test (Asked a ∷ es) = asked_cond (test a) a _ _ (calls_filter test es)
  calls_filter test (Deferred d ∷ es) = put_cond (test d) d _ _ (calls_filter test es)

  asked_puts : (b : Bool) (a : E) (r : List (Entry E)) (q : List E) → puts r ≡ q →
      puts (cond b (Asked a ∷ r) r) ≡ q
  asked_puts true a r q h = h
  asked_puts false a r q h = h

  put_puts : (b : Bool) (d : E) (r : List (Entry E)) (q : List E) → puts r ≡ q →
      puts (cond b (Deferred d ∷ r) r) ≡ cond b (d ∷ q) q
  put_puts true d r q h = ap (λ v. d ∷ v) h
  put_puts false d r q h = h

  pub puts_filter : (test : E → Bool) (es : List (Entry E)) →
      puts (filter (λ e. test (event e)) es) ≡ filter test (puts es)
  puts_filter test [] = refl
  puts_filter test (Asked a ∷ es) = asked_puts (test a) a _ _ (puts_filter test es)
  puts_filter test (Deferred d ∷ es) = put_puts (test d) d _ _ (puts_filter test es)

  pub each_call : (P : E → Type 0) (es : List (Entry E)) → AllByRecursion (λ e. P (event e)) es →
      AllByRecursion P (calls es)
  each_call P [] a = tt
  each_call P (Asked x ∷ es) a = (a.0, each_call P es a.1)
  each_call P (Deferred d ∷ es) a = each_call P es a.1

  -- what holds of each entry's laters holds of each later
  pub each_later : (leaves : E → List E) (P : E → Type 0) (Q : E → Type 0) →
      ((a : E) → P a → AllByRecursion Q (leaves a)) → ((d : E) → P d → Q d) →
      (es : List (Entry E)) → AllByRecursion (λ e. P (event e)) es →
      AllByRecursion Q (laters leaves es)
  each_later leaves P Q left put [] a = tt
  each_later leaves P Q left put (Asked x ∷ es) a =
      each_append Q (leaves x) _ (left x a.0) (each_later leaves P Q left put es a.1)
  each_later leaves P Q left put (Deferred d ∷ es) a =
      (put d a.0, each_later leaves P Q left put es a.1)

  -- the same, from what holds of the calls and of what was deferred
  pub both_laters : (leaves : E → List E) (P R Q : E → Type 0) →
      ((a : E) → P a → AllByRecursion Q (leaves a)) → ((d : E) → R d → Q d) →
      (es : List (Entry E)) → AllByRecursion P (calls es) → AllByRecursion R (puts es) →
      AllByRecursion Q (laters leaves es)
  both_laters leaves P R Q left put [] a b = tt
  both_laters leaves P R Q left put (Asked x ∷ es) a b =
      each_append Q (leaves x) _ (left x a.0) (both_laters leaves P R Q left put es a.1 b)
  both_laters leaves P R Q left put (Deferred d ∷ es) a b =
      (put d b.0, both_laters leaves P R Q left put es a b.1)

  pub lefts_append : (leaves : E → List E) (xs ys : List E) →
      lefts leaves (xs ++ ys) ≡ lefts leaves xs ++ lefts leaves ys
  lefts_append leaves [] ys = refl
  lefts_append leaves (a ∷ xs) ys =
      ap (λ q. leaves a ++ q) (lefts_append leaves xs ys) ∙
      sym (append_assoc (leaves a) (lefts leaves xs) (lefts leaves ys))

  pub lacks_lefts : (leaves : E → List E) (d : E) (xs : List E) → Lacks (lefts leaves xs) d →
      AllByRecursion (λ a. Lacks (leaves a) d) xs
  lacks_lefts leaves d [] h = tt
  lacks_lefts leaves d (a ∷ xs) h = (
    λ k. h (has_left (leaves a) (lefts leaves xs) d k),
    lacks_lefts leaves d xs (λ k. h (has_right (leaves a) (lefts leaves xs) d k)),
  )
