-- What the laws say of laters, and what a sound state says of its calls and laters.
use Rattle.std.proofs.Common.{inl, ◌≡◌, ℕ, ◌==◌, ⊎_elim, List, [], ◌∷◌, ◌++◌, refl, sym, ◌∙◌, ap}
use Rattle.std.proofs.Common.{subst}
use Rattle.std.specs.List.{AllByRecursion}
use Rattle.calls.specs.Transactions.{Leads}
use Rattle.boosted.specs.Runs.{own, AllApart, Ready, IsOther, AllOther}
use Rattle.boosted.proofs.Each.{weaker, each_both, each_append, each_filter}
use Rattle.steps.specs.Theory.Rules.{Rules, RuleLaws, Apart, Has, Lacks, AllDiffer}
use Rattle.steps.specs.Theory.Journal.{laters, Entry, Asked, Deferred, event, asker, calls}
use Rattle.steps.specs.Theory.Machine.{State, puts, laters_of, IsSound, IsSettled, lefts}
use Rattle.steps.proofs.Theory.Lists.{at, every, filter_has, own_mine, calls_filter, puts_filter}
use Rattle.steps.proofs.Theory.Lists.{each_call, each_later, both_laters, differ_front}
use Rattle.steps.proofs.Theory.Lists.{differ_back, differ_across, lacks_lefts}

module _ {E : Type 0} (apart : E → E → Type 0) where
  AllOther-append : (xs ys : List E) → AllOther apart xs → AllOther apart ys →
      AllByRecursion (λ x. AllByRecursion (IsOther apart x) ys) xs → AllOther apart (xs ++ ys)
  AllOther-append [] ys a b c = b
  AllOther-append (x ∷ xs) ys a b c =
      (each_append (IsOther apart x) xs ys a.0 c.0, AllOther-append xs ys a.1 b c.1)

  differ_other : (xs : List E) → AllDiffer xs → AllOther apart xs
  differ_other [] a = tt
  differ_other (x ∷ xs) a = (
    every _ xs
        (λ y h. inl (λ (same : x ≡ y). a.0 (subst (Has xs) (sym same) h))),
    differ_other xs a.1,
  )

module _ {S E M N : Type 0} {rules : Rules S E M N} (laws : RuleLaws rules) where
  same_owner : (a d : E) → rules.need d ≡ rules.need a → rules.owner d ≡ rules.owner a
  same_owner a d h = sym (laws.held d) ∙ ap rules.holder h ∙ laws.held a

  -- a later that is ready stays so past calls
  past_calls : (xs : List E) (d : E) (s t : S) → AllByRecursion rules.asked xs → rules.late d →
      Leads rules.does xs s t → Ready rules.does s d → Ready rules.does t d
  past_calls [] d s t ask l w r = subst (λ v. Ready rules.does v d) w r
  past_calls (a ∷ xs) d s t ask l w r =
      past_calls xs d w.0 t ask.1 l w.2 (laws.past_call a d s w.0 ask.0 l w.1 r)

  pub past_laters : (bs : List E) (d : E) (s t : S) → AllByRecursion rules.late bs →
      rules.deferred d → Leads rules.does bs s t → Ready rules.does s d → Ready rules.does t d
  past_laters [] d s t l p w r = subst (λ v. Ready rules.does v d) w r
  past_laters (b ∷ bs) d s t l p w r =
      past_laters bs d w.0 t l.1 p w.2 (laws.put_past_later b d s w.0 l.0 p w.1 r)

  -- what calls left is ready where they lead
  left_is_ready : (xs : List E) (s t : S) → AllByRecursion rules.asked xs →
      Leads rules.does xs s t → AllByRecursion
      (λ a. AllByRecursion (Ready rules.does t) (rules.leaves a)) xs
  left_is_ready [] s t ask w = tt
  left_is_ready (a ∷ xs) s t ask w = (
    each_both rules.late (Ready rules.does w.0) (Ready rules.does t) (rules.leaves a)
        (laws.left_late a ask.0) (laws.left_ready a s w.0 ask.0 w.1)
        (λ d l r. past_calls xs d w.0 t ask.1 l w.2 r),
    left_is_ready xs w.0 t ask.1 w.2,
  )

  past_one : (n : ℕ) (d : E) (ds : List E) (s t : S) → rules.owner d ≡ n →
      AllByRecursion (λ e. rules.owner e ≡ n) ds → rules.late d → AllByRecursion rules.late ds →
      AllByRecursion (IsOther (Apart rules) d) ds → rules.does s d t →
      AllByRecursion (Ready rules.does s) ds → AllByRecursion (Ready rules.does t) ds
  past_one n d [] s t m ms l ls o step r = tt
  past_one n d (e ∷ ds) s t m ms l ls o step r = (
    laws.past_later d e s t (m ∙ sym ms.0) l ls.0 o.0 step r.0,
    past_one n d ds s t m ms.1 l ls.1 o.1 step r.1,
  )

  -- laters of one owner that are ready run, one after another
  run_all : (n : ℕ) (ds : List E) (s : S) → AllByRecursion (λ e. rules.owner e ≡ n) ds →
      AllByRecursion rules.late ds → AllOther (Apart rules) ds →
      AllByRecursion (Ready rules.does s) ds → (t : S) × Leads rules.does ds s t
  run_all n [] s m l o r = (s, refl)
  run_all n (d ∷ ds) s m l o r =
      let t = r.0 in
      let q = run_all n ds t.0 m.1 l.1 o.1 (past_one n d ds s t.0 m.0 m.1 l.0 l.1 o.0 t.1 r.1) in
      (q.0, (t.0, t.1, q.1))

  -- what one number deferred is its own
  laters_mine : (n : ℕ) (es : List (Entry E)) →
      AllByRecursion (λ d. rules.owner d ≡ n) (laters_of rules n es)
  laters_mine n es =
      each_later rules.leaves (λ a. rules.owner a ≡ n) (λ a. rules.owner a ≡ n)
      (λ a mine. weaker (λ d. rules.need d ≡ rules.need a) _ (λ d same. same_owner a d same ∙ mine)
      (rules.leaves a) (laws.left_need a))
      (λ d mine. mine)
      (own (asker rules.owner) n es) (own_mine (asker rules.owner) n es)

  -- what is deferred differs, or does not conflict
  laters_other : (es : List (Entry E)) → AllByRecursion rules.asked (calls es) →
      AllByRecursion rules.deferred (puts es) → AllDiffer (lefts rules.leaves (calls es)) →
      AllOther (Apart rules) (laters rules.leaves es)
  laters_other [] ask put once = tt
  laters_other (Asked a ∷ es) ask put once =
      AllOther-append (Apart rules) (rules.leaves a) (laters rules.leaves es)
      (differ_other (Apart rules) (rules.leaves a)
      (differ_front (rules.leaves a) (lefts rules.leaves (calls es)) once))
      (laters_other es ask.1 put (differ_back (rules.leaves a) (lefts rules.leaves (calls es))
      once))
      (each_both rules.late (Lacks (lefts rules.leaves (calls es))) _ (rules.leaves a)
      (laws.left_late a ask.0) (differ_across (rules.leaves a) (lefts rules.leaves (calls es))
      once)
      (λ d late lacks. both_laters rules.leaves (λ b. Lacks (rules.leaves b) d) rules.deferred
      (IsOther (Apart rules) d)
      (λ b h. every _ (rules.leaves b)
      (λ k hk. inl (λ (same : d ≡ k). h (subst (Has (rules.leaves b)) (sym same) hk))))
      (λ k p. (laws.put_other d k late p).0)
      es (lacks_lefts rules.leaves d (calls es) lacks) put))
  laters_other (Deferred d ∷ es) ask put once = (
    weaker rules.late _ (λ k late. (laws.put_other k d late put.0).1) (laters rules.leaves es)
        (both_laters rules.leaves rules.asked rules.deferred rules.late laws.left_late laws.put_late
        es ask put.1),
    laters_other es ask put.1 once,
  )

  -- entries of two owners are apart, whichever came first
  pairs : (es : List (Entry E)) (e f : Entry E) →
      AllApart (λ e f. Apart rules (event e) (event f)) (asker rules.owner) es → Has es e →
      Has es f → (asker rules.owner e ≡ asker rules.owner f → ⊥) → Apart rules (event e) (event f)
  pairs [] e f a he hf d = absurd he
  pairs (x ∷ es) e f a he hf d =
      ⊎_elim
      (λ (i : x ≡ e). ⊎_elim
      (λ (j : x ≡ f). absurd (d (ap (asker rules.owner) (sym i ∙ j))))
      (λ (k : Has es f). subst (λ y. Apart rules (event y) (event f)) i
      (at (λ f. (asker rules.owner x ≡ asker rules.owner f → ⊥) →
      Apart rules (event x) (event f)) es f a.0 k
      (λ same. d (ap (asker rules.owner) (sym i) ∙ same))))
      hf)
      (λ (h : Has es e). ⊎_elim
      (λ (j : x ≡ f). subst (λ y. Apart rules (event e) (event y)) j
      (laws.turn _ _ (at (λ f. (asker rules.owner x ≡ asker rules.owner f → ⊥) →
      Apart rules (event x) (event f)) es e a.0 h
      (λ same. d (sym same ∙ ap (asker rules.owner) j)))))
      (λ (k : Has es f). pairs es e f a.1 h k d)
      hf)
      he

  pub calls_apart : (es : List (Entry E)) →
      AllApart (λ e f. Apart rules (event e) (event f)) (asker rules.owner) es →
      AllApart (Apart rules) rules.owner (calls es)
  calls_apart [] a = tt
  calls_apart (Asked x ∷ es) a = (
    each_call
        (λ f. (rules.owner x ≡ rules.owner f → ⊥) → Apart rules x f) es a.0,
    calls_apart es a.1,
  )
  calls_apart (Deferred d ∷ es) a = calls_apart es a.1

  -- what one transaction deferred is apart from the calls of the others
  pub laters_away : (n : ℕ) (es : List (Entry E)) →
      AllApart (λ e f. Apart rules (event e) (event f)) (asker rules.owner) es →
      AllByRecursion (λ d. AllByRecursion (λ a. (rules.owner a ≡ n → ⊥) → Apart rules a d)
      (calls es)) (laters_of rules n es)
  laters_away n es a =
      each_later rules.leaves
      (λ d. AllByRecursion (λ a. (rules.owner a ≡ n → ⊥) → Apart rules a d) (calls es))
      (λ d. AllByRecursion (λ a. (rules.owner a ≡ n → ⊥) → Apart rules a d) (calls es))
      (λ x p. weaker (λ d. rules.need d ≡ rules.need x) _
      (λ d same. weaker (λ a. (rules.owner a ≡ n → ⊥) → Apart rules a x) _
      (λ b q differ. subst (λ k. rules.clear (rules.need b) k) (sym same) (q differ)) (calls es)
      p) (rules.leaves x) (laws.left_need x))
      (λ d p. p)
      (own (asker rules.owner) n es)
      (every _ (own (asker rules.owner) n es) (λ e he.
      let mine = at (λ e. asker rules.owner e ≡ n) (own (asker rules.owner) n es) e
      (own_mine (asker rules.owner) n es) he in
      let there = filter_has (λ e. asker rules.owner e == n) es e he in
      each_call (λ b. (rules.owner b ≡ n → ⊥) → Apart rules b (event e)) es
      (every _ es (λ f hf differ. pairs es f e a hf there.0 (λ same. differ (same ∙ mine))))))

  module _ (s : State S E N) (sound : IsSound rules s) where
    pub laters_late : (n : ℕ) → AllByRecursion rules.late (laters_of rules n s.entries)
    laters_late n =
        both_laters rules.leaves rules.asked (λ d. rules.deferred d × Ready rules.does s.now d)
        rules.late laws.left_late (λ d p. laws.put_late d p.0)
        (own (asker rules.owner) n s.entries)
        (subst (AllByRecursion rules.asked) (sym (calls_filter (λ e. rules.owner e == n) s.entries))
        (each_filter rules.asked (λ e. rules.owner e == n) (calls s.entries) sound.asked))
        (subst (AllByRecursion _) (sym (puts_filter (λ e. rules.owner e == n) s.entries))
        (each_filter _ (λ e. rules.owner e == n) (puts s.entries) sound.put))

    laters_ready : (n : ℕ) (c : S) → IsSettled rules s c →
        AllByRecursion (Ready rules.does s.now) (laters_of rules n s.entries)
    laters_ready n c w =
        both_laters rules.leaves (λ a. AllByRecursion (Ready rules.does s.now) (rules.leaves a))
        (λ d. rules.deferred d × Ready rules.does s.now d) (Ready rules.does s.now) (λ a p. p)
        (λ d p. p.1) (own (asker rules.owner) n s.entries)
        (subst (AllByRecursion _) (sym (calls_filter (λ e. rules.owner e == n) s.entries))
        (each_filter _ (λ e. rules.owner e == n) (calls s.entries)
        (left_is_ready (calls s.entries) c s.now sound.asked w)))
        (subst (AllByRecursion _) (sym (puts_filter (λ e. rules.owner e == n) s.entries))
        (each_filter _ (λ e. rules.owner e == n) (puts s.entries) sound.put))

    number_other : (n : ℕ) → AllOther (Apart rules) (laters_of rules n s.entries)
    number_other n =
        laters_other (own (asker rules.owner) n s.entries)
        (subst (AllByRecursion rules.asked) (sym (calls_filter (λ e. rules.owner e == n) s.entries))
        (each_filter rules.asked (λ e. rules.owner e == n) (calls s.entries) sound.asked))
        (subst (AllByRecursion rules.deferred)
        (sym (puts_filter (λ e. rules.owner e == n) s.entries))
        (each_filter rules.deferred (λ e. rules.owner e == n) (puts s.entries)
        (weaker _ _ (λ d (p : rules.deferred d × Ready rules.does s.now d). p.0) (puts s.entries)
        sound.put)))
        (subst (λ l. AllDiffer (lefts rules.leaves l))
        (sym (calls_filter (λ e. rules.owner e == n) s.entries)) (sound.once n))

    -- A commit can always run what the transaction deferred.
    pub commit_runs : (n : ℕ) (c : S) → IsSettled rules s c →
        (t : S) × Leads rules.does (laters_of rules n s.entries) s.now t
    commit_runs n c w = run_all n (laters_of rules n s.entries) s.now (laters_mine n s.entries)
        (laters_late n) (number_other n) (laters_ready n c w)
