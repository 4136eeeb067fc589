-- Every step leaves a sound state.
use Rattle.std.proofs.Common.{◌≡◌, ℕ, ◌==◌, Bool, true, false, not, cond, ◌⊎◌, inl, inr, ⊎_elim}
use Rattle.std.proofs.Common.{List, [], ◌∷◌, ◌++◌, refl, sym, ◌∙◌, ap, subst, append-nil, eqb-true}
use Rattle.std.specs.List.{filter, AllByRecursion}
use Rattle.std.proofs.lemmas.Bool.{cases_eq}
use Rattle.std.proofs.lemmas.List.Elements.{filter-append}
use Rattle.boosted.specs.Runs.{own, others, AllApart, Ready}
use Rattle.boosted.proofs.Each.{weaker, each_append, each_back, each_rest, each_filter, differ}
use Rattle.boosted.proofs.Each.{not_true}
use Rattle.boosted.proofs.Owners.{AllApart-push, AllApart-filter, AllApart-without}
use Rattle.steps.specs.Theory.Rules.{Rules, RuleLaws, Apart, Has, Lacks, AllDiffer}
use Rattle.steps.specs.Theory.Journal.{Entry, Asked, Deferred, event, asker, calls, Record, Make}
use Rattle.steps.specs.Theory.Journal.{Begin, Call, Later, Commit, Back, Ended}
use Rattle.steps.specs.Theory.Machine.{State, puts, laters_of, IsClear, IsSound, ended_at}
use Rattle.steps.specs.Theory.Machine.{MakeRow, BeginRow, CallRow, LaterRow, CommitRow, BackRow}
use Rattle.steps.specs.Theory.Machine.{EndedRow, Steps, lefts, left_of, without}
use Rattle.steps.proofs.Theory.Lists.{at, every, has_filter, filter_has, has_without, kept_true}
use Rattle.steps.proofs.Theory.Lists.{own_others_same, own_others_other, calls_append}
use Rattle.steps.proofs.Theory.Lists.{puts_append, calls_filter, puts_filter, lefts_append}
use Rattle.steps.proofs.Theory.Lists.{differ_append, differ_without, has_left, has_right}
use Rattle.steps.proofs.Theory.Lists.{without_has}
use Rattle.steps.proofs.Theory.Derived.{past_laters, laters_late}

puts_rest : {E : Type 0} (xs : List (Entry E)) (x : E) (ys : List (Entry E)) →
    puts (xs ++ Asked x ∷ ys) ≡ puts (xs ++ ys)
puts_rest xs x ys = puts_append xs (Asked x ∷ ys) ∙ sym (puts_append xs ys)

calls_rest : {E : Type 0} (P : E → Type 0) (xs : List (Entry E)) (x : E) (ys : List (Entry E)) →
    AllByRecursion P (calls (xs ++ Asked x ∷ ys)) → AllByRecursion P (calls (xs ++ ys))
calls_rest P xs x ys a =
    subst (AllByRecursion P) (sym (calls_append xs ys))
    (each_rest P (calls xs) x (calls ys)
    (subst (AllByRecursion P) (calls_append xs (Asked x ∷ ys)) a))

module _ {S E M N : Type 0} {rules : Rules S E M N} (laws : RuleLaws rules) where
  pub left_push : (n : ℕ) (es : List (Entry E)) (x : E) →
      left_of rules n (es ++ Asked x ∷ []) ≡ left_of rules n es ++
      lefts rules.leaves (own rules.owner n (x ∷ []))
  left_push n es x =
      ap (λ l. lefts rules.leaves (own rules.owner n l)) (calls_append es (Asked x ∷ []))
      ∙ ap (lefts rules.leaves) (filter-append (λ a. rules.owner a == n) (calls es) (x ∷ []))
      ∙ lefts_append rules.leaves (own rules.owner n (calls es)) (own rules.owner n (x ∷ []))

  -- what a number's calls leave, with one call more
  pub once_push : (n : ℕ) (es : List (Entry E)) (x : E) (b : Bool) → (rules.owner x == n) ≡ b →
      AllDiffer (left_of rules n es) →
      AllByRecursion (λ d. Lacks (left_of rules (rules.owner x) es) d) (rules.leaves x) →
      AllDiffer (left_of rules n es ++ lefts rules.leaves (cond b (x ∷ []) []))
  once_push n es x true h a once =
      subst (λ l. AllDiffer (left_of rules n es ++ l)) (sym (append-nil (rules.leaves x)))
      (differ_append (left_of rules n es) (rules.leaves x) a (laws.left_differ x)
      (every _ (left_of rules n es) (λ k hk hd. at (λ d. Lacks (left_of rules (rules.owner x) es) d)
      (rules.leaves x) k once hd (subst (λ o. Has (left_of rules o es) k)
      (sym (eqb-true (rules.owner x) n h)) hk))))
  once_push n es x false h a once = subst AllDiffer (sym (append-nil (left_of rules n es))) a

  once_rest : (n : ℕ) (xs : List E) (x : E) (ys : List E) (b : Bool) →
      AllDiffer (lefts rules.leaves (own rules.owner n xs) ++
      lefts rules.leaves (cond b (x ∷ own rules.owner n ys) (own rules.owner n ys))) →
      AllDiffer (lefts rules.leaves (own rules.owner n xs) ++
      lefts rules.leaves (own rules.owner n ys))
  once_rest n xs x ys true a = differ_without (lefts rules.leaves (own rules.owner n xs))
      (rules.leaves x) (lefts rules.leaves (own rules.owner n ys)) a
  once_rest n xs x ys false a = a

  pub left_split : (n : ℕ) (xs ys : List (Entry E)) →
      left_of rules n (xs ++ ys) ≡ lefts rules.leaves (own rules.owner n (calls xs)) ++
      lefts rules.leaves (own rules.owner n (calls ys))
  left_split n xs ys =
      ap (λ l. lefts rules.leaves (own rules.owner n l)) (calls_append xs ys)
      ∙ ap (lefts rules.leaves) (filter-append (λ a. rules.owner a == n) (calls xs) (calls ys))
      ∙ lefts_append rules.leaves (own rules.owner n (calls xs)) (own rules.owner n (calls ys))

  once_without : (n k : ℕ) (es : List (Entry E)) → (k ≡ n) ⊎ (k ≡ n → ⊥) →
      AllDiffer (left_of rules k es) → AllDiffer (left_of rules k (others (asker rules.owner) n es))
  once_without n k es d a =
      subst (λ l. AllDiffer (lefts rules.leaves (own rules.owner k l)))
      (sym (calls_filter (λ a. not (rules.owner a == n)) es))
      (⊎_elim
      (λ (same : k ≡ n). subst (λ v. AllDiffer
      (lefts rules.leaves (own rules.owner v (others rules.owner n (calls es))))) (sym same)
      (subst (λ v. AllDiffer (lefts rules.leaves v))
      (sym (own_others_same rules.owner n (calls es))) tt))
      (λ (other : k ≡ n → ⊥). subst (λ v. AllDiffer (lefts rules.leaves v))
      (sym (own_others_other rules.owner n k (calls es) other)) a)
      d)

  module _ (s : State S E N) (sound : IsSound rules s) where
    ended_sound : (n : ℕ) (next : S) →
        AllByRecursion (λ d. rules.deferred d × Ready rules.does next d) (puts s.entries) →
        IsSound rules (ended_at rules next n s)
    ended_sound n next put = record {
      held = every _ (others (asker rules.owner) n s.entries) (λ e he.
          let there = filter_has (λ e. not (asker rules.owner e == n)) s.entries e he in
          has_filter (λ k. not (rules.holder k == n)) s.needs (rules.need (event e))
          (at _ s.entries e sound.held there.0)
          (kept_true (rules.holder (rules.need (event e))) n
          (λ same. differ (asker rules.owner e) n (not_true _ there.1)
          (sym (laws.held (event e)) ∙ same))));
      alive = every _ (others (asker rules.owner) n s.entries) (λ e he.
          let there = filter_has (λ e. not (asker rules.owner e == n)) s.entries e he in
          has_without n s.live (rules.owner (event e)) (at _ s.entries e sound.alive there.0)
          (differ (asker rules.owner e) n (not_true _ there.1)));
      apart = AllApart-filter _ (asker rules.owner) (λ e. not (asker rules.owner e == n)) s.entries
          sound.apart;
      asked = subst (AllByRecursion rules.asked)
          (sym (calls_filter (λ a. not (rules.owner a == n)) s.entries))
          (each_filter rules.asked (λ a. not (rules.owner a == n)) (calls s.entries) sound.asked);
      put = subst (AllByRecursion (λ d. rules.deferred d × Ready rules.does next d))
          (sym (puts_filter (λ a. not (rules.owner a == n)) s.entries))
          (each_filter _ (λ a. not (rules.owner a == n)) (puts s.entries) put);
      once = λ k. once_without n k s.entries (cases_eq k n) (sound.once k);
      holders = every _ (filter (λ k. not (rules.holder k == n)) s.needs) (λ k h.
          let there = filter_has (λ k. not (rules.holder k == n)) s.needs k h in
          has_without n s.live (rules.holder k) (at _ s.needs k sound.holders there.0)
          (differ (rules.holder k) n (not_true _ there.1)));
      fallers = every _ (without n s.falling)
          (λ m h. let there = without_has n s.falling m h in
          has_without n s.live m (at _ s.falling m sound.fallers there.0) there.1);
    }

    make_sound : (k : M) (t : State S E N) → MakeRow rules s k t → IsSound rules t
    make_sound k t row = subst (IsSound rules) (sym row.is) (record {
      held = sound.held;
      alive = sound.alive;
      apart = sound.apart;
      asked = sound.asked;
      put = weaker _ _ (λ d (p : (rules.deferred d) × (Ready rules.does s.now d)).
          let q : rules.deferred d × Ready rules.does row.next d =
          (p.0, laws.put_past_made k d s.now row.next p.0 row.makes p.1) in q) (puts s.entries)
          sound.put;
      once = sound.once;
      holders = sound.holders;
      fallers = sound.fallers;
    })

    begin_sound : (n : ℕ) (t : State S E N) → BeginRow rules s n t → IsSound rules t
    begin_sound n t row = subst (IsSound rules) (sym row.is) (record {
      held = sound.held;
      alive = weaker _ _ (λ e h. inr h) s.entries sound.alive;
      apart = sound.apart;
      asked = sound.asked;
      put = sound.put;
      once = sound.once;
      holders = weaker _ _ (λ k h. inr h) s.needs sound.holders;
      fallers = weaker _ _ (λ m h. inr h) s.falling sound.fallers;
    })

    -- a need that is clear of those of the others is apart from their entries
    pub clear_apart : (x : E) → IsClear rules s.needs x →
        AllByRecursion (λ e. (asker rules.owner e ≡ rules.owner x → ⊥) → Apart rules (event e) x)
        s.entries
    clear_apart x clear = weaker _ _
        (λ e h differ. at (λ k. (rules.holder k ≡ rules.owner x → ⊥) → rules.clear k (rules.need x))
        s.needs (rules.need (event e)) clear h (λ same. differ (sym (laws.held (event e)) ∙ same)))
        s.entries sound.held

    call_sound : (x : E) (t : State S E N) → CallRow rules s x t → IsSound rules t
    call_sound x t row = subst (IsSound rules) (sym row.is) (record {
      held = each_append (λ e. Has (s.needs ++ rules.need x ∷ []) (rules.need (event e))) s.entries
          (Asked x ∷ []) (weaker _ _ (λ e h. has_left s.needs _ _ h) s.entries sound.held)
          (has_right s.needs _ _ (inl refl), tt);
      alive = each_append (λ e. Has s.live (rules.owner (event e))) s.entries (Asked x ∷ [])
          sound.alive (row.live, tt);
      apart = AllApart-push _ (asker rules.owner) s.entries (Asked x) sound.apart
          (clear_apart x row.clear);
      asked = subst (AllByRecursion rules.asked) (sym (calls_append s.entries (Asked x ∷ [])))
          (each_append rules.asked (calls s.entries) (x ∷ []) sound.asked (row.asked, tt));
      put = subst (AllByRecursion (λ d. rules.deferred d × Ready rules.does row.next d))
          (sym (puts_append s.entries (Asked x ∷ []) ∙ append-nil (puts s.entries)))
          (weaker _ _ (λ d (p : (rules.deferred d) × (Ready rules.does s.now d)).
          let q : rules.deferred d × Ready rules.does row.next d =
          (p.0, laws.past_call x d s.now row.next row.asked (laws.put_late d p.0) row.does p.1) in
          q) (puts s.entries) sound.put);
      once = λ n. subst AllDiffer (sym (left_push n s.entries x))
          (once_push n s.entries x (rules.owner x == n) refl (sound.once n) row.once);
      holders = each_append (λ k. Has s.live (rules.holder k)) s.needs (rules.need x ∷ [])
          sound.holders (subst (Has s.live) (sym (laws.held x)) row.live, tt);
      fallers = sound.fallers;
    })

    later_sound : (d : E) (t : State S E N) → LaterRow rules s d t → IsSound rules t
    later_sound d t row = subst (IsSound rules) (sym row.is) (record {
      held = each_append (λ e. Has (s.needs ++ rules.need d ∷ []) (rules.need (event e))) s.entries
          (Deferred d ∷ []) (weaker _ _ (λ e h. has_left s.needs _ _ h) s.entries sound.held)
          (has_right s.needs _ _ (inl refl), tt);
      alive = each_append (λ e. Has s.live (rules.owner (event e))) s.entries (Deferred d ∷ [])
          sound.alive (row.live, tt);
      apart = AllApart-push _ (asker rules.owner) s.entries (Deferred d) sound.apart
          (clear_apart d row.clear);
      asked = subst (AllByRecursion rules.asked)
          (sym (calls_append s.entries (Deferred d ∷ []) ∙ append-nil (calls s.entries)))
          sound.asked;
      put = subst (AllByRecursion (λ d. rules.deferred d × Ready rules.does s.now d))
          (sym (puts_append s.entries (Deferred d ∷ [])))
          (each_append (λ d. rules.deferred d × Ready rules.does s.now d) (puts s.entries) (d ∷ [])
          sound.put ((row.deferred, row.ready), tt));
      once = λ n. subst (λ l. AllDiffer (lefts rules.leaves (own rules.owner n l)))
          (sym (calls_append s.entries (Deferred d ∷ []) ∙ append-nil (calls s.entries)))
          (sound.once n);
      holders = each_append (λ k. Has s.live (rules.holder k)) s.needs (rules.need d ∷ [])
          sound.holders (subst (Has s.live) (sym (laws.held d)) row.live, tt);
      fallers = sound.fallers;
    })

    commit_sound : (n : ℕ) (t : State S E N) → CommitRow rules s n t → IsSound rules t
    commit_sound n t row = subst (IsSound rules) (sym row.is) (ended_sound n row.next
        (weaker _ _ (λ d (p : (rules.deferred d) × (Ready rules.does s.now d)).
        let q : rules.deferred
        d × Ready rules.does row.next d = (
          p.0,
          past_laters laws (laters_of rules n s.entries) d s.now row.next
              (laters_late laws s sound n) p.0 row.does p.1,
        ) in q) (puts s.entries) sound.put))

    back_sound : (n : ℕ) (t : State S E N) → BackRow rules s n t → IsSound rules t
    back_sound n t row =
        let new = row.newest in
        let ask : rules.asked row.call =
        (each_back rules.asked (calls new.before) (row.call ∷ calls new.after)
        (subst (AllByRecursion rules.asked)
        (ap calls new.is ∙ calls_append new.before (Asked row.call ∷ new.after))
        sound.asked)).0 in
        subst (IsSound rules) (sym row.is) (record {
          held = subst (AllByRecursion _) (sym new.rest_is)
              (each_rest (λ e. Has s.needs (rules.need (event e))) new.before (Asked row.call)
              new.after (subst (AllByRecursion (λ e. Has s.needs (rules.need (event e)))) new.is
              sound.held));
          alive = subst (AllByRecursion _) (sym new.rest_is)
              (each_rest (λ e. Has s.live (rules.owner (event e))) new.before (Asked row.call)
              new.after (subst (AllByRecursion (λ e. Has s.live (rules.owner (event e)))) new.is
              sound.alive));
          apart = subst (AllApart (λ e f. Apart rules (event e) (event f)) (asker rules.owner))
              (sym new.rest_is) (AllApart-without _ (asker rules.owner) new.before (Asked row.call)
              new.after (subst (AllApart (λ e f. Apart rules (event e) (event f))
              (asker rules.owner)) new.is sound.apart));
          asked = subst (λ l. AllByRecursion rules.asked (calls l)) (sym new.rest_is)
              (calls_rest rules.asked new.before row.call new.after
              (subst (λ l. AllByRecursion rules.asked (calls l)) new.is sound.asked));
          put = subst (AllByRecursion (λ d. rules.deferred d × Ready rules.does row.next d))
              (ap puts new.is ∙ puts_rest new.before row.call new.after ∙ ap puts (sym new.rest_is))
              (weaker _ _ (λ d (p : (rules.deferred d) × (Ready rules.does s.now d)).
              let q : rules.deferred d × Ready rules.does row.next d =
              (p.0, laws.put_past_undo row.call d s.now row.next ask p.0 row.undoes p.1) in q)
              (puts s.entries) sound.put);
          once = λ k. subst (λ l. AllDiffer (left_of rules k l)) (sym new.rest_is)
              (subst AllDiffer (sym (left_split k new.before new.after))
              (once_rest k (calls new.before) row.call (calls new.after) (rules.owner row.call == k)
              (subst AllDiffer (left_split k new.before (Asked row.call ∷ new.after))
              (subst (λ l. AllDiffer (left_of rules k l)) new.is (sound.once k)))));
          holders = sound.holders;
          fallers = (row.live, sound.fallers);
        })

    ended_row_sound : (n : ℕ) (t : State S E N) → EndedRow rules s n t → IsSound rules t
    ended_row_sound n t row = subst (IsSound rules) (sym row.is) (ended_sound n s.now sound.put)

  pub step_sound : (r : Record E M) (s t : State S E N) → IsSound rules s → Steps rules s r t →
      IsSound rules t
  step_sound (Make k) s t sound row = make_sound s sound k t row
  step_sound (Begin n) s t sound row = begin_sound s sound n t row
  step_sound (Call x) s t sound row = call_sound s sound x t row
  step_sound (Later d) s t sound row = later_sound s sound d t row
  step_sound (Commit n) s t sound row = commit_sound s sound n t row
  step_sound (Back n) s t sound row = back_sound s sound n t row
  step_sound (Ended n) s t sound row = ended_row_sound s sound n t row
