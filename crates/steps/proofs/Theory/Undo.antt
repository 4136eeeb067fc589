-- Recovery: the live transactions can be undone, one after another, and then the settled content is
-- there.
use Rattle.std.proofs.Common.{◌≡◌, ℕ, suc, ◌==◌, true, false, not, cond, ◌⊎◌, inl, inr, ⊎_elim}
use Rattle.std.proofs.Common.{List, [], ◌∷◌, ◌++◌, map, length, refl, sym, ◌∙◌, ap, subst, arith}
use Rattle.std.proofs.Common.{eqb-true}
use Rattle.std.specs.List.{AllByRecursion}
use Rattle.std.proofs.lemmas.List.Elements.{filter-append}
use Rattle.std.proofs.lemmas.Bool.{eq-eqb}
use Rattle.calls.specs.Transactions.{Leads}
use Rattle.boosted.specs.Runs.{own, others}
use Rattle.boosted.proofs.Runs.{Leads-append, Leads-push}
use Rattle.boosted.proofs.Each.{weaker, differ}
use Rattle.boosted.proofs.Settled.{settled_newest}
use Rattle.steps.specs.Theory.Rules.{Rules, RuleLaws, Has}
use Rattle.steps.specs.Theory.Journal.{Entry, Asked, Deferred, event, asker, calls, Record, Back}
use Rattle.steps.specs.Theory.Journal.{Ended}
use Rattle.steps.specs.Theory.Machine.{State, without, IsSound, IsSettled, HasNoCall}
use Rattle.steps.specs.Theory.Machine.{IsNewestCall, ended_at, Steps, Repeats}
use Rattle.steps.specs.Theory.Theorems.{undo_one, undo_records, idle, UndoSettles}
use Rattle.steps.proofs.Theory.Lists.{either, without_has, has_without, calls_append, none_own}
use Rattle.steps.proofs.Theory.Derived.{calls_apart}
use Rattle.steps.proofs.Theory.Serial.{newest_call, newest_asked, step_settles}

module _ {E : Type 0} (owner : E → ℕ) (n : ℕ) where
  deeper : (e : Entry E) (es : List (Entry E)) →
      ((x : E) × (rest : List (Entry E)) × IsNewestCall owner n es x rest) →
      (x : E) × (rest : List (Entry E)) × IsNewestCall owner n (e ∷ es) x rest
  deeper e es new = (
    new.0,
    e ∷ new.1,
    record {
      before = e ∷ new.2.before;
      after = new.2.after;
      is = ap (λ l. e ∷ l) new.2.is;
      rest_is = ap (λ l. e ∷ l) new.2.rest_is;
      mine = new.2.mine;
      none_newer = new.2.none_newer;
    },
  )

  find_newest : (es : List (Entry E)) →
      ((x : E) × (rest : List (Entry E)) × IsNewestCall owner n es x rest) ⊎ HasNoCall owner n es
  find_newest [] = inr tt
  find_newest (Asked a ∷ es) =
      ⊎_elim
      (λ (new : (x : E) × (rest : List (Entry E)) × IsNewestCall owner n es x rest). inl
      (deeper (Asked a) es new))
      (λ (none : HasNoCall owner n es). ⊎_elim
      (λ (mine : (owner a == n) ≡ true). inl (
        a,
        es,
        record {
          before = [];
          after = es;
          is = refl;
          rest_is = refl;
          mine = eqb-true (owner a) n mine;
          none_newer = none;
        },
      ))
      (λ (theirs : (owner a == n) ≡ false). inr (differ (owner a) n theirs, none))
      (either (owner a == n)))
      (find_newest es)
  find_newest (Deferred d ∷ es) =
      ⊎_elim
      (λ (new : (x : E) × (rest : List (Entry E)) × IsNewestCall owner n es x rest). inl
      (deeper (Deferred d) es new))
      (λ (none : HasNoCall owner n es). inr none)
      (find_newest es)

length_mid : {X : Type 0} (xs : List X) (x : X) (ys : List X) →
    length (xs ++ x ∷ ys) ≡ suc (length (xs ++ ys))
length_mid [] x ys = refl
length_mid (z ∷ xs) x ys = ap suc (length_mid xs x ys)

one_fewer : (j k : ℕ) (l : ℕ) → l ≡ suc j → l ≡ suc k → j ≡ k
one_fewer j k l a b = omega arith

not_none : (k l : ℕ) → l ≡ 0 → l ≡ suc k → ⊥
not_none k l a b = omega arith

pub nothing : {X : Type 0} (xs : List X) → AllByRecursion (λ x. ⊥) xs → xs ≡ []
nothing [] a = refl
nothing (x ∷ xs) a = absurd a.0

none_in : (ms : List ℕ) → ((m : ℕ) → Has ms m → ⊥) → ms ≡ []
none_in [] h = refl
none_in (m ∷ ms) h = absurd (h m (inl refl))

others_without : {X : Type 0} (f : X → ℕ) (n : ℕ) (xs : List X) (x : X) (ys : List X) → f x ≡ n →
    others f n (xs ++ x ∷ ys) ≡ others f n (xs ++ ys)
others_without f n [] x ys mine = rw (eq-eqb (f x) n mine) refl
others_without f n (z ∷ xs) x ys mine =
    ap (λ q. cond (not (f z == n)) (z ∷ q) q) (others_without f n xs x ys mine)

own_mid : {X : Type 0} (f : X → ℕ) (n : ℕ) (xs : List X) (x : X) (ys : List X) → f x ≡ n →
    length (own f n (xs ++ x ∷ ys)) ≡ suc (length (own f n (xs ++ ys)))
own_mid f n xs x ys mine =
    ap length (filter-append (λ e. f e == n) xs (x ∷ ys) ∙
    ap (λ b. own f n xs ++ cond b (x ∷ own f n ys) (own f n ys)) (eq-eqb (f x) n mine))
    ∙ length_mid (own f n xs) x (own f n ys)
    ∙ ap (λ l. suc (length l)) (sym (filter-append (λ e. f e == n) xs ys))

same_state : {S E N : Type 0} (s t : State S E N) → s.now ≡ t.now → s.entries ≡ t.entries →
    s.live ≡ t.live → s.falling ≡ t.falling → s.needs ≡ t.needs → s ≡ t
same_state {S} {E} {N} s t a b c d e =
    ap (λ (v : S). let u : State S E N =
    record {
      now = v;
      entries = s.entries;
      live = s.live;
      falling = s.falling;
      needs = s.needs;
    } in u) a
    ∙ ap (λ (v : List (Entry E)). let u : State S E N =
    record { now = t.now; entries = v; live = s.live; falling = s.falling; needs = s.needs } in
    u) b
    ∙ ap (λ (v : List ℕ). let u : State S E N =
    record {
      now = t.now;
      entries = t.entries;
      live = v;
      falling = s.falling;
      needs = s.needs;
    } in u) c
    ∙ ap (λ (v : List ℕ). let u : State S E N =
    record { now = t.now; entries = t.entries; live = t.live; falling = v; needs = s.needs } in
    u) d
    ∙ ap (λ (v : List N). let u : State S E N =
    record {
      now = t.now;
      entries = t.entries;
      live = t.live;
      falling = t.falling;
      needs = v;
    } in u) e

module _ {S E M N : Type 0} {rules : Rules S E M N} (laws : RuleLaws rules) where
  -- what undoing one number's calls leads to
  record Undone (n : ℕ) (s : State S E N) (c : S) (rs : List (Record E M)) : Type 0 where
    to : State S E N
    run : Repeats rules rs s to
    sound : IsSound rules to
    settled : IsSettled rules to c
    live : to.live ≡ s.live
    theirs : others (asker rules.owner) n to.entries ≡ others (asker rules.owner) n s.entries
    none : HasNoCall rules.owner n to.entries

  -- one call fewer
  record OneBack (n : ℕ) (s : State S E N) (c : S) : Type 0 where
    to : State S E N
    step : Steps {M = M} rules s (Back n) to
    sound : IsSound rules to
    settled : IsSettled rules to c
    live : to.live ≡ s.live
    theirs : others (asker rules.owner) n to.entries ≡ others (asker rules.owner) n s.entries
    fewer : length (own rules.owner n (calls s.entries)) ≡
        suc (length (own rules.owner n (calls to.entries)))

  -- the newest call of a number can be undone
  pub newest_undone : (n : ℕ) (s : State S E N) (c : S) (x : E) (rest : List (Entry E)) →
      IsSound rules s → IsSettled rules s c → IsNewestCall rules.owner n s.entries x rest →
      (u : S) × rules.undoes x s.now u
  newest_undone n s c x rest sound w new =
      settled_newest laws.calls rules.owner n (calls s.entries) x (calls rest) c s.now sound.asked
      (newest_asked laws s n x rest sound new) (calls_apart laws s.entries sound.apart)
      (newest_call rules.owner n s.entries x rest new) w

  one_back : (n : ℕ) (s : State S E N) (c : S) (x : E) (rest : List (Entry E)) → IsSound rules s →
      IsSettled rules s c → Has s.live n → IsNewestCall rules.owner n s.entries x rest →
      OneBack n s c
  one_back n s c x rest sound w live new =
      let back = newest_undone n s c x rest sound w new in
      let t : State S E N = record {
        now = back.0;
        entries = rest;
        live = s.live;
        falling = n ∷ s.falling;
        needs = s.needs;
      } in
      let step : Steps {M = M} rules s (Back n) t =
      record {
        live = live;
        call = x;
        rest = rest;
        newest = new;
        next = back.0;
        undoes = back.1;
        is = refl;
      } in
      let after = step_settles laws (Back n) s t c sound w step in
      record {
        to = t;
        step = step;
        sound = after.0;
        settled = subst (λ v. IsSettled rules t v) (sym after.1.1) after.1.2;
        live = refl;
        theirs = ap (others (asker rules.owner) n) new.rest_is ∙
            sym (others_without (asker rules.owner) n new.before (Asked x) new.after new.mine) ∙
            ap (others (asker rules.owner) n) (sym new.is);
        fewer =
            ap (λ l. length (own rules.owner n l))
            (ap calls new.is ∙ calls_append new.before (Asked x ∷ new.after))
            ∙ own_mid rules.owner n (calls new.before) x (calls new.after) new.mine
            ∙ ap (λ l. suc (length (own rules.owner n l)))
            (sym (ap calls new.rest_is ∙ calls_append new.before new.after));
      }

  undo_calls : (ks : List E) (n : ℕ) (s : State S E N) (c : S) → IsSound rules s →
      IsSettled rules s c → Has s.live n →
      length (own rules.owner n (calls s.entries)) ≡ length ks → Undone n s c (map (λ a. Back n) ks)
  undo_calls [] n s c sound w live many =
      record {
        to = s;
        run = refl;
        sound = sound;
        settled = w;
        live = refl;
        theirs = refl;
        none = ⊎_elim
            (λ (new : (x : E) × (rest : List (Entry E)) ×
            IsNewestCall rules.owner n s.entries x rest). absurd
            (not_none _ _ many (one_back n s c new.0 new.1 sound w live new.2).fewer))
            (λ (none : HasNoCall rules.owner n s.entries). none)
            (find_newest rules.owner n s.entries);
      }
  undo_calls (k ∷ ks) n s c sound w live many =
      ⊎_elim
      (λ (new : (x : E) × (rest : List (Entry E)) × IsNewestCall rules.owner n s.entries x rest).
      let b = one_back n s c new.0 new.1 sound w live new.2 in
      let more = undo_calls ks n b.to c b.sound b.settled (subst (λ l. Has l n) (sym b.live) live)
      (one_fewer _ _ _ b.fewer many) in
      let r : Undone n s c (map (λ a. Back n) (k ∷ ks)) =
      record {
        to = more.to;
        run = (b.to, b.step, more.run);
        sound = more.sound;
        settled = more.settled;
        live = more.live ∙ b.live;
        theirs = more.theirs ∙ b.theirs;
        none = more.none;
      } in
      r)
      (λ (none : HasNoCall rules.owner n s.entries). absurd
      (not_none _ _ (ap length (none_own rules.owner n (calls s.entries) none)) many))
      (find_newest rules.owner n s.entries)

  -- one number undone and ended
  record OneEnded (n : ℕ) (s : State S E N) (c : S) : Type 0 where
    to : State S E N
    run : Repeats {M = M} rules (undo_one rules.owner n s.entries) s to
    sound : IsSound rules to
    settled : IsSettled rules to c
    live : to.live ≡ without n s.live
    entries : to.entries ≡ others (asker rules.owner) n s.entries

  one_ended : (n : ℕ) (s : State S E N) (c : S) → IsSound rules s → IsSettled rules s c →
      Has s.live n → OneEnded n s c
  one_ended n s c sound w live =
      let u = undo_calls (own rules.owner n (calls s.entries)) n s c sound w live refl in
      let t : State S E N = ended_at rules u.to.now n u.to in
      let step : Steps {M = M} rules u.to (Ended n) t =
      record { live = subst (λ l. Has l n) (sym u.live) live; undone = u.none; is = refl } in
      let after = step_settles laws (Ended n) u.to t c u.sound u.settled step in
      record {
        to = t;
        run = Leads-push (Steps rules) (map (λ a. Back n) (own rules.owner n (calls s.entries)))
            (Ended n) s u.to t u.run step;
        sound = after.0;
        settled = subst (λ v. IsSettled rules t v) (sym after.1.1) after.1.2;
        live = ap (without n) u.live;
        entries = u.theirs;
      }

  pub undo_settles : UndoSettles rules
  undo_settles s c [] sound w differ in_live all =
      let bare : s.live ≡ [] = none_in s.live (λ m h. all m h) in
      let none : s.entries ≡ [] = nothing s.entries
      (weaker (λ e. Has s.live (rules.owner (event e))) _ (λ e h. all (rules.owner (event e)) h)
      s.entries sound.alive) in
      let free : s.needs ≡ [] = nothing s.needs
      (weaker (λ k. Has s.live (rules.holder k)) _ (λ k h. all (rules.holder k) h) s.needs
      sound.holders) in
      let still : s.falling ≡ [] = nothing s.falling
      (weaker (Has s.live) _ (λ m h. all m h) s.falling sound.fallers) in
      let there : s.now ≡ c = sym (subst (λ l. Leads rules.does (calls l) c s.now) none w) in
      same_state s (idle c) there none bare still free
  undo_settles s c (n ∷ ns) sound w differ in_live all =
      let one = one_ended n s c sound w (in_live n (inl refl)) in
      let more = undo_settles one.to c ns one.sound one.settled differ.1
      (λ m h. subst (λ l. Has l m) (sym one.live)
      (has_without n s.live m (in_live m (inr h)) (λ same. differ.0 (subst (Has ns) same h))))
      (λ m h. let l = without_has n s.live m (subst (λ l. Has l m) one.live h) in
      ⊎_elim (λ (e : n ≡ m). absurd (l.1 (sym e))) (λ (k : Has ns m). k) (all m l.0)) in
      Leads-append (Steps rules) (undo_one rules.owner n s.entries)
      (undo_records rules.owner ns (others (asker rules.owner) n s.entries)) s one.to (idle c)
      one.run (subst (λ l. Repeats rules (undo_records rules.owner ns l) one.to (idle c))
      one.entries more)
