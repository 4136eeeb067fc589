-- An image loses nothing that the records behind it need.
use Rattle.std.proofs.Common.{◌≡◌, ℕ, ◌==◌, Bool, true, false, not, cond, ◌&&◌, ◌||◌, inl, inr}
use Rattle.std.proofs.Common.{⊎_elim, List, [], ◌∷◌, ◌++◌, refl, sym, ◌∙◌, ap, subst, eqb-true}
use Rattle.std.specs.List.{filter, AllByRecursion}
use Rattle.std.proofs.lemmas.List.Elements.{filter-append}
use Rattle.calls.specs.Transactions.{Leads}
use Rattle.boosted.specs.Runs.{own, others}
use Rattle.steps.specs.Theory.Rules.{Rules, Has, Lacks}
use Rattle.steps.specs.Theory.Journal.{Entry, Asked, Deferred, asker, calls, laters, Record, Make}
use Rattle.steps.specs.Theory.Journal.{Begin, Call, Later, Commit, Back, Ended}
use Rattle.steps.specs.Theory.Machine.{State, without, laters_of, ended_at, Steps, Repeats, lefts}
use Rattle.steps.specs.Theory.Images.{Move, Kept, Falls, Holds, Plays, records, is_put, member}
use Rattle.steps.specs.Theory.Images.{shown}
use Rattle.boosted.proofs.Each.{differ}
use Rattle.steps.proofs.Theory.Lists.{at, every, not_same, without_has, has_without, has_filter}
use Rattle.steps.proofs.Theory.Lists.{filter_has, has_left, has_right, append_has}

not_member : (ms : List ℕ) (n : ℕ) → Lacks ms n → member ms n ≡ false
not_member [] n h = refl
not_member (m ∷ ms) n h = rw (not_same m n (λ e. h (inl e))) (not_member ms n (λ k. h (inr k)))

-- a number that is another is not seen
or_false : (b c : Bool) → b ≡ false → c ≡ (b || c)
or_false b c h = rw h refl

keep_member : (b : Bool) (n k m : ℕ) (ms rest : List ℕ) → (m == n) ≡ b → (k ≡ n → ⊥) →
    member rest k ≡ member ms k → member (cond (not b) (m ∷ rest) rest) k ≡ member (m ∷ ms) k
keep_member true n k m ms rest h d ih =
    ih ∙ or_false (m == k) (member ms k) (not_same m k (λ e. d (sym e ∙ eqb-true m n h)))
keep_member false n k m ms rest h d ih = ap (λ b. (m == k) || b) ih

member_without : (n k : ℕ) (ms : List ℕ) → (k ≡ n → ⊥) → member (without n ms) k ≡ member ms k
member_without n k [] d = refl
member_without n k (m ∷ ms) d =
    keep_member (m == n) n k m ms (without n ms) refl d (member_without n k ms d)

module _ {E : Type 0} (owner : E → ℕ) where
  put_calls : (b : Bool) (d : E) (r : List (Entry E)) → calls (cond b (Deferred d ∷ r) r) ≡ calls r
  put_calls true d r = refl
  put_calls false d r = refl

  pub calls_shown : (hidden : List ℕ) (es : List (Entry E)) →
      calls (shown owner hidden es) ≡ calls es
  calls_shown hidden [] = refl
  calls_shown hidden (Asked a ∷ es) = ap (λ l. a ∷ l) (calls_shown hidden es)
  calls_shown hidden (Deferred d ∷ es) =
      put_calls (not (member hidden (owner d))) d (shown owner hidden es) ∙ calls_shown hidden es

  own_dropped : (n : ℕ) (d : E) (r : List (Entry E)) (b : Bool) → (owner d == n) ≡ false →
      own (asker owner) n (cond b (Deferred d ∷ r) r) ≡ own (asker owner) n r
  own_dropped n d r true h = ap (λ b. cond b (Deferred d ∷ own (asker owner) n r)
      (own (asker owner) n r)) h
  own_dropped n d r false h = refl

  others_dropped : (n : ℕ) (d : E) (r : List (Entry E)) (b : Bool) → (owner d == n) ≡ true →
      others (asker owner) n (cond b (Deferred d ∷ r) r) ≡ others (asker owner) n r
  others_dropped n d r true h = ap
      (λ b. cond (not b) (Deferred d ∷ others (asker owner) n r) (others (asker owner) n r)) h
  others_dropped n d r false h = refl

  others_inside : (n : ℕ) (d : E) (r : List (Entry E)) (b : Bool) → (owner d == n) ≡ false →
      others (asker owner) n (cond b (Deferred d ∷ r) r) ≡
      cond b (Deferred d ∷ others (asker owner) n r) (others (asker owner) n r)
  others_inside n d r true h = ap
      (λ b. cond (not b) (Deferred d ∷ others (asker owner) n r) (others (asker owner) n r)) h
  others_inside n d r false h = refl

  own_put : (hidden : List ℕ) (n : ℕ) (b : Bool) (d : E) (r q : List (Entry E)) → Lacks hidden n →
      (owner d == n) ≡ b → own (asker owner) n r ≡ own (asker owner) n q →
      own (asker owner) n (cond (not (member hidden (owner d))) (Deferred d ∷ r) r) ≡
      own (asker owner) n (Deferred d ∷ q)
  own_put hidden n true d r q lacks h ih =
      rw (not_member hidden (owner d) (λ k. lacks (subst (Has hidden) (eqb-true (owner d) n h) k)))
      (ap (λ l. cond (owner d == n) (Deferred d ∷ l) l) ih)
  own_put hidden n false d r q lacks h ih =
      own_dropped n d r (not (member hidden (owner d))) h ∙ ih ∙
      ap (λ b. cond b (Deferred d ∷ own (asker owner) n q) (own (asker owner) n q)) (sym h)

  pub own_shown : (hidden : List ℕ) (n : ℕ) (es : List (Entry E)) → Lacks hidden n →
      own (asker owner) n (shown owner hidden es) ≡ own (asker owner) n es
  own_shown hidden n [] lacks = refl
  own_shown hidden n (Asked a ∷ es) lacks =
      ap (λ l. cond (owner a == n) (Asked a ∷ l) l) (own_shown hidden n es lacks)
  own_shown hidden n (Deferred d ∷ es) lacks =
      own_put hidden n (owner d == n) d (shown owner hidden es) es lacks refl
      (own_shown hidden n es lacks)

  others_put : (hidden : List ℕ) (n : ℕ) (b : Bool) (d : E) (r q : List (Entry E)) →
      (owner d == n) ≡ b → shown owner (without n hidden) q ≡ others (asker owner) n r →
      shown owner (without n hidden) (cond (not b) (Deferred d ∷ q) q) ≡
      others (asker owner) n (cond (not (member hidden (owner d))) (Deferred d ∷ r) r)
  others_put hidden n true d r q h ih =
      ih ∙ sym (others_dropped n d r (not (member hidden (owner d))) h)
  others_put hidden n false d r q h ih =
      ap (λ b. cond (not b) (Deferred d ∷ shown owner (without n hidden) q)
      (shown owner (without n hidden) q))
      (member_without n (owner d) hidden (differ (owner d) n h))
      ∙ ap (λ l. cond (not (member hidden (owner d))) (Deferred d ∷ l) l) ih
      ∙ sym (others_inside n d r (not (member hidden (owner d))) h)

  asked_shown : (hidden : List ℕ) (b : Bool) (a : E) (r : List (Entry E)) →
      shown owner hidden (cond b (Asked a ∷ r) r) ≡
      cond b (Asked a ∷ shown owner hidden r) (shown owner hidden r)
  asked_shown hidden true a r = refl
  asked_shown hidden false a r = refl

  -- what is hidden of the others stays hidden
  shown_others : (hidden : List ℕ) (n : ℕ) (es : List (Entry E)) →
      shown owner (without n hidden) (others (asker owner) n es) ≡
      others (asker owner) n (shown owner hidden es)
  shown_others hidden n [] = refl
  shown_others hidden n (Asked a ∷ es) =
      asked_shown (without n hidden) (not (owner a == n)) a (others (asker owner) n es) ∙
      ap (λ l. cond (not (owner a == n)) (Asked a ∷ l) l) (shown_others hidden n es)
  shown_others hidden n (Deferred d ∷ es) =
      others_put hidden n (owner d == n) d (shown owner hidden es) (others (asker owner) n es) refl
      (shown_others hidden n es)

-- the state with some entries hidden, and other flags and needs
abbrev pub thin : {S E N : Type 0} → (E → ℕ) → State S E N → List ℕ → List ℕ → List N → State S E N
thin owner s hidden falling needs =
    record {
      now = s.now;
      entries = shown owner hidden s.entries;
      live = s.live;
      falling = falling;
      needs = needs;
    }

-- only what is being undone is hidden, and no flag and no need is new
pub record IsThin {S E N : Type 0} (s : State S E N) (hidden falling : List ℕ)
    (needs : List N) : Type 0 where
  pub hides : (n : ℕ) → Has hidden n → Has s.falling n
  pub falls : (n : ℕ) → Has falling n → Has s.falling n
  pub fewer : (k : N) → Has needs k → Has s.needs k

module _ {S E M N : Type 0} (rules : Rules S E M N) where
  -- the thin state makes the same step
  record Follows (s : State S E N) (hidden falling : List ℕ) (needs : List N) (r : Record E M)
      (t : State S E N) : Type 0 where
    hidden' : List ℕ
    falling' : List ℕ
    needs' : List N
    step : Steps rules (thin rules.owner s hidden falling needs) r
        (thin rules.owner t hidden' falling' needs')
    is_thin : IsThin t hidden' falling' needs'

  more_needs : (k : N) (xs ys : List N) → ((j : N) → Has xs j → Has ys j) → (j : N) →
      Has (xs ++ k ∷ []) j → Has (ys ++ k ∷ []) j
  more_needs k xs ys h j i = ⊎_elim (λ l. has_left ys (k ∷ []) j (h j l))
      (λ r. has_right ys (k ∷ []) j r) (append_has xs (k ∷ []) j i)

  clear_thin : (x : E) (xs ys : List N) → ((j : N) → Has xs j → Has ys j) →
      AllByRecursion (λ k. (rules.holder k ≡ rules.owner x → ⊥) → rules.clear k (rules.need x)) ys →
      AllByRecursion (λ k. (rules.holder k ≡ rules.owner x → ⊥) → rules.clear k (rules.need x)) xs
  clear_thin x xs ys h a = every _ xs
      (λ k i. at (λ k. (rules.holder k ≡ rules.owner x → ⊥) → rules.clear k (rules.need x)) ys k a
      (h k i))

  laters_shown : (hidden : List ℕ) (n : ℕ) (es : List (Entry E)) → Lacks hidden n →
      laters_of rules n (shown rules.owner hidden es) ≡ laters_of rules n es
  laters_shown hidden n es lacks =
      ap (laters rules.leaves) (own_shown rules.owner hidden n es lacks)

  module _ (s : State S E N) (hidden falling : List ℕ) (needs : List N)
      (is : IsThin s hidden falling needs) where
    ended_thin : (n : ℕ) (now : S) →
        IsThin (ended_at rules now n s) (without n hidden) (without n falling)
        (filter (λ k. not (rules.holder k == n)) needs)
    ended_thin n now = record {
      hides = λ m h. let l = without_has n hidden m h in
          has_without n s.falling m (is.hides m l.0) l.1;
      falls = λ m h. let l = without_has n falling m h in
          has_without n s.falling m (is.falls m l.0) l.1;
      fewer = λ k h. let l = filter_has (λ k. not (rules.holder k == n)) needs k h in
          has_filter (λ k. not (rules.holder k == n)) s.needs k (is.fewer k l.0) l.1;
    }

    ended_same : (n : ℕ) (now : S) →
        thin rules.owner (ended_at rules now n s) (without n hidden) (without n falling)
        (filter (λ k. not (rules.holder k == n)) needs) ≡
        ended_at rules now n (thin rules.owner s hidden falling needs)
    ended_same n now = ap (λ (l : List (Entry E)). let u : State S E N =
        record {
          now = now;
          entries = l;
          live = without n s.live;
          falling = without n falling;
          needs = filter (λ k. not (rules.holder k == n)) needs;
        } in u)
        (shown_others rules.owner hidden n s.entries)

    follow : (r : Record E M) (t : State S E N) → Steps rules s r t →
        Follows s hidden falling needs r t
    follow (Make k) t row = subst (Follows s hidden falling needs (Make k)) (sym row.is) (record {
      hidden' = hidden;
      falling' = falling;
      needs' = needs;
      step = record { next = row.next; makes = row.makes; is = refl };
      is_thin = record { hides = is.hides; falls = is.falls; fewer = is.fewer };
    })
    follow (Begin n) t row = subst (Follows s hidden falling needs (Begin n)) (sym row.is) (record {
      hidden' = hidden;
      falling' = falling;
      needs' = needs;
      step = record { fresh = row.fresh; is = refl };
      is_thin = record { hides = is.hides; falls = is.falls; fewer = is.fewer };
    })
    follow (Call x) t row = subst (Follows s hidden falling needs (Call x)) (sym row.is) (record {
      hidden' = hidden;
      falling' = falling;
      needs' = needs ++ rules.need x ∷ [];
      step = record {
        live = row.live;
        running = λ h. row.running (is.falls (rules.owner x) h);
        asked = row.asked;
        clear = clear_thin x needs s.needs is.fewer row.clear;
        once = subst (λ l. AllByRecursion
            (λ d. Lacks (lefts rules.leaves (own rules.owner (rules.owner x) l)) d)
            (rules.leaves x)) (sym (calls_shown rules.owner hidden s.entries)) row.once;
        next = row.next;
        does = row.does;
        is = ap (λ (l : List (Entry E)). let u : State S E N =
            record {
              now = row.next;
              entries = l;
              live = s.live;
              falling = falling;
              needs = needs ++ rules.need x ∷ [];
            } in u)
            (filter-append (λ e. not (is_put e && member hidden (asker rules.owner e))) s.entries
            (Asked x ∷ []));
      };
      is_thin = record {
        hides = is.hides;
        falls = is.falls;
        fewer = more_needs (rules.need x) needs s.needs is.fewer;
      };
    })
    follow (Later d) t row = subst (Follows s hidden falling needs (Later d)) (sym row.is) (record {
      hidden' = hidden;
      falling' = falling;
      needs' = needs ++ rules.need d ∷ [];
      step = record {
        live = row.live;
        running = λ h. row.running (is.falls (rules.owner d) h);
        deferred = row.deferred;
        ready = row.ready;
        clear = clear_thin d needs s.needs is.fewer row.clear;
        is = ap (λ (l : List (Entry E)). let u : State S E N =
            record {
              now = s.now;
              entries = l;
              live = s.live;
              falling = falling;
              needs = needs ++ rules.need d ∷ [];
            } in u)
            (filter-append (λ e. not (is_put e && member hidden (asker rules.owner e))) s.entries
            (Deferred d ∷ [])
            ∙ ap (λ b. shown rules.owner hidden s.entries ++ cond (not b) (Deferred d ∷ []) [])
            (not_member hidden (rules.owner d)
            (λ h. row.running (is.hides (rules.owner d) h))));
      };
      is_thin = record {
        hides = is.hides;
        falls = is.falls;
        fewer = more_needs (rules.need d) needs s.needs is.fewer;
      };
    })
    follow (Commit n) t row = subst (Follows s hidden falling needs (Commit n)) (sym row.is)
        (record {
          hidden' = without n hidden;
          falling' = without n falling;
          needs' = filter (λ k. not (rules.holder k == n)) needs;
          step = record {
            live = row.live;
            running = λ h. row.running (is.falls n h);
            next = row.next;
            does = subst (λ l. Leads rules.does l s.now row.next)
                (sym (laters_shown hidden n s.entries (λ h. row.running (is.hides n h)))) row.does;
            is = ended_same n row.next;
          };
          is_thin = ended_thin n row.next;
        })
    follow (Back n) t row = subst (Follows s hidden falling needs (Back n)) (sym row.is) (record {
      hidden' = hidden;
      falling' = n ∷ falling;
      needs' = needs;
      step = record {
        live = row.live;
        call = row.call;
        rest = shown rules.owner hidden row.rest;
        newest = record {
          before = shown rules.owner hidden row.newest.before;
          after = shown rules.owner hidden row.newest.after;
          is = ap (shown rules.owner hidden) row.newest.is ∙
              filter-append (λ e. not (is_put e && member hidden (asker rules.owner e)))
              row.newest.before (Asked row.call ∷ row.newest.after);
          rest_is = ap (shown rules.owner hidden) row.newest.rest_is ∙
              filter-append (λ e. not (is_put e && member hidden (asker rules.owner e)))
              row.newest.before row.newest.after;
          mine = row.newest.mine;
          none_newer = subst (AllByRecursion (λ a. rules.owner a ≡ n → ⊥))
              (sym (calls_shown rules.owner hidden row.newest.after)) row.newest.none_newer;
        };
        next = row.next;
        undoes = row.undoes;
        is = refl;
      };
      is_thin = record {
        hides = λ m h. inr (is.hides m h);
        falls = λ m h. ⊎_elim inl (λ i. inr (is.falls m i)) h;
        fewer = is.fewer;
      };
    })
    follow (Ended n) t row = subst (Follows s hidden falling needs (Ended n)) (sym row.is) (record {
      hidden' = without n hidden;
      falling' = without n falling;
      needs' = filter (λ k. not (rules.holder k == n)) needs;
      step = record {
        live = row.live;
        undone = subst (AllByRecursion (λ a. rules.owner a ≡ n → ⊥))
            (sym (calls_shown rules.owner hidden s.entries)) row.undone;
        is = ended_same n s.now;
      };
      is_thin = ended_thin n s.now;
    })

  -- the thin state repeats the records of all that is played
  pub record FollowsAll (s : State S E N) (hidden falling : List ℕ) (needs : List N)
      (ms : List (Move E M)) (t : State S E N) : Type 0 where
    pub hidden' : List ℕ
    pub falling' : List ℕ
    pub needs' : List N
    pub run : Repeats rules (records ms) (thin rules.owner s hidden falling needs)
        (thin rules.owner t hidden' falling' needs')
    pub is_thin : IsThin t hidden' falling' needs'

  pub follow_all : (ms : List (Move E M)) (s t : State S E N) (hidden falling : List ℕ)
      (needs : List N) → IsThin s hidden falling needs → Plays rules ms s t →
      FollowsAll s hidden falling needs ms t
  follow_all [] s t hidden falling needs is w =
      subst (FollowsAll s hidden falling needs []) w
      (record { hidden' = hidden; falling' = falling; needs' = needs; run = refl; is_thin = is })
  follow_all (Kept r ∷ ms) s t hidden falling needs is w =
      let one = follow s hidden falling needs is r w.0 w.1 in
      let more = follow_all ms w.0 t one.hidden' one.falling' one.needs' one.is_thin w.2 in
      record {
        hidden' = more.hidden';
        falling' = more.falling';
        needs' = more.needs';
        run = (thin rules.owner w.0 one.hidden' one.falling' one.needs', one.step, more.run);
        is_thin = more.is_thin;
      }
  follow_all (Falls n ∷ ms) s t hidden falling needs is w =
      let row = w.1 in
      let is' : IsThin w.0 hidden falling needs =
      subst (λ v. IsThin v hidden falling needs) (sym row.is)
      (record {
        hides = λ m h. inr (is.hides m h);
        falls = λ m h. inr (is.falls m h);
        fewer = is.fewer;
      }) in
      let more = follow_all ms w.0 t hidden falling needs is' w.2 in
      record {
        hidden' = more.hidden';
        falling' = more.falling';
        needs' = more.needs';
        run = subst (λ v. Repeats rules (records ms) (thin rules.owner v hidden falling needs)
            (thin rules.owner t more.hidden' more.falling' more.needs')) row.is more.run;
        is_thin =
            more.is_thin;
      }
  follow_all (Holds x ∷ ms) s t hidden falling needs is w =
      let row = w.1 in
      let is' : IsThin w.0 hidden falling needs =
      subst (λ v. IsThin v hidden falling needs) (sym row.is)
      (record {
        hides = is.hides;
        falls = is.falls;
        fewer = λ k h. has_left s.needs (rules.need x ∷ []) k (is.fewer k h);
      }) in
      let more = follow_all ms w.0 t hidden falling needs is' w.2 in
      record {
        hidden' = more.hidden';
        falling' = more.falling';
        needs' = more.needs';
        run = subst (λ v. Repeats rules (records ms) (thin rules.owner v hidden falling needs)
            (thin rules.owner t more.hidden' more.falling' more.needs')) row.is more.run;
        is_thin = more.is_thin;
      }
