-- Transactions that are undone call by call, and one after another.
use Rattle.std.proofs.Common.{◌≡◌, ◌⊎◌, inl, inr, ⊎_elim, ◌↔◌, ℕ, suc, ◌+◌, ◌==◌, ◌<◌, ◌≤◌, cond}
use Rattle.std.proofs.Common.{Bool, true, false, List, [], ◌∷◌, ◌++◌, length, map, replicate}
use Rattle.std.proofs.Common.{Contains, refl, sym, ◌∙◌, ap, subst, arith, length-append}
use Rattle.std.proofs.Common.{append_assoc}
use Rattle.std.proofs.lemmas.Bool.{eq-eqb, eqb-true, cases_eq}
use Rattle.std.proofs.lemmas.List.{map-append, append-nil, replicate-append-replicate}
use Rattle.std.proofs.lemmas.List.Elements.{filter-append, Contains-append_left, Contains-push}
use Rattle.std.proofs.lemmas.List.Elements.{Contains-push_cases}
use Rattle.std.specs.List.{filter, AllByRecursion}
use Rattle.std.specs.FinMap as maps
use Rattle.calls.specs.Transactions.{Event, Entry, Asked, own, others, calls_of}
use Rattle.undo_log.specs.Entries.{IsNewestCall}
use Rattle.undo_log.specs.Logs.{Statuses, Lives, fallen}
use Rattle.records.specs.declared.record.Record.{Record}
use Rattle.records.specs.Records.{IsNumber}
use Rattle.steps.proofs.JoinedEntries.{calls_append}
use Rattle.steps.proofs.LiveNumbers.{nobody, fallen_is, lives_more, lives_fewer}
use Rattle.steps.proofs.Sizes.{len_fallen, len_left}
use Rattle.steps.proofs.Theory.Lists.{own_others_other}
use Rattle.replay.specs.Steps.{State, Steps, Repeats}
use Rattle.records.specs.Images.{Rise}
use Rattle.replay.specs.Undoing.{Undo, IsOver, IsUndoRecord, undo_of, undo_records}
use Rattle.replay.proofs.Lists.{leads_append, leads_push, flat_map-append}
use Rattle.boosted.proofs.Each.{each_append}

-- ---- the entries of one number

own-append : (n : ℕ) (xs ys : List (ℕ × Entry)) → own n (xs ++ ys) ≡ own n xs ++ own n ys
own-append n xs ys = ap (map (λ e. e.1)) (filter-append (λ e. e.0 == n) xs ys) ∙
    map-append (λ e. e.1) (filter (λ e. e.0 == n) xs) (filter (λ e. e.0 == n) ys)

own-mine : (n : ℕ) (e : Entry) (es : List (ℕ × Entry)) → own n ((n, e) ∷ es) ≡ e ∷ own n es
own-mine n e es = ap (λ b. map (λ x. x.1)
    (cond b ((n, e) ∷ filter (λ x. x.0 == n) es) (filter (λ x. x.0 == n) es))) (eq-eqb n n refl)

own_by : (b : Bool) (m n : ℕ) (e : Entry) (es : List (ℕ × Entry)) → (n == m) ≡ b → (m ≡ n → ⊥) →
    map (λ x. x.1) (cond b ((n, e) ∷ filter (λ x. x.0 == m) es) (filter (λ x. x.0 == m) es)) ≡
    own m es
own_by true m n e es is other = absurd (other (sym (eqb-true n m is)))
own_by false m n e es is other = refl

own-other : (m n : ℕ) (e : Entry) (es : List (ℕ × Entry)) → (m ≡ n → ⊥) →
    own m ((n, e) ∷ es) ≡ own m es
own-other m n e es other = own_by (n == m) m n e es refl other

calls_own : (n : ℕ) (xs ys : List (ℕ × Entry)) →
    length (calls_of (own n (xs ++ ys))) ≡
    length (calls_of (own n xs)) + length (calls_of (own n ys))
calls_own n xs ys = ap (λ l. length (calls_of l)) (own-append n xs ys) ∙
    ap length (calls_append (own n xs) (own n ys)) ∙
    length-append (calls_of (own n xs)) (calls_of (own n ys))

-- without its newest call a number has one call less, and another has as many
newest_gone : (n : ℕ) (es rest : List (ℕ × Entry)) (x : Event) → IsNewestCall n es x rest →
    length (calls_of (own n es)) ≡ 1 + length (calls_of (own n rest))
newest_gone n es rest x newest =
    let behind : length (calls_of (own n ((n, Asked x) ∷ newest.after))) ≡
    suc (length (calls_of (own n newest.after))) =
    ap (λ l. length (calls_of l)) (own-mine n (Asked x) newest.after) in
    omega (
      arith,
      ap (λ l. length (calls_of (own n l))) newest.is,
      ap (λ l. length (calls_of (own n l))) newest.rest_is,
      calls_own n newest.before ((n, Asked x) ∷ newest.after),
      calls_own n newest.before newest.after,
      behind,
    )

others_stay : (m n : ℕ) (es rest : List (ℕ × Entry)) (x : Event) → IsNewestCall n es x rest →
    (m ≡ n → ⊥) → own m rest ≡ own m es
others_stay m n es rest x newest other =
    ap (own m) newest.rest_is ∙ own-append m newest.before newest.after ∙
    ap (λ l. own m newest.before ++ l) (sym (own-other m n (Asked x) newest.after other))
    ∙ sym (own-append m newest.before ((n, Asked x) ∷ newest.after)) ∙ ap (own m) (sym newest.is)

others_left : (m n : ℕ) (es : List (ℕ × Entry)) → (m ≡ n → ⊥) → own m (others n es) ≡ own m es
others_left m n es other = ap (map (λ e. e.1)) (own_others_other (λ e. e.0) n m es other)

-- ---- who is live

still_lives : (live : Statuses) (n m : ℕ) → Lives live n → Lives (fallen live n) m ↔ Lives live m
still_lives live n m lives =
    let there = lives_more live n true m in (
      λ h. ⊎_elim (λ (same : n ≡ m). subst (Lives live) same lives) (λ (l : Lives live m). l)
          (there.1 (subst (λ s. Lives s m) (fallen_is live n lives) h)),
      λ h. subst (λ s. Lives s m) (sym (fallen_is live n lives)) (there.0 (inr h)),
    )

-- ---- one transaction

-- So many calls of the transaction are taken back.
pub record IsTakingBack (n : ℕ) (first s : State) (before records : List Record) : Type 0 where
  pub count : ℕ
  pub is : records ≡ before ++ replicate count (Record.Back n)
  pub leads : Repeats (replicate count (Record.Back n)) first s
  pub calls : length (calls_of (own n first.entries)) ≡ count + length (calls_of (own n s.entries))
  pub lives : Lives s.live n
  pub live : (m : ℕ) → Lives s.live m ↔ Lives first.live m
  pub many : maps.len s.live ≡ maps.len first.live
  pub others : (m : ℕ) → (m ≡ n → ⊥) → own m s.entries ≡ own m first.entries
  pub undo : AllByRecursion IsUndoRecord before → IsNumber n → AllByRecursion IsUndoRecord records

pub replicate-push : {X : Type 0} (k : ℕ) (x : X) → replicate k x ++ x ∷ [] ≡ replicate (k + 1) x
replicate-push k x = replicate-append-replicate k 1 x

pub one_less : (n : ℕ) (s t : State) → Steps s (Record.Back n) t →
    length (calls_of (own n t.entries)) < length (calls_of (own n s.entries))
one_less n s t row =
    let gone = newest_gone n s.entries row.rest row.call row.newest in
    let left = ap (λ (v : State). length (calls_of (own n v.entries))) row.is in
    omega (arith, gone, left)

pub takes_on : (n : ℕ) (first s t : State) (before records next : List Record) →
    IsTakingBack n first s before records → Steps s (Record.Back n) t →
    next ≡ records ++ Record.Back n ∷ [] → IsTakingBack n first t before next
takes_on n first s t before records next so_far row next_is =
    let left : t.entries ≡ row.rest = ap (λ (v : State). v.entries) row.is in
    let live_is : t.live ≡ fallen s.live n = ap (λ (v : State). v.live) row.is in
    let lives_on : (m : ℕ) → Lives t.live m ↔ Lives s.live m =
    λ m. subst (λ l. Lives l m ↔ Lives s.live m) (sym live_is)
    (still_lives s.live n m so_far.lives) in
    record {
      count = so_far.count + 1;
      is =
          next_is ∙ ap (λ l. l ++ Record.Back n ∷ []) so_far.is ∙
          append_assoc before (replicate so_far.count (Record.Back n)) (Record.Back n ∷ []) ∙
          ap (λ l. before ++ l) (replicate-push so_far.count (Record.Back n));
      leads = subst (λ l. Repeats l first t) (replicate-push so_far.count (Record.Back n))
          (leads_push Steps (replicate so_far.count (Record.Back n)) (Record.Back n) first s t
          so_far.leads row);
      calls = omega (
        arith,
        so_far.calls,
        newest_gone n s.entries row.rest row.call row.newest,
        ap (λ l. length (calls_of (own n l))) left,
      );
      lives = (lives_on n).1 so_far.lives;
      live = λ m. (
        λ l. (so_far.live m).0 ((lives_on m).0 l),
        λ l. (lives_on m).1 ((so_far.live m).1 l),
      );
      many = ap maps.len live_is ∙ len_fallen s.live n so_far.lives ∙ so_far.many;
      others = λ m other. ap (own m) left ∙
          others_stay m n s.entries row.rest row.call row.newest other ∙ so_far.others m other;
      undo = λ undo number. subst (AllByRecursion IsUndoRecord) (sym next_is)
          (each_append IsUndoRecord records (Record.Back n ∷ []) (so_far.undo undo number)
          (number, tt));
    }

-- all its calls are taken back, and it ends
pub ends : (n : ℕ) (first s t : State) (before records next : List Record) →
    IsTakingBack n first s before records → Steps s (Record.Ended n) t →
    next ≡ records ++ Record.Ended n ∷ [] →
    IsOver n first t × (next ≡ before ++ undo_of n first.entries)
ends n first s t before records next so_far row next_is =
    let all : length (calls_of (own n first.entries)) ≡ so_far.count =
    omega (arith, so_far.calls, ap length row.undone) in
    let same : replicate so_far.count (Record.Back n) ++ Record.Ended n ∷ [] ≡
    undo_of n first.entries = ap (λ k. replicate k (Record.Back n) ++ Record.Ended n ∷ [])
    (sym all) in
    let left : t.entries ≡ others n s.entries = ap (λ (v : State). v.entries) row.left.is in
    let live_is : t.live ≡ maps.remove s.live n = ap (λ (v : State). v.live) row.left.is in
    let fewer = lives_fewer s.live n in (
      record {
        leads = subst (λ l. Repeats l first t) same
            (leads_push Steps (replicate so_far.count (Record.Back n)) (Record.Ended n) first s t
            so_far.leads row);
        live = λ m. (
          λ l. let was = (fewer m).1 (subst (λ x. Lives x m) live_is l) in
              ((so_far.live m).0 was.0, was.1),
          λ l. subst (λ x. Lives x m) (sym live_is) ((fewer m).0 ((so_far.live m).1 l.0, l.1)),
        );
        fewer = omega (arith, ap maps.len live_is, len_left s.live n so_far.lives, so_far.many);
        others = λ m other. ap (own m) left ∙ others_left m n s.entries other ∙
            so_far.others m other;
      },
      next_is ∙ ap (λ l. l ++ Record.Ended n ∷ []) so_far.is ∙
          append_assoc before (replicate so_far.count (Record.Back n)) (Record.Ended n ∷ []) ∙
          ap (λ l. before ++ l) same,
    )

-- ---- one transaction after another

-- These transactions are undone, in their order.
pub record IsUndoing (first s : State) (records : List Record) : Type 0 where
  pub done : List ℕ
  pub is : records ≡ undo_records done first.entries
  pub leads : Repeats records first s
  pub rise : Rise done
  pub below : (m : ℕ) → Lives s.live m → AllByRecursion (λ d. d < m) done
  pub are : (m : ℕ) → (Contains done m ⊎ Lives s.live m) ↔ Lives first.live m
  pub same : (m : ℕ) → Lives s.live m → own m s.entries ≡ own m first.entries
  pub undo : AllByRecursion IsUndoRecord records

no_element : {X : Type 0} (x : X) → Contains [] x → ⊥
no_element x inside = let below = inside.1 in absurd (omega arith)

pub undoing_starts : (s : State) → IsUndoing s s []
undoing_starts s = record {
  done = [];
  is = refl;
  leads = refl;
  rise = tt;
  below = λ m lives. tt;
  are = λ m. (
    λ h. ⊎_elim (λ (inside : Contains [] m). absurd (no_element m inside))
        (λ (l : Lives s.live m). l) h,
    λ l. inr l,
  );
  same = λ m lives. refl;
  undo = tt;
}

rise_push : (ns : List ℕ) (n : ℕ) → Rise ns → AllByRecursion (λ d. d < n) ns → Rise (ns ++ n ∷ [])
rise_push [] n rise below = (tt, tt)
rise_push (m ∷ ns) n rise below =
    (each_append (λ k. m < k) ns (n ∷ []) rise.0 (below.0, tt), rise_push ns n rise.1 below.1)

undo_records-push : (ns : List ℕ) (n : ℕ) (es : List (ℕ × Entry)) →
    undo_records (ns ++ n ∷ []) es ≡ undo_records ns es ++ undo_of n es
undo_records-push ns n es = flat_map-append (λ k. undo_of k es) ns (n ∷ []) ∙
    ap (λ l. undo_records ns es ++ l) (append-nil (undo_of n es))

undo_of-same : (n : ℕ) (es fs : List (ℕ × Entry)) → own n es ≡ own n fs →
    undo_of n es ≡ undo_of n fs
undo_of-same n es fs same = ap (λ l. replicate (length (calls_of l)) (Record.Back n) ++
    Record.Ended n ∷ []) same

below_or : (n m : ℕ) → n ≤ m → (m ≡ n → ⊥) → n < m
below_or n m le other = omega (arith, le, other)

pub undoes_on : (first s t : State) (records next : List Record) (n : ℕ) →
    IsUndoing first s records → Lives s.live n → ((m : ℕ) → Lives s.live m → n ≤ m) → IsOver n s t →
    next ≡ records ++ undo_of n s.entries → AllByRecursion IsUndoRecord next →
    IsUndoing first t next
undoes_on first s t records next n so_far lives least over next_is undo =
    let mine : undo_of n s.entries ≡ undo_of n first.entries =
    undo_of-same n s.entries first.entries (so_far.same n lives) in
    record {
      done = so_far.done ++ n ∷ [];
      is = next_is ∙ ap (λ l. l ++ undo_of n s.entries) so_far.is ∙
          ap (λ l. undo_records so_far.done first.entries ++ l) mine ∙
          sym (undo_records-push so_far.done n first.entries);
      leads = subst (λ l. Repeats l first t) (sym next_is)
          (leads_append Steps records (undo_of n s.entries) first s t so_far.leads over.leads);
      rise = rise_push so_far.done n so_far.rise (so_far.below n lives);
      below = λ m lives_m.
          let was = (over.live m).0 lives_m in
          each_append (λ d. d < m) so_far.done (n ∷ []) (so_far.below m was.0)
          (below_or n m (least m was.0) was.1, tt);
      are = λ m. (
        λ h. ⊎_elim
            (λ (inside : Contains (so_far.done ++ n ∷ []) m).
            ⊎_elim (λ (before : Contains so_far.done m). (so_far.are m).0 (inl before))
            (λ (here : n ≡ m). (so_far.are m).0 (inr (subst (Lives s.live) here lives)))
            (Contains-push_cases so_far.done n m inside))
            (λ (l : Lives t.live m). (so_far.are m).0 (inr ((over.live m).0 l).0))
            h,
        λ l. ⊎_elim
            (λ (before : Contains so_far.done m). inl
            (Contains-append_left so_far.done (n ∷ []) m before))
            (λ (was : Lives s.live m).
            ⊎_elim (λ (same : m ≡ n). inl (subst (Contains (so_far.done ++ n ∷ [])) (sym same)
            (Contains-push so_far.done n)))
            (λ (other : m ≡ n → ⊥). inr ((over.live m).1 (was, other))) (cases_eq m n))
            ((so_far.are m).1 l),
      );
      same = λ m lives_m. let was = (over.live m).0 lives_m in
          over.others m was.1 ∙ so_far.same m was.0;
      undo = undo;
    }

-- where none is live, all are undone
pub undone : (first s : State) (records : List Record) → IsUndoing first s records →
    s.live ≡ maps.empty → Undo first records s
undone first s records so_far none = record {
  numbers = so_far.done;
  losers = record {
    rise = so_far.rise;
    are = λ n. (
      λ inside. (so_far.are n).0 (inl inside),
      λ lives. ⊎_elim (λ (inside : Contains so_far.done n). inside)
          (λ (l : Lives s.live n). absurd (nobody n (subst (λ x. Lives x n) none l)))
          ((so_far.are n).1 lives),
    );
  };
  is = so_far.is;
  leads = so_far.leads;
  over = none;
}
