-- What a journal tells of a state goes along with it: under the record of a step, or without one.
use Rattle.std.proofs.Common.{◌≡◌, ℕ, ◌+◌, ◌≤◌, ◌==◌, inl, inr, ◌⊎◌, Bool, true, false}
use Rattle.std.proofs.Common.{not, cond, List, [], ◌∷◌, ◌++◌, length}
use Rattle.std.proofs.Common.{map, refl, sym, ◌∙◌, ap, subst, arith}
use Rattle.std.specs.Prelude.{Contains}
use Rattle.std.specs.FinMap as maps
use Rattle.std.specs.List.{filter}
use Rattle.std.proofs.lemmas.List.{append-nil}
use Rattle.std.proofs.lemmas.List.Elements.{filter-append}
use Rattle.calls.specs.declared.call.Call.{Call}
use Rattle.calls.specs.declared.reply.Reply.{Reply}
use Rattle.calls.specs.declared.kind.Kind.{Kind}
use Rattle.calls.specs.Rules.{left_by}
use Rattle.calls.specs.Reads.{reads, is_journalled}
use Rattle.calls.specs.Transactions.{Event, Entry, Asked, Deferred, Leads, own, others, calls_of}
use Rattle.calls.specs.Transactions.{laters_of}
use Rattle.calls.proofs.Readings.{read_leaves}
use Rattle.abstract_locks.specs.declared.table.Hold.{Hold}
use Rattle.undo_log.specs.LeftCalls.{GoesTwice}
use Rattle.undo_log.specs.Entries.{HasNoCall}
use Rattle.undo_log.specs.Logs.{Lives, fallen}
use Rattle.boosted.specs.Meaning.{Meaning}
use Rattle.catalog.specs.Making.{Making}
use Rattle.steps.specs.Machine.{State, Does, IsRunning, IsLeft, BeginRow, EndedRow}
use Rattle.steps.specs.Machine.{FallRow, MakeRow, CallRow, LaterRow, CommitRow, BackRow, ReadRow}
use Rattle.steps.specs.Machine.{UnreadRow, WrittenBackRow, journalled_entries, journalled}
use Rattle.steps.proofs.Theory.Lists.{filter_has}
use Rattle.steps.proofs.LeftCalls.{has_contains, contains_has}

-- ---- lists

kept_filter : {X : Type 0} (p : X → Bool) (b : Bool) (x : X) (us : List X) →
    filter p (cond b (x ∷ us) us) ≡
    cond b (cond (p x) (x ∷ filter p us) (filter p us)) (filter p us)
kept_filter p true x us = refl
kept_filter p false x us = refl

turned : {X : Type 0} (a b : Bool) (x : X) (us : List X) →
    cond b (cond a (x ∷ us) us) us ≡ cond a (cond b (x ∷ us) us) us
turned true true x us = refl
turned true false x us = refl
turned false true x us = refl
turned false false x us = refl

-- two tests, in either order
pub filter_turn : {X : Type 0} (p q : X → Bool) (xs : List X) →
    filter p (filter q xs) ≡ filter q (filter p xs)
filter_turn p q [] = refl
filter_turn p q (x ∷ xs) =
    kept_filter p (q x) x (filter q xs) ∙
    ap (λ l. cond (q x) (cond (p x) (x ∷ l) l) l) (filter_turn p q xs) ∙
    turned (p x) (q x) x (filter q (filter p xs)) ∙
    sym (kept_filter q (p x) x (filter p xs))

kept_length : {X : Type 0} (b : Bool) (x : X) (us : List X) →
    length (cond b (x ∷ us) us) ≤ length us + 1
kept_length true x us = omega arith
kept_length false x us = omega arith

pub filter_length : {X : Type 0} (p : X → Bool) (xs : List X) → length (filter p xs) ≤ length xs
filter_length p [] = omega arith
filter_length p (x ∷ xs) = let rest = filter_length p xs in
    let one = kept_length (p x) x (filter p xs) in omega arith

kept_map : {X Y : Type 0} (f : X → Y) (b : Bool) (x : X) (us : List X) →
    map f (cond b (x ∷ us) us) ≡ cond b (f x ∷ map f us) (map f us)
kept_map f true x us = refl
kept_map f false x us = refl

pub filter_map : {X Y : Type 0} (f : X → Y) (p : Y → Bool) (xs : List X) →
    map f (filter (λ x. p (f x)) xs) ≡ filter p (map f xs)
filter_map f p [] = refl
filter_map f p (x ∷ xs) = kept_map f (p (f x)) x (filter (λ x. p (f x)) xs) ∙
    ap (λ l. cond (p (f x)) (f x ∷ l) l) (filter_map f p xs)

-- ---- what is journalled of a number's entries

abbrev test : ℕ × Entry → Bool
test e = is_journalled e.1

abbrev is_written : Event → Bool
is_written e = not (reads e.call e.reply)

pub own_journalled : (n : ℕ) (es : List (ℕ × Entry)) →
    own n (journalled_entries es) ≡ filter is_journalled (own n es)
own_journalled n es = ap (map (λ e. e.1)) (filter_turn (λ e. e.0 == n) test es) ∙
    filter_map (λ (e : ℕ × Entry). e.1) is_journalled (filter (λ e. e.0 == n) es)

pub others_journalled : (n : ℕ) (es : List (ℕ × Entry)) →
    others n (journalled_entries es) ≡ journalled_entries (others n es)
others_journalled n es = filter_turn (λ e. not (e.0 == n)) test es

calls_if : (b : Bool) (e : Event) (us : List Entry) →
    calls_of (cond b (Asked e ∷ us) us) ≡ cond b (e ∷ calls_of us) (calls_of us)
calls_if true e us = refl
calls_if false e us = refl

pub calls_journalled : (es : List Entry) →
    calls_of (filter is_journalled es) ≡ filter is_written (calls_of es)
calls_journalled [] = refl
calls_journalled (Asked e ∷ es) = calls_if (is_written e) e (filter is_journalled es) ∙
    ap (λ l. cond (is_written e) (e ∷ l) l) (calls_journalled es)
calls_journalled (Deferred at c ∷ es) = calls_journalled es

-- what puts nothing off is passed over
laters_if : (b : Bool) (e : Event) (us : List Entry) → reads e.call e.reply ≡ b →
    laters_of (cond (not b) (Asked e ∷ us) us) ≡ laters_of (Asked e ∷ us)
laters_if true e us is = sym (ap (λ cs. map
    (λ (c : Call). let d : Event = record { at = e.at; call = c; reply = Reply.Done } in d) cs ++
    laters_of us) (read_leaves e.call e.reply is))
laters_if false e us is = refl

pub laters_journalled : (es : List Entry) → laters_of (filter is_journalled es) ≡ laters_of es
laters_journalled [] = refl
laters_journalled (Asked e ∷ es) =
    laters_if (reads e.call e.reply) e (filter is_journalled es) refl ∙
    ap (λ l. map (λ (c : Call). let d : Event =
    record { at = e.at; call = c; reply = Reply.Done } in d) (left_by e.call e.reply) ++ l)
    (laters_journalled es)
laters_journalled (Deferred at c ∷ es) =
    ap (λ l. record { at = at; call = c; reply = Reply.Done } ∷ l) (laters_journalled es)

pub own_laters : (n : ℕ) (es : List (ℕ × Entry)) →
    laters_of (own n (journalled_entries es)) ≡ laters_of (own n es)
own_laters n es = ap laters_of (own_journalled n es) ∙ laters_journalled (own n es)

pub own_fewer : (n : ℕ) (es : List (ℕ × Entry)) →
    length (own n (journalled_entries es)) ≤ length (own n es)
own_fewer n es = let same = ap length (own_journalled n es) in
    let fewer = filter_length is_journalled (own n es) in omega arith

pub no_call_journalled : (n : ℕ) (es : List (ℕ × Entry)) → HasNoCall n es →
    HasNoCall n (journalled_entries es)
no_call_journalled n es none = ap calls_of (own_journalled n es) ∙
    calls_journalled (own n es) ∙ ap (filter is_written) none

contains_if : {X : Type 0} (p : X → Bool) (xs : List X) (x : X) → Contains (filter p xs) x →
    Contains xs x
contains_if p xs x inside = has_contains xs x
    (filter_has p xs x (contains_has (filter p xs) x inside)).0

-- nothing more goes twice
once_journalled : (n : ℕ) (es : List (ℕ × Entry)) (e : Event) → GoesTwice (journalled_entries es) n
    e → GoesTwice es n e
once_journalled n es e (c, left, (x, asked, at, leaves)) = (
  c,
  left,
  (
    x,
    contains_if is_journalled (own n es) (Asked x)
        (subst (λ xs. Contains xs (Asked x)) (own_journalled n es) asked),
    at,
    leaves,
  ),
)

-- an entry more, which is journalled or not
pub push_entry : (es : List (ℕ × Entry)) (n : ℕ) (e : Entry) (b : Bool) → is_journalled e ≡ b →
    journalled_entries (es ++ (n, e) ∷ []) ≡ cond b (journalled_entries es ++ (n, e) ∷ [])
    (journalled_entries es)
push_entry es n e b is = filter-append test es ((n, e) ∷ []) ∙
    ap (λ c. journalled_entries es ++ cond c ((n, e) ∷ []) []) is ∙ by b
  where
    by : (b : Bool) → journalled_entries es ++ cond b ((n, e) ∷ []) [] ≡
        cond b (journalled_entries es ++ (n, e) ∷ []) (journalled_entries es)
    by true = refl
    by false = append-nil (journalled_entries es)

-- an entry among others that is journalled, and one that is not
within_written : (before after : List (ℕ × Entry)) (e : ℕ × Entry) → is_journalled e.1 ≡ true →
    journalled_entries (before ++ e ∷ after) ≡
    journalled_entries before ++ e ∷ journalled_entries after
within_written before after e is = filter-append test before (e ∷ after) ∙
    ap (λ b. journalled_entries before ++
    cond b (e ∷ journalled_entries after) (journalled_entries after)) is

within_read : (before after : List (ℕ × Entry)) (e : ℕ × Entry) → is_journalled e.1 ≡ false →
    journalled_entries (before ++ e ∷ after) ≡ journalled_entries (before ++ after)
within_read before after e is = filter-append test before (e ∷ after) ∙
    ap (λ b. journalled_entries before ++
    cond b (e ∷ journalled_entries after) (journalled_entries after)) is ∙
    sym (filter-append test before after)

-- ---- steps without a record

-- A step of which no record tells: a transaction falls, or more needs are held.
pub record GoesUnheard {S : Type 0} (s t : State S) : Type 0 where
  pub is : t ≡ record s { live = t.live; holds = t.holds }
  pub falls : (t.live ≡ s.live) ⊎ ((n : ℕ) × Lives s.live n × (t.live ≡ fallen s.live n))
  pub more : (h : Hold) → Contains s.holds h → Contains t.holds h

pub fall_unheard : {S : Type 0} (s t : State S) (n : ℕ) → FallRow s n t →
    GoesUnheard (journalled s) (journalled t)
fall_unheard s t n row = subst (λ v. GoesUnheard (journalled s) (journalled v)) (sym row.is)
    (record { is = refl; falls = inr (n, row.live, refl); more = λ h i. i })

pub unread_unheard : {S : Type 0} (s t : State S) (n : ℕ) → UnreadRow s n t →
    GoesUnheard (journalled s) (journalled t)
unread_unheard {S = S} s t n row =
    let x : ℕ × Entry = (n, Asked row.call) in
    let same : journalled_entries row.rest ≡ journalled_entries s.entries =
    ap journalled_entries row.newest.rest_is ∙
    sym (within_read row.newest.before row.newest.after x (ap not row.only_reads)) ∙
    ap journalled_entries (sym row.newest.is) in
    subst (λ v. GoesUnheard (journalled s) (journalled v)) (sym row.is) (record {
      is = ap (λ es. let v : State S = record {
        now = s.now;
        live = fallen s.live n;
        entries = es;
        holds = s.holds;
        wear = s.wear;
        format = s.format;
      } in v) same;
      falls = inr (n, row.live, refl);
      more = λ h i. i;
    })

module _ {S : Type 0} (meaning : Meaning S ℕ) where
  pub read_unheard : (s t : State S) (n : ℕ) (e : Event) → ReadRow meaning s n e t →
      GoesUnheard (journalled s) (journalled t)
  read_unheard s t n e row =
      subst (λ v. GoesUnheard (journalled s) (journalled v)) (sym row.is) (record {
        is = ap (λ es. let v : State S = record {
          now = s.now;
          live = s.live;
          entries = es;
          holds = t.holds;
          wear = s.wear;
          format = s.format;
        } in v) (push_entry s.entries n (Asked e) false
            (ap not row.only_reads));
        falls = inl refl;
        more = λ h i. (row.holds h).1 (inl i);
      })

-- ---- steps under a record

module _ {S : Type 0} (meaning : Meaning S ℕ) (making : Making S) (s t : State S) where
  runs : (n : ℕ) → IsRunning s n → IsRunning (journalled s) n
  runs n run = record { live = run.live; standing = run.standing }

  pub make_told : (name : List ℕ) (kind : Kind) → MakeRow making s name kind t →
      MakeRow making (journalled s) name kind (journalled t)
  make_told name kind row =
      subst (λ v. MakeRow making (journalled s) name kind (journalled v)) (sym row.is)
      (record { new = row.new; next = row.next; made = row.made; is = refl })

  pub begin_told : (n : ℕ) → BeginRow s n t → BeginRow (journalled s) n (journalled t)
  begin_told n row =
      let room = row.room in
      let fewer = filter_length test s.entries in
      subst (λ v. BeginRow (journalled s) n (journalled v)) (sym row.is) (record {
        can = record {
          number = row.can.number;
          fresh = row.can.fresh;
          few = row.can.few;
        };
        room = omega arith;
        is = refl;
      })

  pub call_told : (n : ℕ) (e : Event) → reads e.call e.reply ≡ false → CallRow meaning s n e t →
      CallRow meaning (journalled s) n e (journalled t)
  call_told n e written row =
      let room = row.room in
      let fewer = filter_length test s.entries in
      let few = row.can.few in
      let fewer_own = own_fewer n s.entries in
      subst (λ v. CallRow meaning (journalled s) n e (journalled v)) (sym row.is) (record {
        can = record {
          running = runs n row.can.running;
          asked = row.can.asked;
          told = row.can.told;
          few = omega arith;
          answered = row.can.answered;
          once = λ twice. row.can.once (once_journalled n s.entries e twice);
          clear = row.can.clear;
        };
        room = omega arith;
        holds = row.holds;
        is = ap (λ es. let v : State S = record {
          now = meaning.leaves s.now e.at e.call e.reply;
          live = s.live;
          entries = es;
          holds = t.holds;
          wear = s.wear + 1;
          format = s.format;
        } in v) (push_entry s.entries n (Asked e) true (ap not written));
      })

  pub later_told : (n at : ℕ) (call : Call) → LaterRow meaning s n at call t →
      LaterRow meaning (journalled s) n at call (journalled t)
  later_told n at call row =
      let room = row.room in
      let fewer = filter_length test s.entries in
      let few = row.can.few in
      let fewer_own = own_fewer n s.entries in
      subst (λ v. LaterRow meaning (journalled s) n at call (journalled v)) (sym row.is) (record {
        can = record {
          running = runs n row.can.running;
          deferred = row.can.deferred;
          few = omega arith;
          ready = row.can.ready;
          clear = row.can.clear;
        };
        room = omega arith;
        holds = row.holds;
        is = ap (λ es. let v : State S = record {
          now = s.now;
          live = s.live;
          entries = es;
          holds = t.holds;
          wear = s.wear + 1;
          format = s.format;
        } in v) (push_entry s.entries n (Deferred at call) true refl);
      })

  left_told : (n : ℕ) (now : S) (wear : ℕ) → IsLeft (record s { now = now; wear = wear }) n t →
      IsLeft (record (journalled s) { now = now; wear = wear }) n (journalled t)
  left_told n now wear left =
      subst (λ v. IsLeft (record (journalled s) { now = now; wear = wear }) n (journalled v))
      (sym left.is) (record {
        holds = left.holds;
        is = ap (λ es. let v : State S = record {
          now = now;
          live = maps.remove s.live n;
          entries = es;
          holds = t.holds;
          wear = wear;
          format = s.format;
        } in v) (sym (others_journalled n s.entries));
      })

  pub ended_told : (n : ℕ) → EndedRow s n t → EndedRow (journalled s) n (journalled t)
  ended_told n row = record {
    live = row.live;
    undone = no_call_journalled n s.entries row.undone;
    left = left_told n s.now s.wear row.left;
  }

  pub commit_told : (n : ℕ) → CommitRow meaning s n t →
      CommitRow meaning (journalled s) n (journalled t)
  commit_told n row =
      let same = sym (own_laters n s.entries) in
      record {
        running = runs n row.running;
        next = row.next;
        runs = subst (λ es. Leads (Does meaning) es s.now row.next) same row.runs;
        left = subst (λ es. IsLeft (record (journalled s) {
          now = row.next;
          wear = s.wear + length es;
        }) n (journalled t)) same (left_told n row.next _ row.left);
      }

  pub back_told : (n : ℕ) → WrittenBackRow meaning s n t →
      BackRow meaning (journalled s) n (journalled t)
  back_told n written =
      let row = written.back in
      let new = row.newest in
      subst (λ v. BackRow meaning (journalled s) n (journalled v)) (sym row.is) (record {
        live = row.live;
        call = row.call;
        rest = journalled_entries row.rest;
        newest = record {
          before = journalled_entries new.before;
          after = journalled_entries new.after;
          is = ap journalled_entries new.is ∙
              within_written new.before new.after (n, Asked row.call) (ap not written.written);
          rest_is = ap journalled_entries new.rest_is ∙ filter-append test new.before new.after;
          none_newer = no_call_journalled n new.after new.none_newer;
        };
        next = row.next;
        undoes = row.undoes;
        is = refl;
      })
