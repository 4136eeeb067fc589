-- The newest call of a transaction is undone.
use Rattle.std.proofs.Common.{◌≡◌, ℕ, ◌==◌, ◌+◌, Bool, true, false, Option, Some, None, is_some}
use Rattle.std.proofs.Common.{◌↔◌, IfSome, IfNone, List, [], ◌∷◌, ◌++◌, map, cond, refl, sym, ◌∙◌}
use Rattle.std.proofs.Common.{ap, subst, true≢false, MatchOption}
use Rattle.std.proofs.lemmas.Bool.{eq-eqb, false_from_ne_true}
use Rattle.std.specs.List.{filter}
use Rattle.calls.specs.declared.format.Format.{Format}
use Rattle.calls.specs.Reads.{reads}
use Rattle.calls.specs.Transactions.{Event, Entry, Asked, Deferred, own, calls_of}
use Rattle.abstract_locks.specs.declared.table.Hold.{Hold}
use Rattle.undo_log.specs.declared.logged.Logged.{Logged}
use Rattle.undo_log.specs.Entries.{event_of, HasNoCall, HasNewestCall, IsNewestCall}
use Rattle.undo_log.specs.Logs.{Log, Lives, fallen}
use Rattle.boosted.specs.Meaning.{Undoes, Meaning}
use Rattle.steps.specs.Machine.{State, BackRow, UnreadRow, HasNewestRead}
use Rattle.steps.specs.Machine.{WrittenBackRow}
use Rattle.steps.specs.Views.{state_of}
use Rattle.steps.proofs.Rows.{same_parts}

none_behind : (b : Bool) (n k : ℕ) (e : Entry) (rest : List (ℕ × Entry)) →
    calls_of (map (λ x. x.1) (cond b ((k, e) ∷ filter (λ x. x.0 == n) rest)
    (filter (λ x. x.0 == n) rest))) ≡ [] → HasNoCall n rest
none_behind true n k (Asked x) rest none = cc
none_behind true n k (Deferred at c) rest none = none
none_behind false n k e rest none = none

-- A call of the number is among the entries.
has_call : (n : ℕ) (before after : List (ℕ × Entry)) (x : Event) →
    HasNoCall n (before ++ (n, Asked x) ∷ after) → ⊥
has_call n [] after x none =
    let mine : filter (λ (e : ℕ × Entry). e.0 == n) ((n, Asked x) ∷ after) ≡ (n, Asked x) ∷
    filter (λ e. e.0 == n) after = rw (eq-eqb n n refl) refl in
    let there : calls_of (own n ((n, Asked x) ∷ after)) ≡ x ∷ calls_of (own n after) =
    ap (λ l. calls_of (map (λ e. e.1) l)) mine in
    cc
has_call n (b ∷ before) after x none =
    has_call n before after x (none_behind (b.0 == n) n b.0 b.1 (before ++ (n, Asked x) ∷ after)
    none)

abbrev asked_in : Event → Entry → Event
asked_in x (Asked e) = e
asked_in x (Deferred at c) = x

same_front : (n : ℕ) (b c d e : List (ℕ × Entry)) (x y : Event) →
    b ++ (n, Asked x) ∷ c ≡ d ++ (n, Asked y) ∷ e → HasNoCall n c → HasNoCall n e →
    (x ≡ y) × (b ++ c ≡ d ++ e)
same_front n [] c [] e x y is none also =
    let first : (n, Asked x) ≡ (n, Asked y) = cc in
    let rest : c ≡ e = cc in
    (ap (λ (p : ℕ × Entry). asked_in x p.1) first, rest)
same_front n [] c (k ∷ d) e x y is none also =
    absurd (has_call n d e y (subst (HasNoCall n) (behind is) none))
  where
    behind : (n, Asked x) ∷ c ≡ k ∷ (d ++ (n, Asked y) ∷ e) → c ≡ d ++ (n, Asked y) ∷ e
    behind same = cc
same_front n (k ∷ b) c [] e x y is none also =
    absurd (has_call n b c x (subst (HasNoCall n) (behind is) also))
  where
    behind : k ∷ (b ++ (n, Asked x) ∷ c) ≡ (n, Asked y) ∷ e → e ≡ b ++ (n, Asked x) ∷ c
    behind same = cc
same_front n (k ∷ b) c (l ∷ d) e x y is none also =
    let first : k ≡ l = cc in
    let rest = same_front n b c d e x y (behind is) none also in
    (rest.0, ap (λ v. v ∷ (b ++ c)) first ∙ ap (λ v. l ∷ v) rest.1)
  where
    behind : k ∷ (b ++ (n, Asked x) ∷ c) ≡ l ∷ (d ++ (n, Asked y) ∷ e) →
        b ++ (n, Asked x) ∷ c ≡ d ++ (n, Asked y) ∷ e
    behind same = cc

-- There is one newest call.
pub newest_once : (n : ℕ) (es : List (ℕ × Entry)) (x y : Event) (rest more : List (ℕ × Entry)) →
    IsNewestCall n es x rest → IsNewestCall n es y more → (x ≡ y) × (rest ≡ more)
newest_once n es x y rest more a b =
    let same = same_front n a.before a.after b.before b.after x y (sym a.is ∙ b.is) a.none_newer
    b.none_newer in
    (same.0, a.rest_is ∙ same.1 ∙ sym b.rest_is)

-- What is taken out is the newest call.
popped_rest : (n : ℕ) (es left : List (ℕ × Entry)) (x : Event) (rest : List (ℕ × Entry))
    (taken : Option Logged) → IsNewestCall n es x rest →
    IfSome taken (λ l. IsNewestCall n es (event_of l) left) → IfNone taken (HasNoCall n es) →
    left ≡ rest
popped_rest n es left x rest (Some l) newest found none =
    (newest_once n es (event_of l) x left rest found newest).1
popped_rest n es left x rest None newest found none =
    absurd (has_call n newest.before newest.after x (subst (HasNoCall n) newest.is none))

module _ {S : Type 0} (format : Format) (now : S) (held : List Hold) (log : Log) (wear n : ℕ)
  where
    -- The newest call is undone and taken out.
    pub undone_row : (meaning : Meaning S ℕ) (x : Event) (now' : S) (held' : List Hold)
        (left : List (ℕ × Entry)) (log' : Log) (wear' : ℕ) (taken : Option Logged) →
        Lives log.live n → HasNewestCall n log.entries x →
        Undoes meaning now x.at x.call x.reply now' →
        IfSome taken (λ l. IsNewestCall n log.entries (event_of l) left) →
        IfNone taken (HasNoCall n log.entries) →
        held' ≡ held → log'.live ≡ fallen log.live n → log'.entries ≡ left → wear' ≡ wear + 1 →
        BackRow meaning (state_of format now held log wear) n
        (state_of format now' held' log' wear')
    undone_row meaning x now' held' left log' wear' taken live newest undone found none still falls
        rest worn = record {
          live = live;
          call = x;
          rest = newest.0;
          newest = newest.1;
          next = now';
          undoes = undone;
          is = same_parts format refl falls
              (rest ∙ popped_rest n log.entries left x newest.0 taken newest.1 found none) still
              worn;
        }

    -- The newest call is taken out, which only reads.
    pub unread_row : (left : List (ℕ × Entry)) (log' : Log) (wear' : ℕ) (taken : Option Logged) →
        Lives log.live n → HasNewestRead n log.entries →
        IfSome taken (λ l. IsNewestCall n log.entries (event_of l) left) →
        IfNone taken (HasNoCall n log.entries) →
        log'.live ≡ fallen log.live n → log'.entries ≡ left → wear' ≡ wear →
        UnreadRow (state_of format now held log wear) n (state_of format now held log' wear')
    unread_row left log' wear' taken live (x, kept, newest, only_reads) found none falls rest worn =
        record {
          live = live;
          call = x;
          rest = kept;
          newest = newest;
          only_reads = only_reads;
          is = same_parts format refl falls
              (rest ∙ popped_rest n log.entries left x kept taken newest found none) refl worn;
        }

-- Whether a number has a call is decided.
pub some_or_none : (n : ℕ) (es : List (ℕ × Entry)) → ((HasNoCall n es → ⊥) → ⊥) → HasNoCall n es
some_or_none n es twice = by (calls_of (own n es)) refl
  where
    by : (l : List Event) → calls_of (own n es) ≡ l → HasNoCall n es
    by [] is = is
    by (x ∷ xs) is = absurd (twice (λ none. let no : x ∷ xs ≡ [] = sym is ∙ none in cc))

-- A call is found exactly where there is one.
pub call_there : {X : Type 0} (n : ℕ) (es : List (ℕ × Entry)) (event : X → Event)
    (found : Option X) → IfSome found (λ l. HasNewestCall n es (event l)) →
    IfNone found (HasNoCall n es) → (is_some found ≡ true) ↔ (HasNoCall n es → ⊥)
call_there n es event None there none = (λ some. cc, λ one. absurd (one none))
call_there n es event (Some l) there none = (
  λ some no. has_call n there.1.before there.1.after (event l)
      (subst (HasNoCall n) there.1.is no),
  λ one. refl,
)

-- Where a call is undone there is one.
pub undoes_call : {S : Type 0} (meaning : Meaning S ℕ) (s : State S) (n : ℕ) (t : State S) →
    BackRow meaning s n t → HasNoCall n s.entries → ⊥
undoes_call meaning s n t row none =
    has_call n row.newest.before row.newest.after row.call (subst (HasNoCall n) row.newest.is none)

-- Whether the newest call that was found only reads is whether there is one that does.
pub newest_read_there : {X : Type 0} (n : ℕ) (es : List (ℕ × Entry)) (event : X → Event)
    (found : Option X) → IfSome found (λ l. HasNewestCall n es (event l)) →
    IfNone found (HasNoCall n es) → (result : Bool) →
    MatchOption found (result ≡ false) (λ l. result ≡ reads (event l).call (event l).reply) →
    (result ≡ true) ↔ HasNewestRead n es
newest_read_there n es event None there none result is = (
  λ yes. absurd (true≢false (sym yes ∙ is)),
  λ has. absurd (has_call n has.2.before has.2.after has.0
      (subst (HasNoCall n) has.2.is none)),
)
newest_read_there n es event (Some l) there none result is = (
  λ yes. (event l, there.0, there.1, sym is ∙ yes),
  λ has. is ∙ ap (λ (x : Event). reads x.call x.reply)
      (newest_once n es (event l) has.0 there.0 has.1 there.1 has.2).0 ∙ has.3,
)

-- A newest call that is undone does not only read where none does.
pub written_back : {S : Type 0} (meaning : Meaning S ℕ) (s t : State S) (n : ℕ) →
    (HasNewestRead n s.entries → ⊥) → BackRow meaning s n t → WrittenBackRow meaning s n t
written_back meaning s t n none row = record {
  back = row;
  written = false_from_ne_true (reads row.call.call row.call.reply)
      (λ is. none (row.call, row.rest, row.newest, is));
}
