-- What an image keeps of what live transactions asked for.
use Rattle.std.proofs.Common.{◌≡◌, ℕ, zero, suc, ◌+◌, ◌≤◌, ◌==◌, ◌||◌, inl, inr, ⊎_elim, Bool, true}
use Rattle.std.proofs.Common.{false, not, cond, Option, Some, None, List, [], ◌∷◌, ◌++◌, length}
use Rattle.std.proofs.Common.{map, refl, sym, ◌∙◌, ap, subst, arith, eqb-true, eq-eqb}
use Rattle.std.specs.Prelude.{◌↔◌}
use Rattle.std.specs.List.{AllByRecursion, flat_map, filter}
use Rattle.std.specs.FinMap as maps
use Rattle.calls.specs.declared.call.Call.{Call}
use Rattle.calls.specs.declared.reply.Reply.{Reply}
use Rattle.calls.specs.Contents.{Collection, after_at}
use Rattle.catalog.specs.Laws.OneContent.{kind_after}
use Rattle.calls.specs.Rules.{inverse_of}
use Rattle.calls.specs.Reads.{reads}
use Rattle.calls.specs.Transactions.{Event, Entry, Asked, Deferred, Leads, calls_of, own}
use Rattle.undo_log.specs.Logs.{Statuses, Falls}
use Rattle.catalog.specs.Places.{Belongs}
use Rattle.catalog.specs.Laws.ByPlace.{answered_belongs}
use Rattle.records.specs.declared.record.Record.{Record}
use Rattle.records.specs.Records.{call_record}
use Rattle.steps.specs.Machine.{Does, journalled_entries}
use Rattle.images.specs.LiveRecords.{unless_falling, unless_read, live_record}
use Rattle.steps.specs.Sound.{owned, all_owned}
use Rattle.steps.specs.Theory.Rules.{Has}
use Rattle.steps.specs.Theory.Journal as journal
use Rattle.steps.specs.Theory.Images.{member, shown}
use Rattle.steps.proofs.OwnedEntries.{owner}
use Rattle.replay.specs.Lagging.{IsThinned}
use Rattle.catalog.specs.Meaning.{catalog_meaning}

-- ---- the entries that are kept

-- the entry, unless its transaction is falling
abbrev unless_falls : Option Bool → ℕ × Entry → List (ℕ × Entry)
unless_falls (Some true) e = []
unless_falls other e = e ∷ []

abbrev kept_entry : Statuses → ℕ × Entry → List (ℕ × Entry)
kept_entry live (n, Asked e) = (n, Asked e) ∷ []
kept_entry live (n, Deferred at c) = unless_falls (maps.get live n) (n, Deferred at c)

abbrev pub kept : Statuses → List (ℕ × Entry) → List (ℕ × Entry)
kept live es = flat_map (kept_entry live) es

-- the record of an entry
abbrev pub entry_record : ℕ × Entry → Record
entry_record (n, Asked e) = Record.LiveCall
    (call_record n e.at e.call e.reply (inverse_of e.call e.reply))
entry_record (n, Deferred at c) =
    Record.LiveLater (record { number = n; collection = at; call = c })

put_record : (o : Option Bool) (n at : ℕ) (c : Call) (rs : List Record) (us : List (ℕ × Entry)) →
    rs ≡ map entry_record us →
    unless_falling o (Record.LiveLater (record { number = n; collection = at; call = c })) ++ rs ≡
    map entry_record (unless_falls o (n, Deferred at c) ++ us)
put_record (Some true) n at c rs us e = e
put_record (Some false) n at c rs us e =
    ap (λ l. Record.LiveLater (record { number = n; collection = at; call = c }) ∷ l) e
put_record None n at c rs us e =
    ap (λ l. Record.LiveLater (record { number = n; collection = at; call = c }) ∷ l) e

call_record_of : (b : Bool) (live : Statuses) (n : ℕ) (e : Event) (rs : List Record)
    (es : List (ℕ × Entry)) → rs ≡ map entry_record (kept live es) →
    unless_read b (entry_record (n, Asked e)) ++ rs ≡
    map entry_record (kept live (cond (not b) ((n, Asked e) ∷ es) es))
call_record_of true live n e rs es is = is
call_record_of false live n e rs es is = ap (λ l. entry_record (n, Asked e) ∷ l) is

-- The records of an image are those of the entries that are journalled and kept.
pub kept_records : (live : Statuses) (es : List (ℕ × Entry)) →
    flat_map (live_record live) es ≡ map entry_record (kept live (journalled_entries es))
kept_records live [] = refl
kept_records live ((n, Asked e) ∷ es) =
    call_record_of (reads e.call e.reply) live n e (flat_map (live_record live) es)
    (journalled_entries es) (kept_records live es)
kept_records live ((n, Deferred at c) ∷ es) =
    put_record (maps.get live n) n at c (flat_map (live_record live) es)
    (kept live (journalled_entries es)) (kept_records live es)

-- ---- they are some of all

put_each : (P : ℕ × Entry → Type 0) (o : Option Bool) (e : ℕ × Entry) (us : List (ℕ × Entry)) →
    P e → AllByRecursion P us → AllByRecursion P (unless_falls o e ++ us)
put_each P (Some true) e us p all = all
put_each P (Some false) e us p all = (p, all)
put_each P None e us p all = (p, all)

pub kept_each : (P : ℕ × Entry → Type 0) (live : Statuses) (es : List (ℕ × Entry)) →
    AllByRecursion P es → AllByRecursion P (kept live es)
kept_each P live [] all = tt
kept_each P live ((n, Asked e) ∷ es) all = (all.0, kept_each P live es all.1)
kept_each P live ((n, Deferred at c) ∷ es) all =
    put_each P (maps.get live n) (n, Deferred at c) (kept live es) all.0 (kept_each P live es all.1)

put_calls : (o : Option Bool) (n at : ℕ) (c : Call) (us : List (ℕ × Entry)) →
    calls_of (map (λ e. e.1) (unless_falls o (n, Deferred at c) ++ us)) ≡
    calls_of (map (λ e. e.1) us)
put_calls (Some true) n at c us = refl
put_calls (Some false) n at c us = refl
put_calls None n at c us = refl

-- All calls are kept.
pub kept_calls : (live : Statuses) (es : List (ℕ × Entry)) →
    calls_of (map (λ e. e.1) (kept live es)) ≡ calls_of (map (λ e. e.1) es)
kept_calls live [] = refl
kept_calls live ((n, Asked e) ∷ es) = ap (λ l. e ∷ l) (kept_calls live es)
kept_calls live ((n, Deferred at c) ∷ es) =
    put_calls (maps.get live n) n at c (kept live es) ∙ kept_calls live es

put_thinned : (live : Statuses) (o : Option Bool) (n at : ℕ) (c : Call) (us es : List (ℕ × Entry)) →
    maps.get live n ≡ o → IsThinned live us es →
    IsThinned live (unless_falls o (n, Deferred at c) ++ us) ((n, Deferred at c) ∷ es)
put_thinned live (Some true) n at c us es is thin = inl (is, thin)
put_thinned live (Some false) n at c us es is thin = inr (us, refl, thin)
put_thinned live None n at c us es is thin = inr (us, refl, thin)

pub kept_thinned : (live : Statuses) (es : List (ℕ × Entry)) → IsThinned live (kept live es) es
kept_thinned live [] = refl
kept_thinned live ((n, Asked e) ∷ es) = inr (kept live es, refl, kept_thinned live es)
kept_thinned live ((n, Deferred at c) ∷ es) =
    put_thinned live (maps.get live n) n at c (kept live es) es refl (kept_thinned live es)

put_length : (o : Option Bool) (e : ℕ × Entry) (us : List (ℕ × Entry)) →
    length (unless_falls o e ++ us) ≤ length us + 1
put_length (Some true) e us = omega arith
put_length (Some false) e us = omega arith
put_length None e us = omega arith

pub kept_length : (live : Statuses) (es : List (ℕ × Entry)) → length (kept live es) ≤ length es
kept_length live [] = omega arith
kept_length live ((n, Asked e) ∷ es) = let rest = kept_length live es in omega arith
kept_length live ((n, Deferred at c) ∷ es) = let rest = kept_length live es in
    let one = put_length (maps.get live n) (n, Deferred at c) (kept live es) in omega arith

-- one entry before others
own_both : (b : Bool) (x : ℕ × Entry) (us vs : List (ℕ × Entry)) →
    length (map (λ e. e.1) us) ≤ length (map (λ e. e.1) vs) →
    length (map (λ e. e.1) (cond b (x ∷ us) us)) ≤ length (map (λ e. e.1) (cond b (x ∷ vs) vs))
own_both true x us vs le = omega (arith, le)
own_both false x us vs le = le

own_put : (n : ℕ) (o : Option Bool) (x : ℕ × Entry) (us es : List (ℕ × Entry)) →
    length (own n us) ≤ length (own n es) →
    length (own n (unless_falls o x ++ us)) ≤ length (own n (x ∷ es))
own_put n (Some true) x us es le = own_skip (x.0 == n)
  where
    own_skip : (b : Bool) → length (map (λ e. e.1) (filter (λ e. e.0 == n) us)) ≤ length
        (map (λ e. e.1) (cond b (x ∷ filter (λ e. e.0 == n) es) (filter (λ e. e.0 == n) es)))
    own_skip true = omega (arith, le)
    own_skip false = le
own_put n (Some false) x us es le =
    own_both (x.0 == n) x (filter (λ e. e.0 == n) us) (filter (λ e. e.0 == n) es) le
own_put n None x us es le = own_both (x.0 == n) x (filter (λ e. e.0 == n) us)
    (filter (λ e. e.0 == n) es) le

pub kept_own : (n : ℕ) (live : Statuses) (es : List (ℕ × Entry)) →
    length (own n (kept live es)) ≤ length (own n es)
kept_own n live [] = omega arith
kept_own n live ((k, Asked e) ∷ es) =
    own_both (k == n) (k, Asked e) (filter (λ e. e.0 == n) (kept live es))
    (filter (λ e. e.0 == n) es) (kept_own n live es)
kept_own n live ((k, Deferred at c) ∷ es) =
    own_put n (maps.get live k) (k, Deferred at c) (kept live es) es (kept_own n live es)

own_longer : (n : ℕ) (b : Bool) (x : ℕ × Entry) (us vs : List (ℕ × Entry)) →
    length (map (λ e. e.1) us) + 1 ≤ length (map (λ e. e.1) vs) →
    length (map (λ e. e.1) (cond b (x ∷ us) us)) + 1 ≤ length (map (λ e. e.1) (cond b (x ∷ vs) vs))
own_longer n true x us vs le = omega (arith, le)
own_longer n false x us vs le = le

-- An entry of a number among others is one more of it.
pub own_among : (n : ℕ) (e : Entry) (xs ys : List (ℕ × Entry)) →
    length (own n xs) + 1 ≤ length (own n (xs ++ (n, e) ∷ ys))
own_among n e [] ys =
    subst (λ b. 1 ≤ length (map (λ (e : ℕ × Entry). e.1)
    (cond b ((n, e) ∷ filter (λ e. e.0 == n) ys) (filter (λ e. e.0 == n) ys))))
    (sym (eq-eqb n n refl)) (omega arith)
own_among n e (x ∷ xs) ys = own_longer n (x.0 == n) x (filter (λ e. e.0 == n) xs)
    (filter (λ e. e.0 == n) (xs ++ (n, e) ∷ ys)) (own_among n e xs ys)

-- ---- as the theory's image has them

member_by : (m n : ℕ) (ms : List ℕ) (b : Bool) → (m == n) ≡ b → (member ms n ≡ true → Has ms n) →
    (b || member ms n) ≡ true → Has (m ∷ ms) n
member_by m n ms true is rest h = inl (eqb-true m n is)
member_by m n ms false is rest h = inr (rest h)

member_has : (ms : List ℕ) (n : ℕ) → member ms n ≡ true → Has ms n
member_has [] n h = absurd (cc)
member_has (m ∷ ms) n h = member_by m n ms (m == n) refl (member_has ms n) h

or_true : (b c : Bool) → c ≡ true → (b || c) ≡ true
or_true true c h = refl
or_true false c h = h

has_member : (ms : List ℕ) (n : ℕ) → Has ms n → member ms n ≡ true
has_member [] n h = absurd h
has_member (m ∷ ms) n h = ⊎_elim (λ (same : m ≡ n). ap (λ b. b || member ms n) (eq-eqb m n same))
    (λ (more : Has ms n). or_true (m == n) (member ms n) (has_member ms n more)) h

put_shown : (o : Option Bool) (b : Bool) (n at : ℕ) (c : Call)
    (ms : List (journal.Entry (ℕ × Event))) (us : List (ℕ × Entry)) → (b ≡ true → o ≡ Some true) →
    (o ≡ Some true → b ≡ true) → ms ≡ all_owned us →
    cond (not b) (owned n (Deferred at c) ∷ ms) ms ≡
    all_owned (unless_falls o (n, Deferred at c) ++ us)
put_shown (Some true) true n at c ms us to from e = e
put_shown (Some true) false n at c ms us to from e = absurd (let no_more = from refl in cc)
put_shown (Some false) true n at c ms us to from e = absurd (let no_more = to refl in cc)
put_shown (Some false) false n at c ms us to from e = ap (λ l. owned n (Deferred at c) ∷ l) e
put_shown None true n at c ms us to from e = absurd (let no_more = to refl in cc)
put_shown None false n at c ms us to from e = ap (λ l. owned n (Deferred at c) ∷ l) e

pub kept_shown : (live : Statuses) (hidden : List ℕ) → ((n : ℕ) → Has hidden n ↔ Falls live n) →
    (es : List (ℕ × Entry)) → shown owner hidden (all_owned es) ≡ all_owned (kept live es)
kept_shown live hidden falls [] = refl
kept_shown live hidden falls ((n, Asked e) ∷ es) =
    ap (λ l. owned n (Asked e) ∷ l) (kept_shown live hidden falls es)
kept_shown live hidden falls ((n, Deferred at c) ∷ es) =
    put_shown (maps.get live n) (member hidden n) n at c (shown owner hidden (all_owned es))
    (kept live es) (λ h. (falls n).0 (member_has hidden n h))
    (λ h. has_member hidden n ((falls n).1 h)) (kept_shown live hidden falls es)

-- ---- calls that were made belong where they were made

belongs_after : (d : Call) (q : Reply) (s : List Collection) (i at : ℕ) (c : Call) →
    Belongs s at c → Belongs (after_at s i d q) at c
belongs_after d q [] i at c b = absurd b
belongs_after d q (x ∷ xs) zero zero c b = b ∙ sym (kind_after x.content d q)
belongs_after d q (x ∷ xs) zero (suc at) c b = b
belongs_after d q (x ∷ xs) (suc i) zero c b = b
belongs_after d q (x ∷ xs) (suc i) (suc at) c b = belongs_after d q xs i at c b

belongs_still : (es : List Event) (s t : List Collection) (at : ℕ) (c : Call) →
    Leads (Does catalog_meaning) es s t → Belongs s at c → Belongs t at c
belongs_still [] s t at c run b = subst (λ v. Belongs v at c) run b
belongs_still (e ∷ es) s t at c run b =
    belongs_still es run.0 t at c run.2
    (subst (λ v. Belongs v at c) (sym run.1.1) (belongs_after e.call e.reply s e.at at c b))

-- a call that was made belongs at its place
abbrev pub Placed : List Collection → Entry → Type 0
Placed now (Asked e) = Belongs now e.at e.call
Placed now (Deferred at c) = Unit {0}

pub all_placed : (es : List (ℕ × Entry)) (s t : List Collection) →
    Leads (Does catalog_meaning) (calls_of (map (λ e. e.1) es)) s t →
    AllByRecursion (λ e. Placed t e.1) es
all_placed [] s t run = tt
all_placed ((n, Asked e) ∷ es) s t run = (
  belongs_still (e ∷ calls_of (map (λ e. e.1) es)) s t e.at e.call run
      (answered_belongs s e.at e.call e.reply run.1.0),
  all_placed es run.0 t run.2,
)
all_placed ((n, Deferred at c) ∷ es) s t run = (tt, all_placed es s t run)
