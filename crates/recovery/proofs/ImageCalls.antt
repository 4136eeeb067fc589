-- What live transactions asked for is read from an image.
use Rattle.std.proofs.Common.{◌≡◌, ℕ, ◌+◌, ◌<◌, ◌≤◌, ◌^◌, ◌==◌, inl, inr, ⊎_elim, List, []}
use Rattle.std.proofs.Common.{◌∷◌, ◌++◌, length, map, refl, sym, ◌∙◌, ap, subst, arith, append-nil}
use Rattle.std.proofs.Common.{append_assoc, eqb-true}
use Rattle.std.specs.Prelude.{Contains}
use Rattle.std.specs.List.{AllByRecursion, filter}
use Rattle.std.proofs.lemmas.List.{map-append, length-append}
use Rattle.std.proofs.lemmas.List.Elements.{All-from_recursion, Contains-push, Contains-push_cases}
use Rattle.std.proofs.lemmas.List.Elements.{Contains-append_left, Contains-append_right}
use Rattle.calls.specs.declared.kind.Kind.{Kind}
use Rattle.calls.specs.declared.call.Call.{Call}
use Rattle.calls.specs.declared.reply.Reply.{Reply}
use Rattle.calls.specs.declared.need.Need.{Need}
use Rattle.calls.specs.Contents.{Collection, AnswersAt}
use Rattle.calls.specs.Rules.{left_by, need_of, Conflict}
use Rattle.calls.specs.Transactions.{Event, Entry, Asked, Deferred, Leads, own}
use Rattle.abstract_locks.specs.declared.table.Hold.{Hold}
use Rattle.abstract_locks.specs.Holds.{hold, Blocks, IsClear, IsAdded}
use Rattle.catalog.specs.Laws.ByPlace.{answered_belongs}
use Rattle.records.specs.declared.record.Record.{Record}
use Rattle.undo_log.specs.LeftCalls.{GoesTwice, IsGoing}
use Rattle.steps.specs.Machines.{IsAskedEntry}
use Rattle.replay.specs.Loading.{HasRoomToHold}
use Rattle.steps.specs.Sound.{owned, all_owned, Shows}
use Rattle.steps.specs.Theory.Rules.{Rules, Has, Lacks}
use Rattle.steps.specs.Theory.Journal as journal
use Rattle.steps.specs.Theory.Machine as theory
use Rattle.steps.specs.Theory.Loads as loads
use Rattle.steps.specs.Theory.Collections.{collection_rules, later_of}
use Rattle.steps.proofs.Theory.Lists.{at, filter_has, has_filter, has_left, has_right}
use Rattle.steps.proofs.OwnedEntries.{owner, left}
use Rattle.steps.proofs.LeftCalls.{contains_has}
use Rattle.steps.proofs.TheoryRows.{needs_more}
use Rattle.replay.specs.Steps.{State}
use Rattle.replay.specs.Reading.{Progress, InCalls, HoldsLive, Reads, ReadsLive}
use Rattle.recovery.proofs.ImageEntries.{entry_record, Placed, own_among}
use Rattle.catalog.specs.Meaning.{catalog_meaning, catalog_making}

abbrev pub rules : Rules (List Collection) (ℕ × Event) (List ℕ × Kind) Hold
rules = collection_rules catalog_meaning catalog_making

abbrev pub Theirs : Type 0
Theirs = theory.State (List Collection) (ℕ × Event) Hold

-- ---- what is contained

module _ {X : Type 0} where
  each_held : (P : X → Type 0) (xs : List X) → ((x : X) → Contains xs x → P x) → AllByRecursion P xs
  each_held P [] held = tt
  each_held P (y ∷ ys) held = (
    held y (Contains-append_left (y ∷ []) ys y (Contains-push [] y)),
    each_held P ys (λ x h. held x (Contains-append_right (y ∷ []) ys x h)),
  )

module _ {X Y : Type 0} (f : X → Y) where
  has_map : (xs : List X) (x : X) → Has xs x → Has (map f xs) (f x)
  has_map [] x h = absurd h
  has_map (y ∷ ys) x h = ⊎_elim (λ (same : y ≡ x). inl (ap f same))
      (λ (k : Has ys x). inr (has_map ys x k)) h

  pub map_has : (xs : List X) (y : Y) → Has (map f xs) y → (x : X) × Has xs x × (f x ≡ y)
  map_has [] y h = absurd h
  map_has (x ∷ xs) y h =
      ⊎_elim
      (λ (same : f x ≡ y). let r : (z : X) × Has (x ∷ xs) z × (f z ≡ y) = (x, inl refl, same) in r)
      (λ (k : Has (map f xs) y). let l = map_has xs y k in
      let r : (z : X) × Has (x ∷ xs) z × (f z ≡ y) = (l.0, inr l.1, l.2) in r)
      h

-- ---- what is going

has_lefts : {E : Type 0} (leaves : E → List E) (xs : List E) (a d : E) → Has xs a →
    Has (leaves a) d → Has (theory.lefts leaves xs) d
has_lefts leaves [] a d h k = absurd h
has_lefts leaves (x ∷ xs) a d h k =
    ⊎_elim
    (λ (same : x ≡ a). has_left (leaves x) (theory.lefts leaves xs) d
    (subst (λ e. Has (leaves e) d) (sym same) k))
    (λ (more : Has xs a). has_right (leaves x) (theory.lefts leaves xs) d
    (has_lefts leaves xs a d more k))
    h

-- an entry that is a call is one of the calls
has_asked : (es : List (ℕ × Entry)) (e : ℕ × Entry) (x : Event) → Has es e → e.1 ≡ Asked x →
    Has (journal.calls (all_owned es)) (e.0, x)
has_asked [] e x h is = absurd h
has_asked ((n, Asked y) ∷ es) e x h is =
    ⊎_elim
    (λ (same : (n, Asked y) ≡ e). let number : n ≡ e.0 = ap (λ (v : ℕ × Entry). v.0) same in
    let entry : Asked y ≡ Asked x = ap (λ (v : ℕ × Entry). v.1) same ∙ is in
    let event : y ≡ x = cc in inl (λ i. (number i, event i)))
    (λ (more : Has es e). inr (has_asked es e x more is))
    h
has_asked ((n, Deferred place c) ∷ es) e x h is =
    ⊎_elim
    (λ (same : (n, Deferred place c) ≡ e). absurd
    (let entry : Deferred place c ≡ Asked x = ap (λ (v : ℕ × Entry). v.1) same ∙ is in cc))
    (λ (more : Has es e). has_asked es e x more is)
    h

-- What is going the theory says is left to a commit.
going_left : (es : List (ℕ × Entry)) (n place : ℕ) (c : Call) → IsGoing es n place c →
    Has (theory.left_of rules n (all_owned es))
    (n, record { at = place; call = c; reply = Reply.Done })
going_left es n place c going =
    let one = map_has (λ (e : ℕ × Entry). e.1) (filter (λ e. e.0 == n) es) (Asked going.0)
    (contains_has (own n es) (Asked going.0) going.1) in
    let mine = filter_has (λ (e : ℕ × Entry). e.0 == n) es one.0 one.1 in
    let call = has_asked es one.0 going.0 mine.0 one.2 in
    let there = has_filter (λ a. owner a == n) (journal.calls (all_owned es)) (one.0.0, going.0)
    call mine.1 in
    let leaves = has_map (later_of (one.0.0, going.0)) (left_by going.0.call going.0.reply) c
    (contains_has (left_by going.0.call going.0.reply) c going.3) in
    let number : one.0.0 ≡ n = eqb-true one.0.0 n mine.1 in
    let calls : List (ℕ × Event) = filter (λ a. owner a == n) (journal.calls (all_owned es)) in
    let same : (one.0.0, record { at = going.0.at; call = c; reply = Reply.Done }) ≡
    (n, record { at = place; call = c; reply = Reply.Done }) = λ i.
    (number i, record { at = going.2 i; call = c; reply = Reply.Done }) in
    subst (Has (theory.left_of rules n (all_owned es))) same
    (has_lefts left calls (one.0.0, going.0)
    (one.0.0, record { at = going.0.at; call = c; reply = Reply.Done }) there leaves)

-- Where the theory says that nothing is left twice, nothing goes twice.
once_left : (es : List (ℕ × Entry)) (n : ℕ) (e : Event) →
    AllByRecursion (Lacks (theory.left_of rules n (all_owned es))) (left (n, e)) →
    GoesTwice es n e → ⊥
once_left es n e once twice =
    at (Lacks (theory.left_of rules n (all_owned es))) (left (n, e)) (later_of (n, e) twice.0) once
    (has_map (later_of (n, e)) (left_by e.call e.reply) twice.0
    (contains_has (left_by e.call e.reply) twice.0 twice.1))
    (going_left es n e.at twice.0 twice.2)

-- ---- one entry

one_added : (holds : List Hold) (added : Hold) → IsAdded holds (holds ++ added ∷ []) added
one_added holds added h = (
  λ held. ⊎_elim (λ (old : Contains holds h). inl old) (λ (same : added ≡ h). inr (sym same))
      (Contains-push_cases holds added h held),
  λ either. ⊎_elim (λ (old : Contains holds h). Contains-append_left holds (added ∷ []) h old)
      (λ (same : h ≡ added). subst (Contains (holds ++ added ∷ [])) (sym same)
      (Contains-push holds added)) either,
)

module _ (u : State) (k : Theirs) (shows : Shows u k) where
  -- no need that another number holds is in the way
  clear_there : (n place : ℕ) (want : Need) →
      AllByRecursion (λ h. (h.owner ≡ n → ⊥) → h.at ≡ place → Conflict h.need want → ⊥) k.needs →
      IsClear u.holds n place want
  clear_there n place want clear =
      All-from_recursion (λ h. Blocks n place want h → ⊥) u.holds
      (each_held (λ h. Blocks n place want h → ⊥) u.holds
      (λ h held blocks. at (λ h. (h.owner ≡ n → ⊥) → h.at ≡ place → Conflict h.need want → ⊥)
      k.needs h clear ((shows.needs h).1 held) blocks.0 blocks.1 blocks.2))

  -- The state with the entry, as the theory has it.
  record IsHeld (e : ℕ × Entry) (l : Theirs) : Type 0 where
    holds : List Hold
    leads : HoldsLive u (entry_record e) (record u { entries = u.entries ++ e ∷ []; holds = holds })
    shows_then : Shows (record u { entries = u.entries ++ e ∷ []; holds = holds }) l

  more_shown : (e : ℕ × Entry) (added : Hold) (l : Theirs) →
      l ≡ record {
        now = k.now;
        entries = k.entries ++ owned e.0 e.1 ∷ [];
        live = k.live;
        falling = k.falling;
        needs = k.needs ++ added ∷ [];
      } →
      Shows (record u { entries = u.entries ++ e ∷ []; holds = u.holds ++ added ∷ [] }) l
  more_shown e added l is = subst
      (Shows (record u { entries = u.entries ++ e ∷ []; holds = u.holds ++ added ∷ [] })) (sym is)
      (record {
        now = shows.now;
        entries = ap (λ l. l ++ owned e.0 e.1 ∷ []) shows.entries ∙
            sym (map-append (λ e. owned e.0 e.1) u.entries (e ∷ []));
        live = shows.live;
        falling = shows.falling;
        needs = needs_more catalog_meaning catalog_making u k shows (u.holds ++ added ∷ []) added
            (one_added u.holds added);
      })

  entry_held : (e : ℕ × Entry) (l : Theirs) → loads.LoadRow rules k (owned e.0 e.1) l →
      IsAskedEntry u.format e.1 → Placed u.now e.1 → length (own e.0 u.entries) < 1024 →
      HasRoomToHold u →
      IsHeld e l
  entry_held (n, Asked x) l row asked placed few room =
      let added = hold n x.at (need_of x.call x.reply) in
      record {
        holds = u.holds ++ added ∷ [];
        leads = record {
          live = (shows.live n).0 row.live;
          asked = (placed, asked.0, asked.1);
          told = asked.3;
          few = few;
          once = once_left u.entries n x (subst
              (λ l. AllByRecursion (Lacks (theory.left_of rules n l)) (left (n, x))) shows.entries
              row.fits.1);
          clear = clear_there n x.at (need_of x.call x.reply) row.clear;
          room = room;
          holds = one_added u.holds added;
          is = refl;
        };
        shows_then = more_shown (n, Asked x) added l row.is;
      }
  entry_held (n, Deferred place c) l row asked placed few room =
      let added = hold n place (need_of c Reply.Done) in
      let ready : AnswersAt u.now place c Reply.Done =
      subst (λ v. AnswersAt v place c Reply.Done) shows.now row.fits.1.1.0 in
      record {
        holds = u.holds ++ added ∷ [];
        leads = record {
          live = (shows.live n).0 row.live;
          deferred = (answered_belongs u.now place c Reply.Done ready, asked);
          few = few;
          ready = ready;
          clear = clear_there n place (need_of c Reply.Done) row.clear;
          room = room;
          holds = one_added u.holds added;
          is = refl;
        };
        shows_then = more_shown (n, Deferred place c) added l row.is;
      }

-- ---- all of them

-- what may come behind the numbers that were live
abbrev pub IsLater : Record → Type 0
IsLater (Record.LiveCall c) = Unit {0}
IsLater (Record.LiveLater l) = Unit {0}
IsLater Record.ImageEnd = Unit {0}
IsLater r = ⊥

-- It leads on from there.
abbrev pub AsksAt : (next : ℕ) → State → Progress → Type 0
AsksAt next s p = (r : Record) (q : Progress) → IsLater r → ReadsLive next s r q → Reads p r q

calls_ask : (next : ℕ) (s : State) → AsksAt next s (InCalls next s)
calls_ask next s (Record.LiveCall c) q later live = live
calls_ask next s (Record.LiveLater l) q later live = live
calls_ask next s Record.ImageEnd q later live = live
calls_ask next s r q later live = absurd later

entry_later : (e : ℕ × Entry) → IsLater (entry_record e)
entry_later (n, Asked x) = tt
entry_later (n, Deferred place c) = tt

entry_reads : (next : ℕ) (e : ℕ × Entry) (u v : State) → HoldsLive u (entry_record e) v →
    ReadsLive next u (entry_record e) (InCalls next v)
entry_reads next (n, Asked x) u v holds = (v, holds, refl)
entry_reads next (n, Deferred place c) u v holds = (v, holds, refl)

-- The records of the entries lead to a state with them, which the theory's is.
pub record HasAsked (next : ℕ) (es : List (ℕ × Entry)) (p : Progress) (u : State)
    (l : Theirs) : Type 0 where
  pub there : Progress
  pub state : State
  pub leads : Leads Reads (map entry_record es) p there
  pub asks : AsksAt next state there
  pub shows : Shows state l
  pub now : state.now ≡ u.now
  pub live : state.live ≡ u.live
  pub wear : state.wear ≡ u.wear
  pub format : state.format ≡ u.format
  pub entries : state.entries ≡ u.entries ++ es

abbrev HasRoomFor : State → List (ℕ × Entry) → Type 0
HasRoomFor u es = u.wear + length es ≤ 2 ^ 61 + 65536

room_for_one : (u : State) (e : ℕ × Entry) (es : List (ℕ × Entry)) →
    HasRoomFor u (u.entries ++ e ∷ es) → HasRoomToHold u
room_for_one u e es room = let long = length-append u.entries (e ∷ es) in omega (arith, room, long)

more_asked : (next : ℕ) (e : ℕ × Entry) (es : List (ℕ × Entry)) (p : Progress) (u v : State)
    (l : Theirs) → (v.now ≡ u.now) × (v.live ≡ u.live) × (v.wear ≡ u.wear) ×
    (v.format ≡ u.format) × (v.entries ≡ u.entries ++ e ∷ []) →
    Reads p (entry_record e) (InCalls next v) →
    HasAsked next es (InCalls next v) v l →
    HasAsked next (e ∷ es) p u l
more_asked next e es p u v l is reads rest = record {
  there = rest.there;
  state = rest.state;
  leads = (InCalls next v, reads, rest.leads);
  asks = rest.asks;
  shows = rest.shows;
  now = rest.now ∙ is.0;
  live = rest.live ∙ is.1;
  wear = rest.wear ∙ is.2;
  format = rest.format ∙ is.3;
  entries = rest.entries ∙ ap (λ xs. xs ++ es) is.4 ∙ append_assoc u.entries (e ∷ []) es;
}

pub entries_read : (es : List (ℕ × Entry)) (next : ℕ) (u : State) (p : Progress) (k l : Theirs) →
    AsksAt next u p → Shows u k → loads.Loads rules (all_owned es) k l →
    AllByRecursion (λ e. IsAskedEntry u.format e.1) es → AllByRecursion (λ e. Placed u.now e.1) es →
    ((n : ℕ) → length (own n (u.entries ++ es)) ≤ 1024) → HasRoomFor u (u.entries ++ es) →
    HasAsked next es p u l
entries_read [] next u p k l asks shows w asked placed few room = record {
  there = p;
  state = u;
  leads = refl;
  asks = asks;
  shows = subst (Shows u) w shows;
  now = refl;
  live = refl;
  wear = refl;
  format = refl;
  entries = sym (append-nil u.entries);
}
entries_read (e ∷ es) next u p k l asks shows w asked placed few room =
    let few_now : length (own e.0 u.entries) < 1024 =
    omega (arith, few e.0, own_among e.0 e.1 u.entries es) in
    let one = entry_held u k shows e w.0 w.1 asked.0 placed.0 few_now (room_for_one u e es room) in
    let v : State = record u { entries = u.entries ++ e ∷ []; holds = one.holds } in
    let assoc : (u.entries ++ e ∷ []) ++ es ≡ u.entries ++ e ∷ es =
    append_assoc u.entries (e ∷ []) es in
    let rest = entries_read es next v (InCalls next v) w.0 l (calls_ask next v) one.shows_then w.2
    asked.1 placed.1
    (subst (λ xs. (n : ℕ) → length (own n xs) ≤ 1024) (sym assoc) few)
    (subst (HasRoomFor u) (sym assoc) room) in
    more_asked next e es p u v l (refl, refl, refl, refl, refl)
    (asks (entry_record e) (InCalls next v) (entry_later e) (entry_reads next e u v one.leads))
    rest
