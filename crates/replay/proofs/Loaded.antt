-- What holds of every state that an image tells of, and the machine that it becomes.
use Rattle.std.proofs.Common.{◌≡◌, ℕ, ◌+◌, ◌<◌, ◌≤◌, ◌^◌, ◌⊎◌, inr, ⊎_elim, is_some}
use Rattle.std.proofs.Common.{Bool, true, false, Result, Ok, Err, List, [], ◌∷◌, ◌++◌, length, map}
use Rattle.std.proofs.Common.{refl, sym, ◌∙◌, ap, subst, arith, append-nil, append_assoc}
use Rattle.std.specs.Prelude.{IsTrue, IfOk, OnErr}
use Rattle.std.specs.List.{AllByRecursion}
use Rattle.std.specs.FinMap as maps
use Rattle.std.specs.Ordering.{nat_cmp}
use Rattle.std.proofs.lemmas.List.{map-append}
use Rattle.calls.specs.declared.format.Format.{Format}
use Rattle.calls.specs.declared.kind.Kind.{Kind}
use Rattle.calls.specs.declared.call.Call.{Call}
use Rattle.calls.specs.declared.reply.Reply.{Reply}
use Rattle.calls.specs.declared.item.Item.{Item}
use Rattle.calls.specs.declared.refusal.Refusal.{Refusal}
use Rattle.calls.specs.Contents.{Collection}
use Rattle.calls.specs.Rules.{Askable, Pairs, need_of}
use Rattle.calls.specs.Transactions.{Event, Entry, Asked, Deferred, Leads, calls_of}
use Rattle.abstract_locks.specs.declared.table.Hold.{Hold}
use Rattle.abstract_locks.specs.Holds.{IsAdded}
use Rattle.undo_log.specs.Logs.{Log, Lives, Falls}
use Rattle.catalog.specs.Making.{IsNew, Making}
use Rattle.catalog.specs.Holdings.{AreItems, Loads}
use Rattle.boosted.specs.Meaning as shape
use Rattle.boosted.proofs.Each.{weaker, each_append}
use Rattle.records.specs.declared.record.Record.{Record}
use Rattle.records.specs.Acts.{event_of}
use Rattle.records.specs.Images.{owned_entries}
use Rattle.records.specs.Records.{IsNumber}
use Rattle.records.specs.Reached.{IsReached}
use Rattle.records.specs.Short.{IsShortItem}
use Rattle.records.proofs.Items.{within_loaded}
use Rattle.steps.specs.Machine.{State, IsSettled}
use Rattle.steps.specs.Machines.{resting, IsAskedEntry, IsUpheld}
use Rattle.replay.specs.Loading.{StandRow, HeldCallRow, HeldLaterRow, HeldRow, IsPaired, LiveSteps}
use Rattle.replay.specs.Loading.{HasRoomBack}
use Rattle.steps.specs.Sound.{owned, all_owned, Shows, IsSound, IsLoaded}
use Rattle.steps.specs.Views.{state_of}
use Rattle.steps.specs.Theory.Rules.{Rules, RuleLaws, Has, Lacks}
use Rattle.steps.specs.Theory.Journal as journal
use Rattle.steps.specs.Theory.Machine as theory
use Rattle.steps.specs.Theory.Loads as loads
use Rattle.steps.specs.Theory.Collections.{collection_rules}
use Rattle.steps.proofs.Theory.Lists.{each_map}
use Rattle.steps.proofs.Theory.Loading.{load_sound}
use Rattle.steps.proofs.Theory.Undo.{nothing}
use Rattle.steps.proofs.LiveNumbers.{nobody, lives_more, falls_fresh}
use Rattle.steps.proofs.OwnedEntries.{owner, left, calls_are}
use Rattle.steps.proofs.LeftCalls.{left_once}
use Rattle.steps.proofs.TheoryRows.{live_begun, falling_begun, needs_more, clear_here}
use Rattle.steps.proofs.BookLaws.{BookLaws}
use Rattle.replay.proofs.LoadRows.{read_names}
use Rattle.steps.proofs.Steps as steps
use Rattle.steps.proofs.Sizes.{len_begun, own_pushed, pushed_length}
use Rattle.boosted.specs.Meaning.{Meaning}
use Rattle.records.specs.Told as records

-- ---- the theory's machine

module _ {S : Type 0} (meaning : Meaning S ℕ) (making : Making S)
    (laws : RuleLaws (collection_rules meaning making)) where
  abbrev rules : Rules S (ℕ × Event) (List ℕ × Kind) Hold
  rules = collection_rules meaning making

  abbrev pub Loaded : State S → Type 0
  Loaded s = IsLoaded meaning making s

  pub resting_loaded : (format : Format) (now : S) (wear : ℕ) → Loaded (resting format now wear)
  resting_loaded format now wear =
      let opened = steps.opened_sound meaning making laws format now wear in
      record { machine = opened.machine; shows = opened.shows; sound = opened.sound }

  module _ (s : State S) (loaded : Loaded s) where
    abbrev m : theory.State S (ℕ × Event) Hold
    m = loaded.machine

    abbrev shows : Shows s m
    shows = loaded.shows

    each_live : (es : List (ℕ × Entry)) →
        AllByRecursion (λ e. Has m.live (owner (journal.event e))) (all_owned es) →
        AllByRecursion (λ e. Lives s.live e.0) es
    each_live [] a = tt
    each_live ((n, Asked x) ∷ es) a = ((shows.live n).0 a.0, each_live es a.1)
    each_live ((n, Deferred at c) ∷ es) a = ((shows.live n).0 a.0, each_live es a.1)

    -- Where no transaction is live, nothing is asked for.
    none_asked : s.live ≡ maps.empty → s.entries ≡ []
    none_asked empty =
        nothing s.entries (weaker (λ e. Lives s.live e.0) (λ e. ⊥)
        (λ e lives. nobody e.0 (subst (λ l. Lives l e.0) empty lives)) s.entries
        (each_live s.entries (subst (AllByRecursion (λ e. Has m.live (owner (journal.event e))))
        shows.entries loaded.sound.alive)))

    -- The collections may be others then.
    pub read_loaded : (next : S) → s.live ≡ maps.empty → Loaded (record s { now = next })
    read_loaded next empty =
        let none : m.entries ≡ [] = shows.entries ∙ ap all_owned (none_asked empty) in
        record {
          machine = record {
            now = next;
            entries = m.entries;
            live = m.live;
            falling = m.falling;
            needs = m.needs;
          };
          shows = record {
            now = refl;
            entries = shows.entries;
            live = shows.live;
            falling = shows.falling;
            needs = shows.needs;
          };
          sound = record {
            held = loaded.sound.held;
            alive = loaded.sound.alive;
            apart = loaded.sound.apart;
            asked = loaded.sound.asked;
            put = subst (λ l. AllByRecursion
                (λ d. rules.deferred d × ((t : S) × rules.does next d t)) (theory.puts l))
                (sym none)
                tt;
            once = loaded.sound.once;
            holders = loaded.sound.holders;
            fallers = loaded.sound.fallers;
          };
        }

    -- a number that is above those that are live is none of them
    pub stand_fresh : (n : ℕ) → ((k : ℕ) → Lives s.live k → k < n) → Lives s.live n → ⊥
    stand_fresh n above lives = let below = above n lives in absurd (omega arith)

    pub stand_loaded : (n : ℕ) (t : State S) → StandRow s n t → Loaded t
    stand_loaded n t row = subst Loaded (sym row.is) (record {
      machine = record {
        now = m.now;
        entries = m.entries;
        live = n ∷ m.live;
        falling = m.falling;
        needs = m.needs;
      };
      shows = record {
        now = shows.now;
        entries = shows.entries;
        live = live_begun s m shows n;
        falling = falling_begun s m shows n (stand_fresh n row.above);
        needs = shows.needs;
      };
      sound = record {
        held = loaded.sound.held;
        alive = weaker (λ e. Has m.live (rules.owner (journal.event e)))
            (λ e. Has (n ∷ m.live) (rules.owner (journal.event e))) (λ e h. inr h) m.entries
            loaded.sound.alive;
        apart = loaded.sound.apart;
        asked = loaded.sound.asked;
        put = loaded.sound.put;
        once = loaded.sound.once;
        holders = weaker (λ k. Has m.live (rules.holder k)) (λ k. Has (n ∷ m.live) (rules.holder k))
            (λ k h. inr h) m.needs loaded.sound.holders;
        fallers = weaker (Has m.live) (Has (n ∷ m.live)) (λ k h. inr h) m.falling
            loaded.sound.fallers;
      };
    })

    module _ where
      abbrev with_entry : journal.Entry (ℕ × Event) → theory.State S (ℕ × Event) Hold
      with_entry l = record {
        now = m.now;
        entries = m.entries ++ l ∷ [];
        live = m.live;
        falling = m.falling;
        needs = m.needs ++ rules.need (journal.event l) ∷ [];
      }

      -- an entry more
      entry_loaded : (n : ℕ) (x : Entry) (t : State S) →
          t ≡ record s { entries = s.entries ++ (n, x) ∷ []; holds = t.holds } →
          IsAdded s.holds t.holds (rules.need (journal.event (owned n x))) →
          loads.LoadRow rules m (owned n x) (with_entry (owned n x)) → Loaded t
      entry_loaded n x t is holds step = subst Loaded (sym is) (record {
        machine = with_entry (owned n x);
        shows = record {
          now = shows.now;
          entries = ap (λ l. l ++ owned n x ∷ []) shows.entries ∙
              sym (map-append (λ e. owned e.0 e.1) s.entries ((n, x) ∷ []));
          live = shows.live;
          falling = shows.falling;
          needs = needs_more meaning making s m shows t.holds
              (rules.need (journal.event (owned n x))) holds;
        };
        sound = load_sound laws (owned n x) m (with_entry (owned n x)) loaded.sound step;
      })

      pub call_loaded : (n : ℕ) (e : Event) (t : State S) → HeldCallRow meaning s n e t → Loaded t
      call_loaded n e t row = entry_loaded n (Asked e) t row.is row.holds (record {
        live = (shows.live n).1 row.live;
        clear = clear_here meaning making s m shows n e.at (need_of e.call e.reply) row.clear;
        fits = (
          row.asked.1,
          subst (λ l. AllByRecursion (Lacks (theory.left_of rules n l))
              (left (n, e))) (sym shows.entries) (left_once s.entries n e row.once),
        );
        is = refl;
      })

      pub later_loaded : (n at : ℕ) (call : Call) (t : State S) →
          HeldLaterRow meaning s n at call t → Loaded t
      later_loaded n at call t row = entry_loaded n (Deferred at call) t row.is row.holds (record {
        live = (shows.live n).1 row.live;
        clear = clear_here meaning making s m shows n at (need_of call Reply.Done) row.clear;
        fits = (
          (row.deferred.1, refl),
          (
            meaning.leaves s.now at call Reply.Done,
            subst (λ v. shape.Does meaning v at call Reply.Done
                (meaning.leaves s.now at call Reply.Done)) (sym shows.now) (row.ready, refl),
          ),
        );
        is = refl;
      })

      pub step_loaded : (r : Record) (t : State S) → LiveSteps meaning s r t → Loaded t
      step_loaded (Record.Begin n) t row = stand_loaded n t row
      step_loaded (Record.LiveCall c) t row = call_loaded c.number (event_of c) t row
      step_loaded (Record.LiveLater l) t row = later_loaded l.number l.collection l.call t row
      step_loaded other t row = absurd row

    -- With a content from which the live calls lead to what is there, it is sound.
    pub loaded_settled : (c : S) → IsSettled meaning s c → IsSound meaning making s
    loaded_settled c settled = record {
      machine = m;
      shows = shows;
      sound = loaded.sound;
      content = c;
      settled = settled;
    }

    -- A client can ask for each of the live calls.
    pub calls_asked : AllByRecursion (λ e. Askable e.call) (calls_of (map (λ e. e.1) s.entries))
    calls_asked =
        subst (AllByRecursion (λ e. Askable e.call)) (calls_are s.entries)
        (each_map (λ e. e.1) (λ e. Askable e.call) (journal.calls (all_owned s.entries))
        (subst (λ l. AllByRecursion rules.asked (journal.calls l)) shows.entries
        loaded.sound.asked))

  -- ---- many records

  module _ where
    steps_loaded : (rs : List Record) (s t : State S) → Loaded s →
        Leads (LiveSteps meaning) rs s t → Loaded t
    steps_loaded [] s t loaded w = subst Loaded w loaded
    steps_loaded (r ∷ rs) s t loaded w = steps_loaded rs w.0 t (step_loaded s loaded r w.0 w.1) w.2

    -- What an image tells of is sound, where the live calls lead from some content to what the
    -- collections hold.
    pub loaded_sound : (rs : List Record) (format : Format) (now : S) (wear : ℕ) (s : State S)
        (c : S) →
        Leads (LiveSteps meaning) rs (resting format now wear) s → IsSettled meaning s c →
        IsSound meaning making s
    loaded_sound rs format now wear s c w settled =
        loaded_settled s (steps_loaded rs (resting format now wear) s
        (resting_loaded format now wear) w) c
        settled

-- ---- what the records say

module _ {S : Type 0} (meaning : Meaning S ℕ) where
  abbrev Tells : List Record → State S → State S → Type 0
  Tells rs s t = Leads (LiveSteps meaning) rs s t

  -- What a record changes.
  record Adds (r : Record) (s t : State S) : Type 0 where
    entries : t.entries ≡ s.entries ++ owned_entries (r ∷ [])
    now : t.now ≡ s.now
    wear : t.wear ≡ s.wear
    format : t.format ≡ s.format
    falling : ((n : ℕ) → Falls s.live n → ⊥) → (n : ℕ) → Falls t.live n → ⊥

  adds : (r : Record) (s t : State S) → LiveSteps meaning s r t → Adds r s t
  adds (Record.Begin n) s t row = subst (Adds (Record.Begin n) s) (sym row.is) (record {
    entries = sym (append-nil s.entries);
    now = refl;
    wear = refl;
    format = refl;
    falling = λ none k falls. none k
        ((falls_fresh s.live n (λ lives. let below = row.above n lives in absurd (omega arith)) k).1
        falls);
  })
  adds (Record.LiveCall c) s t row =
      subst (Adds (Record.LiveCall c) s) (sym row.is)
      (record { entries = refl; now = refl; wear = refl; format = refl; falling = λ none. none })
  adds (Record.LiveLater l) s t row =
      subst (Adds (Record.LiveLater l) s) (sym row.is)
      (record { entries = refl; now = refl; wear = refl; format = refl; falling = λ none. none })
  adds other s t row = absurd row

  first_entries : (r : Record) (rs : List Record) →
      owned_entries (r ∷ rs) ≡ owned_entries (r ∷ []) ++ owned_entries rs
  first_entries (Record.LiveCall c) rs = refl
  first_entries (Record.LiveLater l) rs = refl
  first_entries r rs = refl

  entries_told : (rs : List Record) (s t : State S) → Tells rs s t →
      t.entries ≡ s.entries ++ owned_entries rs
  entries_told [] s t w = ap (λ (v : State S). v.entries) (sym w) ∙ sym (append-nil s.entries)
  entries_told (r ∷ rs) s t w =
      entries_told rs w.0 t w.2
      ∙ ap (λ l. l ++ owned_entries rs) (adds r s w.0 w.1).entries
      ∙ append_assoc s.entries (owned_entries (r ∷ [])) (owned_entries rs)
      ∙ ap (λ l. s.entries ++ l) (sym (first_entries r rs))

  now_told : (rs : List Record) (s t : State S) → Tells rs s t →
      (t.now ≡ s.now) × (t.wear ≡ s.wear) × (t.format ≡ s.format)
  now_told [] s t w = (
    ap (λ (v : State S). v.now) (sym w),
    ap (λ (v : State S). v.wear) (sym w),
    ap (λ (v : State S). v.format) (sym w),
  )
  now_told (r ∷ rs) s t w = let rest = now_told rs w.0 t w.2 in let one = adds r s w.0 w.1 in
      (rest.0 ∙ one.now, rest.1 ∙ one.wear, rest.2 ∙ one.format)

  falling_told : (rs : List Record) (s t : State S) → ((n : ℕ) → Falls s.live n → ⊥) →
      Tells rs s t → (n : ℕ) → Falls t.live n → ⊥
  falling_told [] s t none w = subst (λ (v : State S). (n : ℕ) → Falls v.live n → ⊥) w none
  falling_told (r ∷ rs) s t none w = falling_told rs w.0 t ((adds r s w.0 w.1).falling none) w.2

  -- What is asked for is what the records say; the collections, the wear and the format stay; and
  -- no one is falling.
  pub record IsTold (kept : Format) (content : S) (worn : ℕ) (rs : List Record) (s : State S) : Type
      0 where
    pub entries : s.entries ≡ owned_entries rs
    pub now : s.now ≡ content
    pub wear : s.wear ≡ worn
    pub format : s.format ≡ kept
    pub standing : (n : ℕ) → Falls s.live n → ⊥

  pub loaded_entries : (rs : List Record) (format : Format) (now : S) (wear : ℕ) (s : State S) →
      Leads (LiveSteps meaning) rs (resting format now wear) s → IsTold format now wear rs s
  loaded_entries rs format now wear s w =
      let same = now_told rs (resting format now wear) s w in
      record {
        entries = entries_told rs (resting format now wear) s w;
        now = same.0;
        wear = same.1;
        format = same.2;
        standing = falling_told rs (resting format now wear) s
            (λ n falls. nobody n (ap is_some falls)) w;
      }

-- ---- the limits

calls_fewer : (es : List (ℕ × Entry)) → length (calls_of (map (λ e. e.1) es)) ≤ length es
calls_fewer [] = omega arith
calls_fewer ((n, Asked e) ∷ es) = let fewer = calls_fewer es in omega arith
calls_fewer ((n, Deferred at c) ∷ es) = let fewer = calls_fewer es in omega arith

module _ {S : Type 0} (meaning : Meaning S ℕ) (making : Making S)
    (short : Format → S → Type 0) (laws : BookLaws meaning making short) where
  abbrev Told : State S → Type 0
  Told s = IsLoaded meaning making s

  abbrev pub Upheld : State S → Type 0
  Upheld s = IsUpheld meaning making short Told s

  pub resting_told : (format : Format) (now : S) (wear : ℕ) → meaning.within now wear →
      wear ≤ 2 ^ 61 + 65536 →
      length (making.names now) ≤ 256 → short format now → Upheld (resting format now wear)
  resting_told format now wear reached unworn few spells =
      let none = maps.len-empty nat_cmp Bool in
      record {
        few_live = omega arith;
        few_calls = λ n. omega arith;
        few_names = few;
        reached = reached;
        unworn = omega arith;
        numbers = λ n lives. absurd (nobody n lives);
        spells = spells;
        asked = tt;
        holds = resting_loaded meaning making laws.rules format now wear;
      }

  module _ (s : State S) (upheld : Upheld s) where
    pub read_upheld : (next : S) → s.live ≡ maps.empty → length (making.names next) ≤ 256 →
        meaning.within next s.wear → short s.format next → Upheld (record s { now = next })
    read_upheld next empty few reached spells = record {
      few_live = upheld.few_live;
      few_calls = upheld.few_calls;
      few_names = few;
      reached = reached;
      unworn = upheld.unworn;
      numbers = upheld.numbers;
      spells = spells;
      asked = upheld.asked;
      holds = read_loaded meaning making laws.rules s upheld.holds next empty;
    }

    stood_numbers : (n : ℕ) → IsNumber n → (k : ℕ) → Lives (maps.insert s.live n false) k →
        IsNumber k
    stood_numbers n number k lives =
        ⊎_elim (λ (same : n ≡ k). subst IsNumber same number)
        (λ (old : Lives s.live k). upheld.numbers k old) ((lives_more s.live n false k).1 lives)

    pub stand_upheld : (n : ℕ) (t : State S) → StandRow s n t → Upheld t
    stand_upheld n t row =
        let more = len_begun s.live n (stand_fresh meaning making laws.rules s upheld.holds n
        row.above) in
        let few = row.few in
        subst Upheld (sym row.is) (record {
          few_live = omega arith;
          few_calls = upheld.few_calls;
          few_names = upheld.few_names;
          reached = upheld.reached;
          unworn = upheld.unworn;
          numbers = stood_numbers n row.number;
          spells = upheld.spells;
          asked = upheld.asked;
          holds = subst Told row.is (stand_loaded meaning making laws.rules s upheld.holds n t row);
        })

    module _ where
      pub call_upheld : (n : ℕ) (e : Event) (t : State S) → Pairs e.call e.reply →
          HeldCallRow meaning s n e t → Upheld t
      call_upheld n e t pairs row =
          let room = row.room in
          let longer = pushed_length s.entries (n, Asked e) in
          subst Upheld (sym row.is) (record {
            few_live = upheld.few_live;
            few_calls = λ k. own_pushed n k (Asked e) s.entries row.few (upheld.few_calls k);
            few_names = upheld.few_names;
            reached = upheld.reached;
            unworn = omega arith;
            numbers = upheld.numbers;
            spells = upheld.spells;
            asked = each_append (λ e. IsAskedEntry s.format e.1) s.entries ((n, Asked e) ∷ [])
                upheld.asked
                ((row.asked.1, row.asked.2, pairs, row.told), tt);
            holds = subst Told row.is (call_loaded meaning making laws.rules s upheld.holds n e t
                row);
          })

      pub later_upheld : (n at : ℕ) (call : Call) (t : State S) →
          HeldLaterRow meaning s n at call t → Upheld t
      later_upheld n at call t row =
          let room = row.room in
          let longer = pushed_length s.entries (n, Deferred at call) in
          subst Upheld (sym row.is) (record {
            few_live = upheld.few_live;
            few_calls = λ k. own_pushed n k (Deferred at call) s.entries row.few
                (upheld.few_calls k);
            few_names = upheld.few_names;
            reached = upheld.reached;
            unworn = omega arith;
            numbers = upheld.numbers;
            spells = upheld.spells;
            asked = each_append (λ e. IsAskedEntry s.format e.1) s.entries
                ((n, Deferred at call) ∷ [])
                upheld.asked (row.deferred.1, tt);
            holds = subst Told row.is (later_loaded meaning making laws.rules s upheld.holds n
                at call t row);
          })

      pub held_upheld : (n : ℕ) (e : Entry) (t : State S) → IsPaired e → HeldRow meaning s n e t →
          Upheld t
      held_upheld n (Asked e) t pairs row = call_upheld n e t pairs row
      held_upheld n (Deferred at call) t pairs row = later_upheld n at call t row

    -- There is room for taking all live calls back.
    pub room_back : HasRoomBack meaning (calls_of (map (λ e. e.1) s.entries)) s.now
    room_back =
        let fewer = calls_fewer s.entries in
        let unworn = upheld.unworn in
        record {
          asked = calls_asked meaning making laws.rules s upheld.holds;
          wear = s.wear;
          reached = upheld.reached;
          room = omega arith;
        }

    -- With a content from which the live calls lead to what is there, it holds of the state what
    -- holds of a machine's.
    pub settled_upheld : (c : S) → IsSettled meaning s c →
        IsUpheld meaning making short (IsSound meaning making) s
    settled_upheld c settled = record {
      few_live = upheld.few_live;
      few_calls = upheld.few_calls;
      few_names = upheld.few_names;
      reached = upheld.reached;
      unworn = upheld.unworn;
      numbers = upheld.numbers;
      spells = upheld.spells;
      asked = upheld.asked;
      holds = loaded_settled meaning making laws.rules s upheld.holds c settled;
    }

  -- Whatever the collections answered to a reading, it holds of the state still.
  module _ (collections : S → List Collection) (told : records.Tells meaning making collections)
      (short_loads : (f : Format) (s t : S) (name : List ℕ) (kind : Kind) (items : List Item) →
      Loads (collections s) name kind items (collections t) → AllByRecursion (IsShortItem f) items →
      short f s → short f t)
      (format : Format)
      (now : S) (held : List Hold) (log : Log) (wear : ℕ) (name : List ℕ) (kind : Kind)
      (items : List Item) (next : S) where
    as_before : Upheld (state_of format now held log wear) → next ≡ now →
        Upheld (state_of format next held log wear)
    as_before upheld same = subst (λ v. Upheld (state_of format v held log wear)) (sym same) upheld

    pub read_kept : (r : Result Bool Refusal) → Upheld (state_of format now held log wear) →
        log.live ≡ maps.empty → AllByRecursion (IsShortItem format) items →
        AllByRecursion (IsReached wear) items → IfOk r (λ loaded. IsNew (making.names now) name) →
        IfOk r (λ loaded. IsTrue loaded →
        Loads (collections now) name kind items (collections next)) →
        IfOk r (λ loaded. loaded ≡ false → (next ≡ now) × (AreItems kind items → ⊥)) →
        OnErr r (next ≡ now) → Upheld (state_of format next held log wear)
    read_kept (Ok true) upheld empty short_items reached new loads not same =
        read_upheld (state_of format now held log wear) upheld next empty
        (read_names collections meaning making told format now held log wear name kind items next
        new
        (loads refl))
        ((told.within next wear).1 (within_loaded wear (collections now) (collections next) name
        kind items (loads refl) reached ((told.within now wear).0 upheld.reached)))
        (short_loads format now next name kind items (loads refl) short_items upheld.spells)
    read_kept (Ok false) upheld empty short_items reached new loads not same =
        as_before upheld (not refl).0
    read_kept (Err e) upheld empty short_items reached new loads not same = as_before upheld same
