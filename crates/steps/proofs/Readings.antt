-- Calls that only read leave the content, so they are steps of the machine but for the wear, and
-- what a journal tells of a state settles where the state does.
use Rattle.std.proofs.Common.{◌≡◌, ℕ, ◌+◌, ◌≤◌, Bool, true, false, not, cond, Option}
use Rattle.std.proofs.Common.{MatchOption, List, [], ◌∷◌, ◌++◌, map, refl, sym, ◌∙◌, ap, subst}
use Rattle.std.proofs.Common.{arith}
use Rattle.std.specs.List.{filter}
use Rattle.calls.specs.declared.format.Format.{Format}
use Rattle.calls.specs.declared.call.Call.{Call}
use Rattle.calls.specs.declared.reply.Reply.{Reply}
use Rattle.calls.specs.Reads.{reads, is_journalled}
use Rattle.calls.specs.Transactions.{Event, Entry, Asked, Deferred, Leads, Act, Asks, calls_of}
use Rattle.calls.proofs.Readings.{read_mode, read_inverse, read_leaves}
use Rattle.boosted.specs.Meaning as shape
use Rattle.boosted.specs.Meaning.{Meaning}
use Rattle.boosted.proofs.Each.{each_filter}
use Rattle.catalog.specs.Making.{Making}
use Rattle.records.specs.declared.record.Record.{Record}
use Rattle.records.specs.Records.{record_of_call}
use Rattle.steps.specs.Machine.{State, Does, IsSettled, CallRow, BackRow, ReadRow, UnreadRow}
use Rattle.steps.specs.Machine.{journalled_entries, journalled}
use Rattle.steps.specs.Machines.{IsAskedEntry, IsUpheld}
use Rattle.steps.specs.Sound.{owned, all_owned, IsSound}
use Rattle.steps.specs.Theory.Rules.{RuleLaws}
use Rattle.steps.specs.Theory.Journal as journal
use Rattle.steps.specs.Theory.Collections.{collection_rules, later_of}
use Rattle.steps.proofs.Theory.Fewer.{fewer_sound}
use Rattle.steps.proofs.BookLaws.{BookLaws}
use Rattle.steps.proofs.InvariantRows.{call_upheld, back_upheld}
use Rattle.steps.proofs.Journalled.{filter_length, own_fewer, calls_journalled, filter_map}
use Rattle.steps.proofs.RecordRuns.{IsPlayed, one_step, Tells}
use Rattle.steps.proofs.Steps as steps

abbrev is_written : Event → Bool
is_written e = not (reads e.call e.reply)

-- the entries that the theory's journal tells of
abbrev is_told : journal.Entry (ℕ × Event) → Bool
is_told (journal.Asked a) = not (reads a.1.call a.1.reply)
is_told (journal.Deferred d) = true

owned_if : (b : Bool) (e : ℕ × Entry) (us : List (ℕ × Entry)) →
    cond b (owned e.0 e.1 ∷ all_owned us) (all_owned us) ≡ all_owned (cond b (e ∷ us) us)
owned_if true e us = refl
owned_if false e us = refl

owned_journalled : (es : List (ℕ × Entry)) →
    filter is_told (all_owned es) ≡ all_owned (journalled_entries es)
owned_journalled [] = refl
owned_journalled ((n, Asked e) ∷ es) =
    ap (λ l. cond (is_written e) (owned n (Asked e) ∷ l) l) (owned_journalled es) ∙
    owned_if (is_written e) (n, Asked e) (journalled_entries es)
owned_journalled ((n, Deferred at c) ∷ es) =
    ap (λ l. owned n (Deferred at c) ∷ l) (owned_journalled es)

untold_reads : (b : Bool) → not b ≡ false → b ≡ true
untold_reads true is = refl
untold_reads false is = sym is

module _ {S : Type 0} (meaning : Meaning S ℕ) (making : Making S)
    (laws : RuleLaws (collection_rules meaning making)) where
  -- a call that only reads leaves the content
  pub read_same : (s t : S) (e : Event) → reads e.call e.reply ≡ true → Does meaning s e t → s ≡ t
  read_same s t e is does = laws.reads_same (0, e) s t (read_mode e.call e.reply is) does

  -- Calls lead where they lead without those that only read.
  without_if : (b : Bool) (e : Event) (es : List Event) (s m t : S) →
      (b ≡ true → s ≡ m) → Does meaning s e m → Leads (Does meaning) es m t →
      Leads (Does meaning) (cond (not b) (e ∷ es) es) s t
  without_if true e es s m t same does rest = subst (λ v. Leads (Does meaning) es v t)
      (sym (same refl)) rest
  without_if false e es s m t same does rest = (m, does, rest)

  pub leads_without : (es : List Event) (s t : S) → Leads (Does meaning) es s t →
      Leads (Does meaning) (filter is_written es) s t
  leads_without [] s t w = w
  leads_without (e ∷ es) s t w =
      without_if (reads e.call e.reply) e (filter is_written es) s w.0 t
      (λ is. read_same s w.0 e is w.1) w.1 (leads_without es w.0 t w.2)

  pub journalled_settles : (s : State S) (c : S) → IsSettled meaning s c →
      IsSettled meaning (journalled s) c
  journalled_settles s c settled =
      subst (λ es. Leads (Does meaning) es c s.now)
      (sym (ap calls_of (filter_map (λ (e : ℕ × Entry). e.1) is_journalled s.entries) ∙
      calls_journalled (map (λ e. e.1) s.entries)))
      (leads_without (calls_of (map (λ e. e.1) s.entries)) c s.now settled)

  pub journalled_sound : (s : State S) → IsSound meaning making s →
      IsSound meaning making (journalled s)
  journalled_sound s is =
      let m = is.machine in
      record {
        machine = record {
          now = m.now;
          entries = filter is_told m.entries;
          live = m.live;
          falling = m.falling;
          needs = m.needs;
        };
        shows = record {
          now = is.shows.now;
          entries = ap (filter is_told) is.shows.entries ∙ owned_journalled s.entries;
          live = is.shows.live;
          falling = is.shows.falling;
          needs = is.shows.needs;
        };
        sound = fewer_sound (collection_rules meaning making) is_told
            (λ a untold. ap (map (later_of a)) (read_leaves a.1.call a.1.reply
            (untold_reads (reads a.1.call a.1.reply) untold))) m is.sound;
        content = is.content;
        settled = journalled_settles s is.content is.settled;
      }

  -- what is said of a state does not speak of the wear
  pub sound_worn : (t : State S) (wear : ℕ) → IsSound meaning making (record t { wear = wear }) →
      IsSound meaning making t
  sound_worn t wear is = record {
    machine = is.machine;
    shows = record {
      now = is.shows.now;
      entries = is.shows.entries;
      live = is.shows.live;
      falling = is.shows.falling;
      needs = is.shows.needs;
    };
    sound = is.sound;
    content = is.content;
    settled = is.settled;
  }

  -- ---- steps of the machine but for the wear

  module _ (s t : State S) where
    abbrev worn : State S
    worn = record t { wear = s.wear + 1 }

    pub read_calls : (n : ℕ) (e : Event) → ReadRow meaning s n e t → CallRow meaning s n e worn
    read_calls n e row = record {
      can = row.can;
      room = row.room;
      holds = row.holds;
      is = ap (λ (v : State S). record v { wear = s.wear + 1 }) row.is ∙
          ap (λ now. let v : State S = record {
            now = now;
            live = s.live;
            entries = s.entries ++ (n, Asked e) ∷ [];
            holds = t.holds;
            wear = s.wear + 1;
            format = s.format;
          } in v) (read_same s.now (meaning.leaves s.now e.at e.call e.reply) e row.only_reads
          (row.can.answered, refl));
    }

    pub unread_backs : (n : ℕ) → UnreadRow s n t → BackRow meaning s n worn
    unread_backs n row = record {
      live = row.live;
      call = row.call;
      rest = row.rest;
      newest = row.newest;
      next = s.now;
      undoes = subst (λ (p : Option Call). MatchOption p (s.now ≡ s.now)
          (λ back. (reply : Reply) × shape.Does meaning s.now row.call.at back reply s.now))
          (sym (read_inverse row.call.call row.call.reply row.only_reads)) refl;
      is = ap (λ (v : State S). record v { wear = s.wear + 1 }) row.is;
    }

    pub read_settles : (n : ℕ) (e : Event) (c : S) → IsSound meaning making s →
        ReadRow meaning s n e t → IsSettled meaning s c → IsSettled meaning t c
    read_settles n e c sound row =
        steps.call_settles meaning making laws s sound n e worn c (read_calls n e row)

    pub unread_settles : (n : ℕ) (c : S) → IsSound meaning making s →
        UnreadRow s n t → IsSettled meaning s c → IsSettled meaning t c
    unread_settles n c sound row =
        steps.back_settles meaning making laws s sound n worn c (unread_backs n row)

    -- ---- what they say of transactions

    module _ (es : List (ℕ × Entry)) (sound : IsSound meaning making s) (tells : Tells es s) (d : S)
        (settled : IsSettled meaning s d) where
      played_worn : (acts : List Act) → IsPlayed meaning making laws es acts d worn →
          IsPlayed meaning making laws es acts d t
      played_worn acts is = record {
        sound = sound_worn t (s.wear + 1) is.sound;
        tells = λ n run. is.tells n (record { live = run.live; standing = run.standing });
        content = is.content;
        runs = is.runs;
        settled = is.settled;
      }

      pub one_read : (n : ℕ) (e : Event) → ReadRow meaning s n e t →
          IsPlayed meaning making laws es (Asks n (Asked e) ∷ []) d t
      one_read n e row = played_worn (Asks n (Asked e) ∷ [])
          (one_step meaning making laws es s sound tells d settled
          (record_of_call n e.at e.call e.reply) worn (read_calls n e row))

      pub one_unread : (n : ℕ) → UnreadRow s n t → IsPlayed meaning making laws es [] d t
      one_unread n row = played_worn []
          (one_step meaning making laws es s sound tells d settled (Record.Back n) worn
          (unread_backs n row))

-- ---- what holds of every state

module _ {S : Type 0} (meaning : Meaning S ℕ) (making : Making S) (short : Format → S → Type 0)
    (laws : BookLaws meaning making short) (s : State S) where
  abbrev Upheld : State S → Type 0
  Upheld t = IsUpheld meaning making short (IsSound meaning making) t

  pub journalled_upheld : Upheld s → Upheld (journalled s)
  journalled_upheld up =
      let unworn = up.unworn in
      let fewer = filter_length (λ (e : ℕ × Entry). is_journalled e.1) s.entries in
      record {
        few_live = up.few_live;
        few_calls = λ n. let few = up.few_calls n in let less = own_fewer n s.entries in
            omega arith;
        few_names = up.few_names;
        reached = up.reached;
        unworn = omega arith;
        numbers = up.numbers;
        spells = up.spells;
        asked = each_filter (λ e. IsAskedEntry s.format e.1) (λ (e : ℕ × Entry). is_journalled e.1)
            s.entries
            up.asked;
        holds = journalled_sound meaning making laws.rules s up.holds;
      }

  -- a state that wore less
  less_worn : (t : State S) → meaning.within t.now t.wear → t.wear ≤ s.wear →
      Upheld (record t { wear = s.wear + 1 }) → Upheld t
  less_worn t reached less up =
      let unworn = up.unworn in
      record {
        few_live = up.few_live;
        few_calls = up.few_calls;
        few_names = up.few_names;
        reached = reached;
        unworn = omega arith;
        numbers = up.numbers;
        spells = up.spells;
        asked = up.asked;
        holds = sound_worn meaning making laws.rules t (s.wear + 1) up.holds;
      }

  module _ (up : Upheld s) (t : State S) where
    pub read_upheld : (n : ℕ) (e : Event) → ReadRow meaning s n e t → Upheld t
    read_upheld n e row =
        let wear = ap (λ (v : State S). v.wear) row.is in
        less_worn t (subst (λ v. meaning.within v.now v.wear) (sym row.is) up.reached) (omega arith)
        (call_upheld meaning making short laws s up n e _
        (read_calls meaning making laws.rules s t n e row))

    pub unread_upheld : (n : ℕ) → UnreadRow s n t → Upheld t
    unread_upheld n row =
        let wear = ap (λ (v : State S). v.wear) row.is in
        less_worn t (subst (λ v. meaning.within v.now v.wear) (sym row.is) up.reached) (omega arith)
        (back_upheld meaning making short laws s up n _
        (unread_backs meaning making laws.rules s t n row))
