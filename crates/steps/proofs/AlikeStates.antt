-- Steps from states that are alike lead to states that are alike.
use Rattle.std.proofs.Common.{◌≡◌, ℕ, ◌+◌, inl, inr, ⊎_elim, false, true, Result, Ok, Err}
use Rattle.std.proofs.Common.{List, [], ◌∷◌, ◌++◌, length, map, refl, sym, ◌∙◌, ap, subst}
use Rattle.std.specs.Prelude.{◌↔◌, Contains, Bool}
use Rattle.std.specs.FinMap as maps
use Rattle.std.proofs.lemmas.List.Elements.{All-contains, Contains-get_or}
use Rattle.calls.specs.declared.reply.Reply.{Reply}
use Rattle.calls.specs.declared.need.Need.{Need}
use Rattle.calls.specs.declared.refusal.Refusal.{Refusal}
use Rattle.calls.specs.Transactions.{Event, Entry, Asked, Deferred, Leads, calls_of, laters_of, own}
use Rattle.calls.specs.Transactions.{others}
use Rattle.abstract_locks.specs.declared.table.Hold.{Hold}
use Rattle.abstract_locks.specs.Holds.{hold, Blocks, IsClear, IsAdded, IsGivenUp}
use Rattle.undo_log.specs.Logs.{fallen}
use Rattle.records.specs.declared.record.Record.{Record}
use Rattle.records.specs.Acts.{event_of}
use Rattle.steps.specs.Machine.{State, Does, IsRunning, IsLeft, BackRow, Steps}
use Rattle.steps.specs.Machines.{Alike, StepAnswers, RepeatAnswers}
use Rattle.steps.specs.Sound.{IsSound}
use Rattle.steps.specs.Theory.Rules.{RuleLaws}
use Rattle.steps.specs.Theory.Collections.{collection_rules}
use Rattle.steps.proofs.UndoneCall.{newest_once}
use Rattle.steps.proofs.DeferredRuns.{leads_once}
use Rattle.steps.proofs.Steps as steps
use Rattle.boosted.specs.Meaning.{Meaning}
use Rattle.catalog.specs.Making.{Making}
use Rattle.calls.specs.Rules.{need_of}

-- ---- needs in another order

-- The same needs are held.
abbrev pub SameHolds : List Hold → List Hold → Type 0
SameHolds hs ks = (h : Hold) → Contains hs h ↔ Contains ks h

module _ (hs ks : List Hold) (same : SameHolds hs ks) where
  pub clear_there : (n at : ℕ) (need : Need) → IsClear hs n at need → IsClear ks n at need
  clear_there n at need clear k d below =
      All-contains (λ h. Blocks n at need h → ⊥) hs _ clear
      ((same _).1 (Contains-get_or ks k d below))

  pub added_there : (new : List Hold) (added : Hold) → IsAdded hs new added → IsAdded ks new added
  added_there new added more h = (
    λ i. ⊎_elim (λ (k : Contains hs h). inl ((same h).0 k)) (λ (e : h ≡ added). inr e)
        ((more h).0 i),
    λ i. ⊎_elim (λ (k : Contains ks h). (more h).1 (inl ((same h).1 k)))
        (λ (e : h ≡ added). (more h).1 (inr e)) i,
  )

  left_there : (new : List Hold) (n : ℕ) → IsGivenUp hs new n → IsGivenUp ks new n
  left_there new n given h = (
    λ i. let k = (given h).0 i in
        ((same h).0 k.0, k.1),
    λ i. (given h).1 ((same h).1 i.0, i.1),
  )

pub added_same : (old a b : List Hold) (added : Hold) → IsAdded old a added → IsAdded old b added →
    SameHolds a b
added_same old a b added m k h = (λ i. (k h).1 ((m h).0 i), λ i. (m h).1 ((k h).0 i))

left_same : (old a b : List Hold) (n : ℕ) → IsGivenUp old a n → IsGivenUp old b n → SameHolds a b
left_same old a b n m k h = (λ i. (k h).1 ((m h).0 i), λ i. (m h).1 ((k h).0 i))

module _ {S : Type 0} where
  -- the same state with other needs
  abbrev pub with_holds : State S → List Hold → State S
  with_holds s hs = record s { holds = hs }

  pub same_alike : (s : State S) (hs ks : List Hold) → SameHolds hs ks →
      Alike (with_holds s hs) (with_holds s ks)
  same_alike s hs ks same = record {
    now = refl;
    live = refl;
    entries = refl;
    holds = same;
    wear = refl;
    format = refl;
  }

  pub alike_self : (s : State S) → Alike s s
  alike_self s = record {
    now = refl;
    live = refl;
    entries = refl;
    holds = λ h. (λ i. i, λ i. i);
    wear = refl;
    format = refl;
  }

  pub alike_trans : (s t u : State S) → Alike s t → Alike t u → Alike s u
  alike_trans s t u a b = record {
    now = a.now ∙ b.now;
    live = a.live ∙ b.live;
    entries = a.entries ∙ b.entries;
    holds = λ h. (λ i. (b.holds h).0 ((a.holds h).0 i), λ i. (a.holds h).1 ((b.holds h).1 i));
    wear = a.wear ∙ b.wear;
    format = a.format ∙ b.format;
  }

  -- a state alike has the same parts, but for its needs
  pub alike_is : (u s : State S) → Alike u s → u ≡ with_holds s u.holds
  alike_is u s like =
      ap (λ v. let t : State S = record {
        now = v;
        live = u.live;
        entries = u.entries;
        holds = u.holds;
        wear = u.wear;
        format = u.format;
      } in t) like.now
      ∙ ap (λ v. let t : State S = record {
        now = s.now;
        live = v;
        entries = u.entries;
        holds = u.holds;
        wear = u.wear;
        format = u.format;
      } in t) like.live
      ∙ ap (λ v. let t : State S = record {
        now = s.now;
        live = s.live;
        entries = v;
        holds = u.holds;
        wear = u.wear;
        format = u.format;
      } in t) like.entries
      ∙ ap (λ v. let t : State S = record {
        now = s.now;
        live = s.live;
        entries = s.entries;
        holds = u.holds;
        wear = v;
        format = u.format;
      } in t) like.wear
      ∙ ap (λ v. let t : State S = record {
        now = s.now;
        live = s.live;
        entries = s.entries;
        holds = u.holds;
        wear = s.wear;
        format = v;
      } in t) like.format

module _ {S : Type 0} (meaning : Meaning S ℕ) where
  module _ (making : Making S) where
    abbrev Takes : State S → Record → State S → Type 0
    Takes s r t = Steps meaning making s r t

    -- ---- the same step from a state with other needs

    module _ (s : State S) (hs : List Hold) (same : SameHolds hs s.holds) where
      running_there : (n : ℕ) → IsRunning (with_holds s hs) n → IsRunning s n
      running_there n run = record { live = run.live; standing = run.standing }

      out_there : (n : ℕ) (v : State S) → IsLeft (with_holds s hs) n v → IsLeft s n v
      out_there n v left = record {
        holds = left_there hs s.holds same v.holds n left.holds;
        is = left.is;
      }

      -- The step leads from s too, to a state alike.
      taken_there : (r : Record) (v : State S) → Takes (with_holds s hs) r v →
          (w : State S) × Takes s r w × Alike v w
      taken_there (Record.Make kind name) v row =
          let t : State S = record s { now = row.next } in (
            t,
            record { new = row.new; next = row.next; made = row.made; is = refl },
            subst (λ x. Alike x t) (sym row.is) (same_alike t hs s.holds same),
          )
      taken_there (Record.Begin n) v row =
          let t : State S = record s { live = maps.insert s.live n false; wear = s.wear + 1 } in (
            t,
            record {
              can = record {
                number = row.can.number;
                fresh = row.can.fresh;
                few = row.can.few;
              };
              room = row.room;
              is = refl;
            },
            subst (λ x. Alike x t) (sym row.is) (same_alike t hs s.holds same),
          )
      taken_there (Record.Call c) v row = (
        v,
        record {
          can = record {
            running = running_there c.number row.can.running;
            asked = row.can.asked;
            told = row.can.told;
            few = row.can.few;
            answered = row.can.answered;
            once = row.can.once;
            clear = clear_there hs s.holds same c.number c.collection (need_of c.call c.reply)
                row.can.clear;
          };
          room = row.room;
          holds = added_there hs s.holds same v.holds
              (hold c.number c.collection (need_of c.call c.reply)) row.holds;
          is = row.is;
        },
        alike_self v,
      )
      taken_there (Record.Later l) v row = (
        v,
        record {
          can = record {
            running = running_there l.number row.can.running;
            deferred = row.can.deferred;
            few = row.can.few;
            ready = row.can.ready;
            clear = clear_there hs s.holds same l.number l.collection (need_of l.call Reply.Done)
                row.can.clear;
          };
          room = row.room;
          holds = added_there hs s.holds same v.holds
              (hold l.number l.collection (need_of l.call Reply.Done)) row.holds;
          is = row.is;
        },
        alike_self v,
      )
      taken_there (Record.Commit n) v row = (
        v,
        record {
          running = running_there n row.running;
          next = row.next;
          runs = row.runs;
          left = record {
            holds = left_there hs s.holds same v.holds n row.left.holds;
            is = row.left.is;
          };
        },
        alike_self v,
      )
      taken_there (Record.Back n) v row =
          let t : State S = record s {
            now = row.next;
            live = fallen s.live n;
            entries = row.rest;
            wear = s.wear + 1;
          } in (
            t,
            record {
              live = row.live;
              call = row.call;
              rest = row.rest;
              newest = row.newest;
              next = row.next;
              undoes = row.undoes;
              is = refl;
            },
            subst (λ x. Alike x t) (sym row.is) (same_alike t hs s.holds same),
          )
      taken_there (Record.Ended n) v row = (
        v,
        record { live = row.live; undone = row.undone; left = out_there n v row.left },
        alike_self v,
      )
      taken_there other v row = absurd row

    -- What leads from a state alike leads from s too, to a state alike.
    pub alike_step : (u s v : State S) (r : Record) → Alike u s → Takes u r v →
        (w : State S) × Takes s r w × Alike v w
    alike_step u s v r like step = taken_there s u.holds like.holds r v
        (subst (λ x. Takes x r v) (alike_is u s like) step)

    -- ---- one step from one state

    module _ (laws : RuleLaws (collection_rules meaning making)) (s : State S)
        (sound : IsSound meaning making s) where
      same_state : (t w : State S) → t ≡ w → Alike t w
      same_state t w is = subst (Alike t) is (alike_self t)

      out_once : (n : ℕ) (t w : State S) → IsLeft s n t → IsLeft s n w → Alike t w
      out_once n t w a b =
          let out : List Hold → State S =
          λ hs. record {
            now = s.now;
            live = maps.remove s.live n;
            entries = others n s.entries;
            holds = hs;
            wear = s.wear;
            format = s.format;
          } in
          subst (λ x. Alike x w) (sym a.is)
          (subst (λ x. Alike (out t.holds) x) (sym b.is)
          (same_alike (out t.holds) t.holds w.holds
          (left_same s.holds t.holds w.holds n a.holds b.holds)))

      back_once : (n : ℕ) (t w : State S) → BackRow meaning s n t → BackRow meaning s n w → t ≡ w
      back_once n t w a b =
          let rests = (newest_once n s.entries a.call b.call a.rest b.rest a.newest b.newest).1 in
          let first = steps.back_settles meaning making laws s sound n t sound.content a
          sound.settled in
          let second = steps.back_settles meaning making laws s sound n w sound.content b
          sound.settled in
          let calls : List (ℕ × Entry) → List Event = λ es. calls_of (map (λ e. e.1) es) in
          let there : Leads (Does meaning) (calls a.rest) sound.content a.next =
          subst (λ (x : State S). Leads (Does meaning) (calls x.entries) sound.content x.now)
          a.is first in
          let here : Leads (Does meaning) (calls b.rest) sound.content b.next =
          subst (λ (x : State S). Leads (Does meaning) (calls x.entries) sound.content x.now)
          b.is second in
          let nexts : a.next ≡ b.next = leads_once meaning (calls a.rest) sound.content a.next
          b.next there (subst (λ l. Leads (Does meaning) (calls l) sound.content b.next)
          (sym rests) here) in
          a.is
          ∙ ap (λ v. let x : State S = record {
            now = v;
            live = fallen s.live n;
            entries = a.rest;
            holds = s.holds;
            wear = s.wear + 1;
            format = s.format;
          } in x) nexts
          ∙ ap (λ v. let x : State S = record {
            now = b.next;
            live = fallen s.live n;
            entries = v;
            holds = s.holds;
            wear = s.wear + 1;
            format = s.format;
          } in x) rests
          ∙ sym b.is

      -- A record leads to one state, but for the order of the needs.
      pub step_once : (r : Record) (t w : State S) → Takes s r t → Takes s r w → Alike t w
      step_once (Record.Make kind name) t w a b =
          let nexts : a.next ≡ b.next = laws.made_exact (name, kind) s.now a.next b.next a.made
          b.made in
          same_state t w (a.is ∙ ap (λ v. let x : State S = record s { now = v } in x) nexts ∙
          sym b.is)
      step_once (Record.Begin n) t w a b = same_state t w (a.is ∙ sym b.is)
      step_once (Record.Call c) t w a b =
          let e = event_of c in
          let called : List Hold → State S =
          λ hs. record {
            now = meaning.leaves s.now e.at e.call e.reply;
            live = s.live;
            entries = s.entries ++ (c.number, Asked e) ∷ [];
            holds = hs;
            wear = s.wear + 1;
            format = s.format;
          } in
          subst (λ x. Alike x w) (sym a.is) (subst (λ x. Alike (called t.holds) x) (sym b.is)
          (same_alike (called t.holds) t.holds w.holds
          (added_same s.holds t.holds w.holds (hold c.number e.at (need_of e.call e.reply))
          a.holds b.holds)))
      step_once (Record.Later l) t w a b =
          let put : List Hold → State S =
          λ hs. record {
            now = s.now;
            live = s.live;
            entries = s.entries ++ (l.number, Deferred l.collection l.call) ∷ [];
            holds = hs;
            wear = s.wear + 1;
            format = s.format;
          } in
          subst (λ x. Alike x w) (sym a.is) (subst (λ x. Alike (put t.holds) x) (sym b.is)
          (same_alike (put t.holds) t.holds w.holds
          (added_same s.holds t.holds w.holds
          (hold l.number l.collection (need_of l.call Reply.Done)) a.holds b.holds)))
      step_once (Record.Commit n) t w a b =
          let nexts : a.next ≡ b.next = leads_once meaning (laters_of (own n s.entries)) s.now
          a.next b.next a.runs b.runs in
          let out : S → List Hold → State S =
          λ now hs. record {
            now = now;
            live = maps.remove s.live n;
            entries = others n s.entries;
            holds = hs;
            wear = s.wear + length (laters_of (own n s.entries));
            format = s.format;
          } in
          subst (λ x. Alike x w) (sym a.left.is)
          (subst (λ x. Alike (out a.next t.holds) x) (sym b.left.is)
          (subst (λ v. Alike (out a.next t.holds) (out v w.holds)) nexts
          (same_alike (out a.next t.holds) t.holds w.holds
          (left_same s.holds t.holds w.holds n a.left.holds b.left.holds))))
      step_once (Record.Back n) t w a b = same_state t w (back_once n t w a b)
      step_once (Record.Ended n) t w a b = out_once n t w a.left b.left
      step_once other t w a b = absurd a

      -- What is answered of a record in this very state is answered of each state alike.
      pub answers_alike : (r : Record) (result : Result Bool Refusal) (t : State S) →
          StepAnswers Takes s r result t → RepeatAnswers Takes s r result t
      answers_alike r (Ok true) t step = (
        step,
        λ u v like taken. let there = alike_step u s v r like taken in
            alike_trans v there.0 t there.2 (step_once r there.0 t there.1 step),
      )
      answers_alike r (Ok false) t stuck = (
        stuck.0,
        λ u v like taken. let there = alike_step u s v r like taken in
            stuck.1 there.0 there.1,
      )
      answers_alike r (Err Refusal.NoMemory) t same = same
      answers_alike r (Err e) t is = absurd is
