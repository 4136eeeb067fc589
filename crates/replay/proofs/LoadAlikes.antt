-- What is answered of a record of an image is answered of each state alike.
use Rattle.std.proofs.Common.{ℕ, false, true, Result, Ok, Err, List, [], ◌∷◌, ◌++◌, refl, sym, ◌∙◌}
use Rattle.std.proofs.Common.{subst}
use Rattle.std.specs.Prelude.{Bool}
use Rattle.std.specs.FinMap as maps
use Rattle.calls.specs.declared.reply.Reply.{Reply}
use Rattle.calls.specs.declared.refusal.Refusal.{Refusal}
use Rattle.calls.specs.Transactions.{Asked, Deferred}
use Rattle.abstract_locks.specs.declared.table.Hold.{Hold}
use Rattle.abstract_locks.specs.Holds.{hold}
use Rattle.records.specs.declared.record.Record.{Record}
use Rattle.records.specs.Acts.{event_of}
use Rattle.steps.specs.Machine.{State}
use Rattle.steps.specs.Machines.{Alike, StepAnswers, RepeatAnswers}
use Rattle.replay.specs.Loading.{LiveSteps}
use Rattle.steps.proofs.AlikeStates.{SameHolds, clear_there, added_there, added_same, with_holds}
use Rattle.steps.proofs.AlikeStates.{same_alike, alike_self, alike_trans, alike_is}
use Rattle.boosted.specs.Meaning.{Meaning}
use Rattle.calls.specs.Rules.{need_of}

module _ {S : Type 0} (meaning : Meaning S ℕ) where
  abbrev Takes : State S → Record → State S → Type 0
  Takes s r t = LiveSteps meaning s r t

  -- The step leads from a state with the same needs too, to a state alike.
  taken_there : (s : State S) (hs : List Hold) → SameHolds hs s.holds → (r : Record) (v : State S) →
      Takes (with_holds s hs) r v → (w : State S) × Takes s r w × Alike v w
  taken_there s hs same (Record.Begin n) v row =
      let t : State S = record s { live = maps.insert s.live n false } in (
        t,
        record { number = row.number; above = row.above; few = row.few; is = refl },
        subst (λ x. Alike x t) (sym row.is) (same_alike t hs s.holds same),
      )
  taken_there s hs same (Record.LiveCall c) v row = (
    v,
    record {
      live = row.live;
      asked = row.asked;
      told = row.told;
      few = row.few;
      once = row.once;
      clear = clear_there hs s.holds same c.number c.collection (need_of c.call c.reply) row.clear;
      room = row.room;
      holds = added_there hs s.holds same v.holds
          (hold c.number c.collection (need_of c.call c.reply)) row.holds;
      is = row.is;
    },
    alike_self v,
  )
  taken_there s hs same (Record.LiveLater l) v row = (
    v,
    record {
      live = row.live;
      deferred = row.deferred;
      few = row.few;
      ready = row.ready;
      clear = clear_there hs s.holds same l.number l.collection (need_of l.call Reply.Done)
          row.clear;
      room = row.room;
      holds = added_there hs s.holds same v.holds
          (hold l.number l.collection (need_of l.call Reply.Done)) row.holds;
      is = row.is;
    },
    alike_self v,
  )
  taken_there s hs same other v row = absurd row

  alike_step : (u s v : State S) (r : Record) → Alike u s → Takes u r v →
      (w : State S) × Takes s r w × Alike v w
  alike_step u s v r like step = taken_there s u.holds like.holds r v
      (subst (λ x. Takes x r v) (alike_is u s like) step)

  -- A record leads to one state, but for the order of the needs.
  step_once : (s : State S) (r : Record) (t w : State S) → Takes s r t → Takes s r w → Alike t w
  step_once s (Record.Begin n) t w a b = subst (Alike t) (a.is ∙ sym b.is) (alike_self t)
  step_once s (Record.LiveCall c) t w a b =
      let e = event_of c in
      let called : List Hold → State S =
      λ hs. record {
        now = s.now;
        live = s.live;
        entries = s.entries ++ (c.number, Asked e) ∷ [];
        holds = hs;
        wear = s.wear;
        format = s.format;
      } in
      subst (λ x. Alike x w) (sym a.is) (subst (λ x. Alike (called t.holds) x) (sym b.is)
      (same_alike (called t.holds) t.holds w.holds
      (added_same s.holds t.holds w.holds (hold c.number e.at (need_of e.call e.reply)) a.holds
      b.holds)))
  step_once s (Record.LiveLater l) t w a b =
      let put : List Hold → State S =
      λ hs. record {
        now = s.now;
        live = s.live;
        entries = s.entries ++ (l.number, Deferred l.collection l.call) ∷ [];
        holds = hs;
        wear = s.wear;
        format = s.format;
      } in
      subst (λ x. Alike x w) (sym a.is) (subst (λ x. Alike (put t.holds) x) (sym b.is)
      (same_alike (put t.holds) t.holds w.holds
      (added_same s.holds t.holds w.holds
      (hold l.number l.collection (need_of l.call Reply.Done)) a.holds b.holds)))
  step_once s other t w a b = absurd a

  -- What is answered of a record in this very state is answered of each state alike.
  pub live_answers_alike : (s : State S) (r : Record) (result : Result Bool Refusal) (t : State S) →
      StepAnswers Takes s r result t → RepeatAnswers Takes s r result t
  live_answers_alike s r (Ok true) t step = (
    step,
    λ u v like taken. let there = alike_step u s v r like taken in
        alike_trans v there.0 t there.2 (step_once s r there.0 t there.1 step),
  )
  live_answers_alike s r (Ok false) t stuck = (
    stuck.0,
    λ u v like taken. let there = alike_step u s v r like taken in
        stuck.1 there.0 there.1,
  )
  live_answers_alike s r (Err Refusal.NoMemory) t same = same
  live_answers_alike s r (Err e) t is = absurd is
