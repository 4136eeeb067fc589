use Rattle.std.proofs.Common.{◌<◌, length, sym, ◌∙◌, subst, arith}
use Rattle.calls.specs.Transactions.{own}
use Rattle.undo_log.specs.Logs.{Lives}
use Rattle.steps.specs.Machine.{State}
use Rattle.replay.specs.Loading.{HasRoomToHold}
use Rattle.replay.proofs.loader.Loader.can_hold_call.Goals as goal
use Rattle.replay.proofs.loader.Loader.can_hold_call.Goals.{then-has_place, else-has_place}

pub returns-then-can_ask : goal.returns-then-can_ask
returns-then-can_ask g c = elim c.if-has_place.branch [
  | then-has_place w ↦
      let n = c.args.called.now.number in
      let has = c.has_place.ensures.0 w.if-has_place.true in
      let fits = has.2 in
      let place = subst (λ (s : State _). Lives s.live n × (length (own n s.entries) < 1024) ×
      HasRoomToHold s) c.self.view_is (has.0, has.1, omega arith) in
      let ask = w.can_ask.ensures.0 (sym w.value-is ∙ c.if-can_ask.true) in (
        (λ apart. let free = c.is_apart.ensures.0 apart in
            record {
              live = place.0;
              asked = ask.0;
              told = ask.1;
              few = place.1;
              once = free.0;
              clear = free.1;
              room = place.2;
            }),
        (λ can. c.is_apart.ensures.1 (can.once, can.clear)),
      )
  | else-has_place w ↦ (
      let yes = c.if-can_ask.true in let no = w.value-is in absurd (cc)
      )
]
