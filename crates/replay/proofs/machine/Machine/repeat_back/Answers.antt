use Rattle.std.proofs.Common.{refl}
use Rattle.steps.proofs.UndoneCall.{undoes_call}
use Rattle.replay.proofs.machine.Machine.repeat_back.Goals.{then-not-is_live-via-then-not-is_live}
use Rattle.replay.proofs.machine.Machine.repeat_back.Goals.{then-not-is_live-via-else-not-is_live+then-not-has_call}
use Rattle.replay.proofs.machine.Machine.repeat_back.Goals as goal

pub returns-then-not-is_live : goal.returns-then-not-is_live
returns-then-not-is_live g c = (
  refl,
  λ v row. elim c.then-not-is_live.branch [
    | then-not-is_live-via-then-not-is_live w ↦ let live = c.is_live.ensures.1 row.live in
        let not_live = w.if-not-is_live.true in cc
    | then-not-is_live-via-else-not-is_live+then-not-has_call w ↦
        let there = w.has_call.ensures.some.1
        (undoes_call g.B.Boosted.meaning c.args.self.now c.args.number v row) in let none =
        w.if-not-has_call.true in cc
  ],
)
