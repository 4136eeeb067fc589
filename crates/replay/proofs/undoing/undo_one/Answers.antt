use Rattle.replay.proofs.UndoLemmas.{one_less, takes_on, ends}
use Rattle.replay.proofs.undoing.undo_one.Goals as goal

pub loop-machine-smaller : goal.loop-machine-smaller
loop-machine-smaller c = one_less c.args.number c.loop-machine.machine c.back.new.self
    c.in_ok-back.ensures.ok

pub loop-machine-preserved : goal.loop-machine-preserved
loop-machine-preserved c =
    takes_on c.args.number c.args.machine.now c.loop-machine.machine c.back.new.self
    c.args.records.now.items c.loop-machine.records.items c.push.new.self.items
    c.loop-machine.invariant c.in_ok-back.ensures.ok c.in_ok-push.ensures.items

pub returns-clause-over : goal.returns-clause-over
returns-clause-over c =
    (ends c.args.number c.args.machine.now c.loop-machine.machine c.ended.new.self
    c.args.records.now.items c.loop-machine.records.items c.push-2.new.self.items
    c.loop-machine.invariant c.ended.ensures c.in_ok-push-2.ensures.items).0
