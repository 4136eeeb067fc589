use Rattle.std.proofs.Common.{sym, subst}
use Rattle.replay.proofs.UndoLemmas.{IsUndoing, undoing_starts, undoes_on, undone}
use Rattle.replay.proofs.undoing.undo_all.Goals as goal

pub loop-number-init : goal.loop-number-init
loop-number-init c = subst (IsUndoing c.args.machine.now c.args.machine.now)
    (sym c.new-records.ensures.items) (undoing_starts c.args.machine.now)

pub loop-number-preserved : goal.loop-number-preserved
loop-number-preserved c =
    let step = c.in_ok-undo_one.ensures in
    undoes_on c.args.machine.now c.loop-number.machine c.undo_one.new.machine
    c.loop-number.records.items c.undo_one.new.records.items c.in-Some.number
    c.loop-number.invariant
    c.in-Some.ensures.found.lives c.in-Some.ensures.found.least step.over step.noted step.undo

pub returns-clause-undo : goal.returns-clause-undo
returns-clause-undo c = undone c.args.machine.now c.loop-number.machine c.loop-number.records.items
    c.loop-number.invariant c.in_default.ensures.none
