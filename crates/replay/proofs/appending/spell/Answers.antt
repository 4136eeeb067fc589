use Rattle.std.proofs.Common.{arith}
use Rattle.replay.proofs.AppendLemmas.{spells_on}
use Rattle.replay.proofs.appending.spell.Goals as goal

pub loop-i-preserved : goal.loop-i-preserved
loop-i-preserved c =
    let step = c.encode-spelled in
    spells_on c.args.group.now c.args.bytes.now.items c.loop-i.bytes.items step.new.out.items _ _ _
    _ c.loop-i.i c.index-group-i.result step.result c.loop-i.invariant
    (omega (arith, c.loop-i-test.true)) c.index-group-i.is c.requires.undo
    (omega (arith, c.loop-i.bytes.ok.0)) (omega (arith, c.requires.room, c.args.bytes.now.ok.0))
    step.ensures.ok step.ensures.full step.ensures.capacity
