use Rattle.std.proofs.Common.{rules}
use Rattle.world.proofs.Begins.{past_begins}
use Rattle.world.proofs.world.World.new.Goals as goal

pub returns-in-Ok-clause-parts : goal.returns-in-Ok-clause-parts
returns-in-Ok-clause-parts g c = search rules

pub returns-in-Ok-clause-past : goal.returns-in-Ok-clause-past
returns-in-Ok-clause-past g c = λ bytes opened ready. rw (c.new-in-Ok.ensures)
    (past_begins g.D.Disk.seen g.D.Disk.may_leave bytes c.args.book c.args.keeper
    c.in-Ok.transit.blocks.items c.requires c.in-Ok.ensures opened ready)

pub invariant_of-result : goal.invariant_of-result
invariant_of-result g c = search rules
