use Rattle.std.proofs.Common.{Ok, Err}
use Rattle.std.proofs.lemmas.Result.{err_from_is_err_and}
use Rattle.engine.proofs.Packed.{froze_there}
use Rattle.world.proofs.GatherSteps.{freeze_answers}
use Rattle.world.proofs.world.World.freeze.Goals as goal

-- what the book froze is frozen
pub hold_frozen-requires : goal.hold_frozen-requires
hold_frozen-requires g c = froze_there (λ v. v) c.self.inside.book c.freeze-frozen.new.self
    c.self.inside.gather c.freeze-frozen.new.gather c.freeze-frozen.result
    c.freeze-frozen.ensures.answer

pub returns-in_err-hold_frozen : goal.returns-in_err-hold_frozen
returns-in_err-hold_frozen g c =
    let p = err_from_is_err_and c.from_residual.result c.from_residual.ensures.1 in
    let e = c.in_err-hold_frozen.field-0.0 in
    rw (← c.self.view_is, p.1, p.2)
    (freeze_answers g.D.Disk _ (g.met.D.Disk.only_now c.self.inside.keeper.disk)
    c.freeze-frozen.result (Err e) c.freeze-frozen.new.self c.freeze-frozen.new.gather
    c.hold_frozen.new.gather c.hold_frozen.new.keeper c.freeze-frozen.ensures.answer
    c.upheld.ensures c.in_err-hold_frozen.ensures.answer c.in_err-hold_frozen.ensures.crash)

pub returns : goal.returns
returns g c =
    rw (← c.self.view_is, c.undoing-self-inside.ensures)
    (freeze_answers g.D.Disk _ (g.met.D.Disk.only_now c.self.inside.keeper.disk)
    c.freeze-frozen.result (Ok tt) c.freeze-frozen.new.self c.freeze-frozen.new.gather
    c.hold_frozen.new.gather c.hold_frozen.new.keeper c.freeze-frozen.ensures.answer
    c.upheld.ensures c.in_ok-hold_frozen.ensures.answer c.in_ok-hold_frozen.ensures.crash)
