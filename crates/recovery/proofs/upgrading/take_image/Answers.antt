use Rattle.std.proofs.Common.{ap, Ok, Err}
use Rattle.std.proofs.lemmas.Result.{err_from_is_err_and, on_ok_weaker}
use Rattle.checkpoint.specs.Keepers.{KeeperState}
use Rattle.checkpoint.specs.Imaging.{bodies_of}
use Rattle.recovery.proofs.CopyLemmas.{some_bodies}
use Rattle.recovery.proofs.FlipLemmas.{has_flipped, begin_unwritten}
use Rattle.recovery.proofs.RefusalLemmas.{fault_alone}
use Rattle.recovery.proofs.UpgradeLemmas.{hold_never, begin_takes, takes_then}
use Rattle.recovery.proofs.upgrading.take_image.Goals as goal

pub returns-in_err-hold-clause-takes : goal.returns-in_err-hold-clause-takes
returns-in_err-hold-clause-takes g c =
    absurd (hold_never g.D.Disk c.args.keeper.now c.requires.fresh
    (record { end = 0; place = 0 }) c.hold.new.self
    c.in_err-hold.field-0.0 c.in_err-hold.ensures.answer)

pub returns-in_err-begin_image-clause-takes : goal.returns-in_err-begin_image-clause-takes
returns-in_err-begin_image-clause-takes g c =
    begin_takes g.D.Disk c.args.keeper.now c.hold.new.self c.begin_image.new.self c.args.image
    c.requires.fresh c.requires.start c.in_ok-hold.ensures.answer.2
    (Err c.in_err-begin_image.field-0.0) c.in_ok-hold.ensures.crash
    c.in_err-begin_image.ensures.crash

pub returns-clause-takes : goal.returns-clause-takes
returns-clause-takes g c =
    takes_then g.D.Disk c.args.keeper.now c.begin_image.new.self c.write_out.new.keeper c.args.image
    (begin_takes g.D.Disk c.args.keeper.now c.hold.new.self c.begin_image.new.self c.args.image
    c.requires.fresh c.requires.start c.in_ok-hold.ensures.answer.2
    (Ok c.in_ok-begin_image.field-0) c.in_ok-hold.ensures.crash
    c.in_ok-begin_image.ensures.crash) c.write_out.ensures.goes

pub returns-clause-ready : goal.returns-clause-ready
returns-clause-ready g c =
    let begun = c.in_ok-begin_image.ensures.answer.2 in
    let stage = ap (λ (k : KeeperState g.row.D.Denot). k.stage) begun.1.2 in
    c.write_out.ensures.ready (record { area = begun.1.0; image = c.args.image })
    (bodies_of c.args.image.blocks.items) stage
    (some_bodies c.args.image.blocks.items c.requires.some)
    (c.in_ok-begin_image.ensures.begun (record { area = begun.1.0; image = c.args.image }) stage)

pub returns-clause-flipped : goal.returns-clause-flipped
returns-clause-flipped g c =
    let begun = c.in_ok-begin_image.ensures.answer.2 in
    let stage = ap (λ (k : KeeperState g.row.D.Denot). k.stage) begun.1.2 in
    on_ok_weaker c.write_out.result
    (has_flipped g.D.Disk c.args.keeper.now c.hold.new.self c.begin_image.new.self c.args.image
    c.in_ok-hold.ensures.answer.2 c.write_out.new.keeper begun.1.0 begun.1.1 begun.1.2)
    (c.write_out.ensures.flipped (record { area = begun.1.0; image = c.args.image }) stage)

pub returns-in_err-begin_image-clause-unwritten : goal.returns-in_err-begin_image-clause-unwritten
returns-in_err-begin_image-clause-unwritten g c =
    let p = err_from_is_err_and c.from_residual-in_err-begin_image.result
    c.from_residual-in_err-begin_image.ensures.1 in
    rw p.1 (λ no_fault. begin_unwritten g.D.Disk c.args.keeper.now c.hold.new.self
    c.begin_image.new.self c.args.image c.in_ok-hold.ensures.answer.2
    c.in_err-begin_image.field-0.0 c.in_err-begin_image.ensures.answer)

pub returns-clause-unwritten : goal.returns-clause-unwritten
returns-clause-unwritten g c =
    fault_alone c.write_out.result _ _ c.write_out.ensures.fault

pub returns-in_err-hold-clause-unwritten : goal.returns-in_err-hold-clause-unwritten
returns-in_err-hold-clause-unwritten g c =
    absurd (hold_never g.D.Disk c.args.keeper.now c.requires.fresh
    (record { end = 0; place = 0 }) c.hold.new.self
    c.in_err-hold.field-0.0 c.in_err-hold.ensures.answer)
