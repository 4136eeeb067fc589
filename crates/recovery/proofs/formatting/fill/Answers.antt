use Rattle.std.proofs.Common.{length, ap, ◌∙◌, arith}
use Rattle.recovery.proofs.FormatLemmas.{past_image, shut_then, filled, area_length, both_ok}
use Rattle.recovery.proofs.FormatLemmas.{caused}
use Rattle.recovery.proofs.formatting.fill.Goals as goal

pub returns-in_err-write_at-clause-stop : goal.returns-in_err-write_at-clause-stop
returns-in_err-write_at-clause-stop g c = λ shut.
    (past_image g.D.Disk.may_leave g.D.Disk.moment g.D.Disk.left_since c.args.disk.now
    (g.met.D.Disk.only_now c.args.disk.now) shut
    _ _ (c.write_at.ensures.stop, c.write_at.ensures.time)).since

pub returns-clause-filled : goal.returns-clause-filled
returns-clause-filled g c =
    both_ok c.write_head.result c.write_head.ensures.head c.write_head.ensures.behind
    (filled c.args.version c.args.area _ _ _ _ c.requires
    (ap length c.empty_image.ensures ∙ area_length c.args.version)
    c.in_ok-write_at.ensures.written c.empty_image.ensures)

pub returns-clause-stop : goal.returns-clause-stop
returns-clause-stop g c = λ shut.
    shut_then g.D.Disk.may_leave g.D.Disk.moment g.D.Disk.left_since c.args.disk.now
    c.write_at.new.self c.write_head.new.disk
    (past_image g.D.Disk.may_leave g.D.Disk.moment g.D.Disk.left_since c.args.disk.now
    (g.met.D.Disk.only_now c.args.disk.now) shut
    _ _ (c.write_at.ensures.stop, c.write_at.ensures.time)) c.write_head.ensures.stop

pub returns-clause-cause : goal.returns-clause-cause
returns-clause-cause g c =
    caused (g.D.Disk.fault_count c.args.disk.now) (g.D.Disk.fault_count c.write_at.new.self) _ _
    c.write_head.result (omega (arith, c.write_at.ensures.cause.later)) (λ e. e)
    c.write_head.ensures.cause
