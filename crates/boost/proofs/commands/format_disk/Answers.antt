use Rattle.boost.proofs.EffectLemmas.{formatted, format_leaves}
use Rattle.boost.proofs.commands.format_disk.Goals as goal

pub returns-in-Ok-clause-done : goal.returns-in-Ok-clause-done
returns-in-Ok-clause-done g c =
    formatted g.D.Disk c.args.disk c.args.version c.args.area c.format_as.new.disk
    c.in-Ok.ensures.answer c.in-Ok.ensures.empty c.in-Ok.ensures.durable

pub returns-in-Ok-clause-formatting : goal.returns-in-Ok-clause-formatting
returns-in-Ok-clause-formatting g c =
    let new = c.format_as.new.disk in
    format_leaves g.D.Disk c.args.disk c.args.version c.args.area new c.format_as.result
    (g.met.D.Disk.only_now c.args.disk) c.format_as.ensures.answer c.format_as.ensures.bad_arg
    c.format_as.ensures.empty c.format_as.ensures.durable c.format_as.ensures.stop

pub returns-in-Err-clause-formatting : goal.returns-in-Err-clause-formatting
returns-in-Err-clause-formatting g c =
    let new = c.format_as.new.disk in
    format_leaves g.D.Disk c.args.disk c.args.version c.args.area new c.format_as.result
    (g.met.D.Disk.only_now c.args.disk) c.format_as.ensures.answer c.format_as.ensures.bad_arg
    c.format_as.ensures.empty c.format_as.ensures.durable c.format_as.ensures.stop
