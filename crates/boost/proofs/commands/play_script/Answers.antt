use Rattle.std.proofs.Common.{◌≡◌, inl, refl}
use Rattle.boost.proofs.EffectLemmas.{unopened, script_played}
use Rattle.boost.proofs.EffectLemmas.{store_unplayed, script_unplayed}
use Rattle.boost.proofs.commands.play_script.Goals as goal

pub returns-in-Err-clause-left : goal.returns-in-Err-clause-left
returns-in-Err-clause-left g c = λ honest.
    inl (unopened g.D.Disk c.args.disk (g.met.D.Disk.only_now c.args.disk))

pub returns-in-Err-clause-why : goal.returns-in-Err-clause-why
returns-in-Err-clause-why g c =
    rw c.from.ensures
    (script_unplayed c.args.script.now (c.args.disk ≡ c.args.disk) c.in-Err.error
    c.in-Err.ensures.refused refl)

pub returns-in-Ok-clause-left : goal.returns-in-Ok-clause-left
returns-in-Ok-clause-left g c =
    c.play_lines.ensures.left c.args.script.now c.in-Ok.ensures.read

pub returns-in-Ok-clause-why : goal.returns-in-Ok-clause-why
returns-in-Ok-clause-why g c =
    store_unplayed c.args.script.now (c.play_lines.result.1 ≡ c.args.disk) c.play_lines.result.0
    (c.in-Ok.lines.items, c.in-Ok.ensures.read) c.play_lines.ensures.why

pub returns-in-Ok-clause-done : goal.returns-in-Ok-clause-done
returns-in-Ok-clause-done g c =
    script_played g.D.Disk c.args.disk c.play_lines.result.1 c.in-Ok.lines.items c.args.script.now
    c.play_lines.result.0 c.in-Ok.ensures.read c.play_lines.ensures.lines
