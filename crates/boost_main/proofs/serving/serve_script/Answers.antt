use Rattle.std.proofs.Common.{◌≡◌}
use Rattle.boost.proofs.EffectLemmas.{store_unplayed, script_unplayed}
use Rattle.boost_main.proofs.serving.serve_script.Goals as goal

pub returns-in-Err-clause-why : goal.returns-in-Err-clause-why
returns-in-Err-clause-why g c =
    rw c.from.ensures
    (script_unplayed c.args.script.now (c.untouched.result.disk ≡ c.args.disk) c.in-Err.error
    c.in-Err.ensures.refused c.untouched.ensures.same)

pub returns-in-Ok-clause-why : goal.returns-in-Ok-clause-why
returns-in-Ok-clause-why g c =
    store_unplayed c.args.script.now (c.serve_lines.result.1.disk ≡ c.args.disk)
    c.serve_lines.result.0 (c.in-Ok.lines.items, c.in-Ok.ensures.read) c.serve_lines.ensures.why
