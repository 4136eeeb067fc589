use Rattle.boost.proofs.EffectLemmas.{anew_played}
use Rattle.boost.proofs.commands.stored_run.demo.Goals as goal

pub returns-in-Ok-played-clause-done : goal.returns-in-Ok-played-clause-done
returns-in-Ok-played-clause-done g c =
    anew_played _ c.in_ok-disk.disk c.play_lines-disk.result.1 c.in-Ok.lines.items _
    c.play_lines-disk.result.0 c.show.result.0 tt c.in_ok-disk.ensures.empty
    c.in_ok-disk.ensures.at_rest c.in-Ok.ensures.read c.play_lines-disk.ensures.lines
    c.in-Ok-played.is tt
