use Rattle.fizgaloms.proofs.WorkLemmas.{ok_then}
use Rattle.boost_main.proofs.TalkingLemmas.{served_then}
use Rattle.boost_main.proofs.listening.serve_door.Goals as goal

pub returns-clause-borne_out : goal.returns-clause-borne_out
returns-clause-borne_out g c =
    ok_then c.run.result.0 _ _ c.run.ensures.opened
    (λ answers was. served_then g.D.Disk c.args.disk c.run.result.1.disk c.run.result.1.kept
    answers.items was)
