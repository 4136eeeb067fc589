use Rattle.std.proofs.Common.{rules}
use Rattle.talks.proofs.PatienceLemmas.{tried_stopped}
use Rattle.talks.proofs.patience.attempt.Goals as goal

pub returns-in-Some-clause-done : goal.returns-in-Some-clause-done
returns-in-Some-clause-done g c =
    tried_stopped g.S.Speaker c.args.speaker.now c.say-begun.new.self c.run_calls.new.speaker
    c.give_up.new.speaker c.args.calls.now c.say-begun.result c.in-Some.told c.give_up.result
    c.say-begun.ensures (search rules) (rw c.in-Some.is at c.run_calls.ensures) c.give_up.ensures
