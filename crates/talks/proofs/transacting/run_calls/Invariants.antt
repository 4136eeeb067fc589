use Rattle.std.proofs.Common.{take}
use Rattle.talks.specs.Talks.{RunsCalls}
use Rattle.talks.proofs.transacting.run_calls.Given as goal

-- the calls so far were made, and none was refused
abbrev pub invariant-loop-call : goal.invariant-loop-call
invariant-loop-call g l =
    RunsCalls g.S.Speaker l.fn.speaker (take l.call-index l.calls) l.responses.items l.speaker
