use Rattle.std.proofs.Common.{◌≤◌, length, drop}
use Rattle.calls.specs.Transactions.{Leads}
use Rattle.steps.specs.Machine.{Does}
use Rattle.replay.specs.Loading.{calls_in}
use Rattle.replay.proofs.redoing.take_all_back.Given as goal

-- the calls from the place on lead to what was there first
abbrev pub invariant-loop-place : goal.invariant-loop-place
invariant-loop-place g l = (l.place ≤ length l.entries) ×
    Leads (Does g.B.Boosted.meaning) (calls_in (drop l.place l.entries)) l.parts l.initial.parts

abbrev pub decreases-loop-place : goal.decreases-loop-place
decreases-loop-place g l = l.place
