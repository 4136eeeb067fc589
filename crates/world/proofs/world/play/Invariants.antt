use Rattle.std.proofs.Common.{◌≡◌, ◌≤◌, length, take, vec_capacity}
use Rattle.std.specs.List.{zip}
use Rattle.calls.specs.Transactions.{Leads}
use Rattle.world.specs.OneStep.{TakesStep}
use Rattle.world.proofs.world.play.Given as goal

abbrev pub invariant-loop-step : goal.invariant-loop-step
invariant-loop-step g l =
    (length l.answers.items ≡ l.step-index)
    × (length l.steps ≤ vec_capacity l.answers)
    × Leads (TakesStep g.D.Disk) (zip (take l.step-index l.steps) l.answers.items) l.fn.world
    l.world
