use Rattle.std.proofs.Common.{All, take, Result, IsOk}
use Rattle.calls.specs.declared.refusal.Refusal.{Refusal}
use Rattle.fizgaloms.proofs.running.all_ended.Given as goal

-- no thread so far answered a refusal
abbrev pub invariant-loop-end : goal.invariant-loop-end
invariant-loop-end g l = All (λ (end : Result _ Refusal). IsOk end) (take l.end-index l.ended)
