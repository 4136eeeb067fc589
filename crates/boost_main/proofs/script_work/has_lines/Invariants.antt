use Rattle.std.proofs.Common.{All, take}
use Rattle.script.specs.declared.line.Line.{Line}
use Rattle.boost_main.specs.Serving.{IsOfClient}
use Rattle.boost_main.proofs.script_work.has_lines.Given as goal

-- no line so far is the client's
abbrev pub invariant-loop-line : goal.invariant-loop-line
invariant-loop-line l = All (λ (x : Line). IsOfClient l.client x → ⊥) (take l.line-index l.lines)
