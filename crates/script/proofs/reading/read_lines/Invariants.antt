use Rattle.std.proofs.Common.{◌+◌, ◌≤◌, length}
use Rattle.script.specs.Scripts.{lines_of}
use Rattle.script.proofs.ScriptLines.{SaysOn, StopsOn}
use Rattle.script.proofs.reading.read_lines.Given as goal

abbrev pub invariant-loop-front : goal.invariant-loop-front
invariant-loop-front l = record {
  says : SaysOn l.number l.rest l.lines.items (lines_of l.fn.text);
  stops : StopsOn l.number l.rest (lines_of l.fn.text);
  count : l.number + length l.rest ≤ length l.fn.text + 1;
}

abbrev pub decreases-loop-front : goal.decreases-loop-front
decreases-loop-front l = length l.rest
