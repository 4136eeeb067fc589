use Rattle.std.proofs.Common.{◌+◌, ◌≤◌, ◌<◌, length}
use Rattle.script.specs.Scripts.{lines_of}
use Rattle.script.specs.Reviews.{numbers_of}
use Rattle.script.proofs.ReviewLemmas.{ReviewsOn}
use Rattle.script.proofs.reviewing.review.Given as goal

abbrev pub invariant-loop-line : goal.invariant-loop-line
invariant-loop-line l = record {
  reviews : ReviewsOn l.number l.rest l.found.understood (numbers_of l.found.unclear.items)
      (lines_of l.fn.script);
  count : l.number + length l.rest ≤ length l.fn.script + 1;
  fewer : l.found.understood < l.number;
}

abbrev pub decreases-loop-line : goal.decreases-loop-line
decreases-loop-line l = length l.rest
