use Rattle.std.proofs.Common.{rules}
use Rattle.group_commit.proofs.Moves.{begins}
use Rattle.group_commit.proofs.line.Line.new.Goals as goal

pub of_words-requires : goal.of_words-requires
of_words-requires c = begins

pub invariant_of-result : goal.invariant_of-result
invariant_of-result c = search rules
