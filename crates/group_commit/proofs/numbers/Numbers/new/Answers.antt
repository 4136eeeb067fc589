use Rattle.group_commit.proofs.Drawers.{begins}
use Rattle.group_commit.proofs.numbers.Numbers.new.Goals as goal

pub of_words-requires : goal.of_words-requires
of_words-requires c = begins c.args.from c.requires
