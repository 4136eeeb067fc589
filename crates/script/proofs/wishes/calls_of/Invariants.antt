use Rattle.std.proofs.Common.{length}
use Rattle.script.proofs.WishLemmas.{AreRead}
use Rattle.script.proofs.wishes.calls_of.Given as goal

abbrev pub invariant-loop-front : goal.invariant-loop-front
invariant-loop-front l = AreRead l.fn.text l.calls.items l.rest

abbrev pub decreases-loop-front : goal.decreases-loop-front
decreases-loop-front l = length l.rest
