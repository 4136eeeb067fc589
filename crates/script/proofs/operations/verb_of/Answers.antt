use Rattle.std.proofs.Common.{arith}
use Rattle.script.proofs.ScriptOperations.{no_verb}
use Rattle.script.proofs.operations.verb_of.Goals as goal

pub returns : goal.returns
returns c = λ v. no_verb c.args.text.now
    (λ k lt. c.loop-verb.invariant.others k (omega (arith, c.loop-verb-test.false))) v
