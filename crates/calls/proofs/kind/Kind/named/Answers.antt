use Rattle.std.proofs.Common.{arith}
use Rattle.calls.proofs.KindNames.{no_kind}
use Rattle.calls.proofs.kind.Kind.named.Goals as goal

pub returns : goal.returns
returns c = λ k. no_kind c.args.text.now
    (λ k lt. c.loop-kind.invariant.others k (omega (arith, c.loop-kind-test.false))) k
