use Rattle.recovery.proofs.HeadLemmas.{no_version}
use Rattle.recovery.specs.Heads.{IsHead}
use Rattle.recovery.proofs.head.said.Goals as goal

pub returns-in-None-said_size-clause-none : goal.returns-in-None-said_size-clause-none
returns-in-None-said_size-clause-none c = λ version size head.
    no_version (λ v. IsHead v size c.args.head.now c.args.whole) (c.in-None.ensures.none size)
    (c.in-None-said_size.ensures.none size) version head
