use Rattle.std.proofs.Common.{inl}
use Rattle.boost.proofs.EffectLemmas.{unopened}
use Rattle.boost_main.proofs.serving.untouched.Goals as goal

pub returns-clause-left : goal.returns-clause-left
returns-clause-left g c =
    inl (unopened g.D.Disk c.args.disk (g.met.D.Disk.only_now c.args.disk))
