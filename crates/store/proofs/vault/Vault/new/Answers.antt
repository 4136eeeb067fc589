use Rattle.std.proofs.Common.{ap, refl, arith}
use Rattle.group_commit.specs.Accords.{AccordState}
use Rattle.store.proofs.Awaiting.{awaits_none}
use Rattle.store.proofs.vault.Vault.new.Goals as goal

pub invariant_of-result : goal.invariant_of-result
invariant_of-result g c = (
  rw (c.requires.receiver, c.requires.mark, c.requires.near) (record {
    handoff = refl;
    mark = refl;
    awaited = refl;
    marked = omega arith;
    caused = λ once. absurd (omega (arith, once));
    noted = λ some. absurd (some refl);
    received = c.requires.received;
  }),
  awaits_none c.args.keeper.stage c.args.near
      (ap (λ (a : AccordState). a.gather) c.requires.near),
)
