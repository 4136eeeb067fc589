use Rattle.std.proofs.Common.{subst, sym}
use Rattle.store.specs.Vaults.{Awaits}
use Rattle.store.proofs.VaultSteps.{vault_turns}
use Rattle.store.proofs.vault.Vault.turn.Goals as goal

pub invariant_of-self : goal.invariant_of-self
invariant_of-self g c =
    let l = c.bring-turned.new.keeper in (
      vault_turns g.D.Disk g.J.Naming c.self.inside.keeper c.self.inside.receiver
          c.self.inside.mark c.self.inside.near c.self.invariant.0 c.bring-turned.result l
          c.bring-turned.new.receiver c.turn_told.new.seat c.bring-turned.ensures
          (g.met.D.Disk.only_now l.disk) c.turn_told.ensures.seat,
      subst (λ s. Awaits s c.self.inside.near.gather) (sym c.bring-turned.ensures.stage)
          c.self.invariant.1,
    )
