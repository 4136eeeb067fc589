use Rattle.std.proofs.Common.{◌∙◌, ap, subst, sym}
use Rattle.images.specs.Gathers.{Packs}
use Rattle.group_commit.specs.Accords.{AccordState}
use Rattle.images.specs.Gathers.{nothing_gathered}
use Rattle.group_commit.specs.Marks.{KeeperMark}
use Rattle.store.specs.Turns.{stops_behind}
use Rattle.store.specs.Vaults.{IsVault}
use Rattle.store.proofs.Awaiting.{awaits_none, awaits_image, begins_refused}
use Rattle.store.proofs.Causes.{begin_caused}
use Rattle.store.proofs.VaultSteps.{vault_begins, vault_forgets}
use Rattle.store.proofs.gatherer.begin.Given.{Over}
use Rattle.store.proofs.gatherer.begin.Goals as goal

-- the image is packed of what the keeper's side knows to be frozen
packs : (g : Over) (c : goal.After-agree g) → Packs c.vault.inside.near.gather c.args.image
packs g c = subst (λ v. Packs v c.args.image) (sym c.compare.ensures.same) c.requires.packs

pub invariant_of-vault : goal.invariant_of-vault
invariant_of-vault g c =
    let near = c.agree.ensures.near ∙
    ap (λ (a : AccordState). record { table = a.table; gather = nothing_gathered })
    c.compare.ensures.near in (
      vault_forgets g.D.Disk g.J.Naming c.begin_image-begun.new.self c.vault.inside.receiver
          c.failure_told.new.seat c.vault.inside.near c.agree.new.near
          (subst (λ (m : KeeperMark). IsVault g.J.Naming g.D.Disk c.begin_image-begun.new.self
          c.vault.inside.receiver m c.vault.inside.near) (sym c.failure_told.ensures.seat)
          (vault_begins g.D.Disk g.J.Naming
          c.vault.inside.keeper c.vault.inside.receiver c.vault.inside.mark c.vault.inside.near
          c.vault.invariant.0 c.args.image c.args.behind c.begin_image-begun.new.self
          c.begin_image-begun.result (packs g c) c.begin_image-begun.ensures.answer
          c.begin_image-begun.ensures.crash
          (stops_behind c.begin_image-begun.result c.vault.inside.mark.stops)
          (begin_caused c.vault.inside.keeper c.args.image c.args.behind
          c.begin_image-begun.new.self c.begin_image-begun.result
          c.begin_image-begun.ensures.answer c.vault.inside.mark.stops
          c.vault.invariant.0.caused))) near,
      awaits_none c.begin_image-begun.new.self.stage c.agree.new.near
          (ap (λ (a : AccordState). a.gather) c.agree.ensures.near),
    )

pub returns-clause-refused : goal.returns-clause-refused
returns-clause-refused g c =
    begins_refused c.vault.inside.keeper c.begin_image-begun.new.self c.args.image c.args.behind
    c.begin_image-begun.result
    (awaits_image c.vault.inside.keeper.stage c.vault.inside.near.gather c.args.image
    c.vault.invariant.1 (packs g c)) c.begin_image-begun.ensures.answer
