use Rattle.std.proofs.Common.{ap}
use Rattle.group_commit.specs.Lines.{BookState}
use Rattle.group_commit.specs.Numbers.{MakerState}
use Rattle.desks.proofs.Owning.{drawn_new}
use Rattle.desks.proofs.ShelfSteps.{journal_opens}
use Rattle.desks.proofs.desk.Desk.new.Goals as goal

pub invariant_of-result : goal.invariant_of-result
invariant_of-result g c =
    let parts = c.requires.parts in (
      journal_opens g.J.Naming c.args.journal c.args.nears parts.0 c.args.seat c.args.sender
          c.args.near parts.1 parts.2 parts.3 parts.4 c.requires.seat c.requires.sender
          c.requires.near,
      ap (λ (m : MakerState). m.table) c.requires.maker,
      ap (λ (m : MakerState). m.from) c.requires.maker,
      c.requires.watcher,
      drawn_new c.args.maker c.args.seat (ap (λ (m : MakerState). m.made) c.requires.maker)
          (ap (λ (b : BookState). b.clients) c.requires.seat)
          (ap (λ (b : BookState). b.all) c.requires.seat),
    )
