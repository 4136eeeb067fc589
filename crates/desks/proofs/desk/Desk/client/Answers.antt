use Rattle.std.proofs.Common.{rules, sym, subst}
use Rattle.group_commit.specs.Lines.{with_client}
use Rattle.desks.specs.Desks.{IsDrawn}
use Rattle.desks.specs.Touches.{IsJournalDesk}
use Rattle.desks.proofs.Owning.{drawn_client}
use Rattle.desks.proofs.ShelfSteps.{journal_admits}
use Rattle.desks.proofs.desk.Desk.client.Goals as goal

pub invariant_of-self-2 : goal.invariant_of-self-2
invariant_of-self-2 g c =
    let i = c.self.inside in (
      subst (λ s. IsJournalDesk g.J.Naming g.B.Boosted.meaning g.B.Parts.making
          g.B.Parts.collections g.B.Parts.whole g.B.Parts.fits i.journal i.nears s i.sender i.near)
          (sym c.client-line.ensures.book)
          (journal_admits g.J.Naming i.journal i.nears i.seat i.sender i.near c.self.invariant.0),
      search rules,
      search rules,
      search rules,
      subst (λ s. IsDrawn c.drawer.new.maker s) (sym c.client-line.ensures.book)
          (subst (λ m. IsDrawn m (with_client i.seat)) (sym c.in_ok-drawer.ensures.maker)
          (drawn_client i.maker i.seat c.self.invariant.4)),
    )
