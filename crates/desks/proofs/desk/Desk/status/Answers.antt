use Rattle.std.proofs.Common.{◌≡◌, sym, ap, ◌∙◌, subst}
use Rattle.atomic_table.specs.Seated.{TableId}
use Rattle.catalog.specs.declared.four.Four.{Four}
use Rattle.catalog.specs.Fours.{First, Second, Third, Fourth}
use Rattle.desks.specs.Touches.{IsJournalDesk}
use Rattle.desks.proofs.desk.Desk.status.Goals as goal

pub compare-requires-clause-near : goal.compare-requires-clause-near
compare-requires-clause-near g c = c.self.invariant.0.known.tables First ∙
    sym (ap (λ (t : Four TableId). t.first) c.args.shelves.now.twins_are)

pub compare-requires-2-clause-near : goal.compare-requires-2-clause-near
compare-requires-2-clause-near g c = c.self.invariant.0.known.tables Second ∙
    sym (ap (λ (t : Four TableId). t.second) c.args.shelves.now.twins_are)

pub compare-requires-3-clause-near : goal.compare-requires-3-clause-near
compare-requires-3-clause-near g c = c.self.invariant.0.known.tables Third ∙
    sym (ap (λ (t : Four TableId). t.third) c.args.shelves.now.twins_are)

pub compare-requires-4-clause-near : goal.compare-requires-4-clause-near
compare-requires-4-clause-near g c = c.self.invariant.0.known.tables Fourth ∙
    sym (ap (λ (t : Four TableId). t.fourth) c.args.shelves.now.twins_are)

pub of-requires : goal.of-requires
of-requires g c =
    let is = c.self.invariant.0 in record { kept = (is.shelves, is.known.book) }

pub invariant_of-self : goal.invariant_of-self
invariant_of-self g c =
    let i = c.self.inside in
    let is = c.self.invariant in
    let same : record {
      first = c.compare.new.near;
      second = c.compare-2.new.near;
      third = c.compare-3.new.near;
      fourth = c.compare-4.new.near;
    } ≡ i.nears = λ p. record {
      first = c.compare.ensures.near p;
      second = c.compare-2.ensures.near p;
      third = c.compare-3.ensures.near p;
      fourth = c.compare-4.ensures.near p;
    } in (
      subst (λ n. IsJournalDesk g.J.Naming g.B.Boosted.meaning g.B.Parts.making
          g.B.Parts.collections g.B.Parts.whole g.B.Parts.fits i.journal n i.seat i.sender i.near)
          (sym same) is.0,
      is.1,
      is.2,
      is.3,
      is.4,
    )
