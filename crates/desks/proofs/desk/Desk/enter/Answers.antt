use Rattle.std.proofs.Common.{Some, ap, ◌∙◌}
use Rattle.txn.specs.Shelved.{entered}
use Rattle.txn.specs.declared.actions.Action.{Action}
use Rattle.group_commit.specs.Numbers.{MakerState}
use Rattle.desks.specs.Touches.{IsJournalDesk}
use Rattle.desks.proofs.Owning.{entering_follows, drawn_enters}
use Rattle.desks.proofs.ShelfSteps.{steps_beside, steps_journal}
use Rattle.desks.proofs.desk.Desk.enter.Given.{Over}
use Rattle.desks.proofs.desk.Desk.enter.Goals as goal

abbrev action : (g : Over) → goal.After-wake g → Action
action g c = Action.Enter c.args.number (entered c.enter-entered.result)

keeps : (g : Over) (c : goal.After-wake g) →
    IsJournalDesk g.J.Naming g.B.Boosted.meaning g.B.Parts.making g.B.Parts.collections
    g.B.Parts.whole g.B.Parts.fits c.enter-entered.new.self c.self.inside.nears c.note.new.seat
    c.self.inside.sender c.self.inside.near
keeps g c =
    let i = c.self.inside in
    let is = c.self.invariant.0 in
    let leads = c.enter-entered.ensures in
    let served = leads.told is.shelves is.known.book in
    steps_beside g.J.Naming g.met.B.Coded.told (Some c.args.me.now.number) i.journal i.nears i.seat
    i.sender i.near is c.enter-entered.new.self c.note.new.seat (action g c)
    (entering_follows i.maker c.report.new.maker i.seat c.args.drawer.now c.args.me.now.number
    c.args.number (entered c.enter-entered.result) is.desk.owned c.self.invariant.4 c.report.ensures.maker
    c.report.ensures.of_one c.requires.drawer.1 c.requires.drawn)
    (leads.kept is.shelves is.known.book) served.answer served.goes c.note.ensures.book

pub enter-entered-requires : goal.enter-entered-requires
enter-entered-requires g c =
    record { kept = (c.self.invariant.0.shelves, c.self.invariant.0.known.book) }

pub invariant_of-self : goal.invariant_of-self
invariant_of-self g c =
    let i = c.self.inside in (
      keeps g c,
      ap (λ (m : MakerState). m.table) c.report.ensures.maker ∙ c.self.invariant.1,
      ap (λ (m : MakerState). m.from) c.report.ensures.maker ∙ c.self.invariant.2,
      c.self.invariant.3,
      drawn_enters i.maker i.seat c.note.new.seat c.self.invariant.4 c.report.new.maker
          c.args.drawer.now c.args.me.now.number c.args.number
          (entered c.enter-entered.result) c.report.ensures.maker c.requires.drawer.1 c.requires.drawn c.note.ensures.book,
    )

pub returns-clause-step : goal.returns-clause-step
returns-clause-step g c =
    steps_journal g.J.Naming c.enter-entered.new.self c.self.inside.nears c.self.inside.seat
    c.note.new.seat c.self.inside.sender c.self.inside.near c.args.me.now c.note.new.me
    (action g c) (keeps g c) c.note.ensures.book c.note.ensures.client c.note.ensures.seen
    c.note.ensures.mine
