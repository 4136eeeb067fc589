use Rattle.std.proofs.Common.{None, Some, Err, IfErr, refl, subst, sym}
use Rattle.catalog.specs.Making.{FindRefused}
use Rattle.catalog.specs.Woven.{names_in}
use Rattle.steps.specs.Wholes.{contents}
use Rattle.txn.specs.declared.actions.Action.{Action}
use Rattle.txn.specs.declared.actions.Target.{Target}
use Rattle.desks.specs.Touches.{IsJournalDesk}
use Rattle.desks.proofs.Owning.{kept_named}
use Rattle.desks.proofs.ShelfSteps.{steps_beside, steps_journal, owns_step}
use Rattle.desks.proofs.desk.Desk.find_for_ask.Given.{Over}
use Rattle.desks.proofs.desk.Desk.find_for_ask.Goals as goal

abbrev action : (g : Over) → goal.After-note g → Action
action g c = Action.Ask c.args.number (Target.Named c.args.name.now None) c.args.call.now
    c.args.when (Err c.in-Err.refusal)

keeps : (g : Over) (c : goal.After-note g) → IsJournalDesk g.J.Naming g.B.Boosted.meaning
    g.B.Parts.making g.B.Parts.collections g.B.Parts.whole g.B.Parts.fits c.self.inside.journal
    c.self.inside.nears c.note.new.seat c.self.inside.sender c.self.inside.near
keeps g c =
    let i = c.self.inside in
    let is = c.self.invariant.0 in
    steps_beside g.J.Naming g.met.B.Coded.told (Some c.args.me.now.number) i.journal i.nears i.seat
    i.sender i.near is i.journal c.note.new.seat (action g c)
    (owns_step g.J.Naming is c.args.me.now c.args.number (action g c) c.note.ensures.seen
    c.requires.own refl refl) is.known.book (
      refl,
      subst (λ ns. FindRefused ns c.args.name.now c.in-Err.refusal)
          (sym (g.met.B.Parts.shelf_laws.names i.journal.names (contents is.shelves)
          is.known.book.joined.fit))
          (subst (λ r. IfErr r (FindRefused (names_in (g.B.Names.Named.labels i.journal.names))
          c.args.name.now)) c.in-Err.is c.find.ensures.err),
    )
    tt c.note.ensures.book

pub invariant_of-self : goal.invariant_of-self
invariant_of-self g c = kept_named c.self.inside.maker c.self.inside.seat c.note.new.seat
    c.self.invariant (keeps g c) c.args.me.now c.args.number (action g c) c.note.ensures.seen
    c.requires.own refl c.note.ensures.book

pub returns-in-Err-clause-err : goal.returns-in-Err-clause-err
returns-in-Err-clause-err g c = steps_journal g.J.Naming c.self.inside.journal c.self.inside.nears
    c.self.inside.seat c.note.new.seat c.self.inside.sender c.self.inside.near c.args.me.now
    c.note.new.me (action g c) (keeps g c) c.note.ensures.book c.note.ensures.client
    c.note.ensures.seen c.note.ensures.mine
