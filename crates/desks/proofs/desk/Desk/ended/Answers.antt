use Rattle.std.proofs.Common.{Some, refl}
use Rattle.txn.specs.declared.actions.Action.{Action}
use Rattle.desks.specs.Touches.{IsJournalDesk}
use Rattle.desks.proofs.Owning.{kept_named}
use Rattle.desks.proofs.ShelfSteps.{steps_over, steps_journal, owns_step}
use Rattle.desks.proofs.desk.Desk.ended.Given.{Over}
use Rattle.desks.proofs.desk.Desk.ended.Goals as goal

pub end_over-ended-requires-clause-known : goal.end_over-ended-requires-clause-known
end_over-ended-requires-clause-known g c =
    let is = c.self.invariant.0 in
    (is.shelves, is.known)

abbrev action : (g : Over) → goal.After-wake g → Action
action g c = Action.Ended c.args.handle.number c.end_over-ended.result

keeps : (g : Over) (c : goal.After-wake g) → IsJournalDesk g.J.Naming g.B.Boosted.meaning
    g.B.Parts.making g.B.Parts.collections g.B.Parts.whole g.B.Parts.fits
    c.end_over-ended.new.journal c.end_over-ended.new.nears c.note.new.seat c.self.inside.sender
    c.self.inside.near
keeps g c =
    let i = c.self.inside in
    let is = c.self.invariant.0 in
    let done = c.end_over-ended.ensures is.shelves is.known in
    steps_over g.J.Naming g.met.B.Coded.told (Some c.args.me.now.number) i.journal i.nears i.seat
    i.sender i.near is c.end_over-ended.new.journal c.end_over-ended.new.nears done.0
    c.note.new.seat (action g c)
    (owns_step g.J.Naming is c.args.me.now c.args.handle.number (action g c) c.note.ensures.seen
    c.requires.own refl refl) done.1 done.2.answer done.2.goes c.note.ensures.book

pub invariant_of-self : goal.invariant_of-self
invariant_of-self g c = kept_named c.self.inside.maker c.self.inside.seat c.note.new.seat
    c.self.invariant (keeps g c) c.args.me.now c.args.handle.number (action g c) c.note.ensures.seen
    c.requires.own refl c.note.ensures.book

pub returns : goal.returns
returns g c = steps_journal g.J.Naming c.end_over-ended.new.journal c.end_over-ended.new.nears
    c.self.inside.seat c.note.new.seat c.self.inside.sender c.self.inside.near c.args.me.now
    c.note.new.me (action g c) (keeps g c) c.note.ensures.book c.note.ensures.client
    c.note.ensures.seen c.note.ensures.mine
