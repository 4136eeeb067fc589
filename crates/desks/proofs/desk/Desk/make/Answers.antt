use Rattle.std.proofs.Common.{Some, refl}
use Rattle.txn.specs.declared.actions.Action.{Action}
use Rattle.desks.specs.Touches.{IsJournalDesk}
use Rattle.desks.specs.Seen.{step_of}
use Rattle.desks.proofs.Owning.{nameless, kept_beside}
use Rattle.desks.proofs.ShelfSteps.{steps_over, steps_journal}
use Rattle.desks.proofs.desk.Desk.make.Given.{Over}
use Rattle.desks.proofs.desk.Desk.make.Goals as goal

pub make_over-made-requires-clause-known : goal.make_over-made-requires-clause-known
make_over-made-requires-clause-known g c =
    let i = c.self.inside in
    let is = c.self.invariant.0 in
    (is.shelves, is.known)

abbrev action : (g : Over) → goal.After-wake g → Action
action g c = Action.Make c.args.name.now c.args.kind c.make_over-made.result

keeps : (g : Over) (c : goal.After-wake g) → IsJournalDesk g.J.Naming g.B.Boosted.meaning
    g.B.Parts.making g.B.Parts.collections g.B.Parts.whole g.B.Parts.fits
    c.make_over-made.new.journal c.make_over-made.new.nears c.note.new.seat c.self.inside.sender
    c.self.inside.near
keeps g c =
    let i = c.self.inside in
    let is = c.self.invariant.0 in
    let done = c.make_over-made.ensures is.shelves is.known in
    steps_over g.J.Naming g.met.B.Coded.told (Some c.args.me.now.number) i.journal i.nears i.seat
    i.sender i.near is c.make_over-made.new.journal c.make_over-made.new.nears done.0
    c.note.new.seat (action g c)
    (nameless i.seat.all (Some c.args.me.now.number) (action g c) refl refl) done.1 done.2.answer
    done.2.goes c.note.ensures.book

pub invariant_of-self : goal.invariant_of-self
invariant_of-self g c = kept_beside c.self.inside.maker c.self.inside.seat c.note.new.seat
    c.self.invariant (keeps g c) (step_of c.args.me.now.number (action g c)) refl
    c.note.ensures.book

pub returns : goal.returns
returns g c = steps_journal g.J.Naming c.make_over-made.new.journal c.make_over-made.new.nears
    c.self.inside.seat c.note.new.seat c.self.inside.sender c.self.inside.near c.args.me.now
    c.note.new.me (action g c) (keeps g c) c.note.ensures.book c.note.ensures.client
    c.note.ensures.seen c.note.ensures.mine
