use Rattle.std.proofs.Common.{[], arith}
use Rattle.records.specs.Short.{AreShort}
use Rattle.steps.specs.Wholes.{state_on}
use Rattle.steps.proofs.BookLaws.{BookLaws, book_laws}
use Rattle.steps.specs.Machine.{MakeRow}
use Rattle.steps.proofs.Rows.{made_row}
use Rattle.steps.proofs.InvariantRows.{make_upheld}
use Rattle.replay.proofs.machine.Machine.make.Given.{Over}
use Rattle.replay.proofs.machine.Machine.make.Goals as goal

-- the laws of the collections
laws : (g : Over) → BookLaws g.B.Boosted.meaning g.B.Parts.making
    (λ f s. AreShort f (g.B.Parts.collections s))
laws g = book_laws g.met.B.Boosted.laws g.met.B.Parts.laws g.met.B.Coded.told

-- the collection is made
step : (g : Over) (c : goal.Else-prove g) → let i = c.self.inside in
    MakeRow g.B.Parts.making (state_on i.transactions i.shelf) c.args.name.now c.args.kind
    (state_on i.transactions (record i.shelf { now = c.make.new.self }))
step g c =
    let i = c.self.inside in
    let made = rw c.collections_mut.ensures.now at c.in_ok-at.ensures.ok in
    made_row g.met.B.Parts.laws i.transactions.format i.shelf.now i.shelf.holds
    (record { live = i.transactions.live; entries = i.transactions.entries; rooms = [] })
    i.transactions.wear c.args.name.now c.args.kind c.make.new.self c.in_ok-at.at made.0 made.1
    (omega (arith, c.if-prove.false)) made.2

pub invariant_of-self-2 : goal.invariant_of-self-2
invariant_of-self-2 g c = make_upheld g.B.Boosted.meaning g.B.Parts.making
    (λ f s. AreShort f (g.B.Parts.collections s)) (laws g) _ c.self.invariant c.args.name.now
    c.args.kind _ (step g c)

pub returns-clause-ok : goal.returns-clause-ok
returns-clause-ok g c = rw (← c.self.view_is) (step g c)
