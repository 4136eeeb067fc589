use Rattle.std.proofs.Common.{sym, subst}
use Rattle.undo_log.specs.Entries.{HasNoCall}
use Rattle.undo_log.specs.Logs.{Lives}
use Rattle.steps.specs.Machine.{State, EndedRow}
use Rattle.steps.specs.Wholes.{state_on}
use Rattle.steps.proofs.AloneRows.{ended_on}
use Rattle.steps.proofs.InvariantRows.{ended_upheld}
use Rattle.records.specs.Short.{AreShort}
use Rattle.steps.proofs.BookLaws.{BookLaws, book_laws}
use Rattle.replay.proofs.machine.Machine.ended.Given.{Over}
use Rattle.replay.proofs.machine.Machine.ended.Goals as goal

-- the laws of the collections
laws : (g : Over) → BookLaws g.B.Boosted.meaning g.B.Parts.making
    (λ f s. AreShort f (g.B.Parts.collections s))
laws g = book_laws g.met.B.Boosted.laws g.met.B.Parts.laws g.met.B.Coded.told

-- the transaction is taken out
step : (g : Over) (c : goal.After-finish g) → let i = c.self.inside in
    EndedRow (state_on i.transactions i.shelf) c.args.number
    (state_on c.finish.new.self c.give_up.new.self)
step g c =
    let i = c.self.inside in
    let shelf = c.give_up.new.self in
    subst (λ a. EndedRow (state_on i.transactions i.shelf) c.args.number (state_on a shelf))
    (sym c.finish.ensures)
    (ended_on g.B.Boosted.meaning i.transactions i.shelf c.args.number shelf
    (subst (λ (s : State _). Lives s.live c.args.number) (sym c.self.view_is) c.requires.live)
    c.give_up.ensures.holds
    (subst (λ (s : State _). HasNoCall c.args.number s.entries) (sym c.self.view_is)
    c.requires.undone) c.give_up.ensures.now)

pub invariant_of-self : goal.invariant_of-self
invariant_of-self g c = ended_upheld g.B.Boosted.meaning g.B.Parts.making
    (λ f s. AreShort f (g.B.Parts.collections s))
    (laws g) _ c.self.invariant c.args.number _ (step g c)

pub returns : goal.returns
returns g c = rw (← c.self.view_is) (step g c)
