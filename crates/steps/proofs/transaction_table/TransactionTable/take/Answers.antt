use Rattle.std.proofs.Common.{◌+◌, ◌++◌, ◌∷◌, [], refl, sym, ◌∙◌, ap, subst}
use Rattle.abstract_locks.specs.Holds.{hold, IsAdded}
use Rattle.undo_log.specs.Entries.{entry_of, place_of}
use Rattle.steps.specs.Machine.{CanAccept, AcceptRow}
use Rattle.steps.specs.Machines.{HasRoomFor}
use Rattle.steps.specs.Wholes.{TransactionsState, state_on}
use Rattle.steps.specs.TransactionTables.{transactions_of}
use Rattle.steps.proofs.Rows.{taken_row, can_answer, can_clear}
use Rattle.steps.proofs.transaction_table.TransactionTable.take.Given.{Over}
use Rattle.steps.proofs.transaction_table.TransactionTable.take.Goals as goal

pub take-requires-clause-answered : goal.take-requires-clause-answered
take-requires-clause-answered g c = can_answer g.C.Boosted.meaning
    (state_on c.args.self.now c.args.shelf.now) c.args.handle.number (entry_of c.args.entry)
    c.requires.can

pub take-requires-clause-clear : goal.take-requires-clause-clear
take-requires-clause-clear g c = rw c.requires.need (can_clear g.C.Boosted.meaning
    (state_on c.args.self.now c.args.shelf.now) c.args.handle.number (entry_of c.args.entry)
    c.requires.can)

-- the step that was taken
step : (g : Over) (c : goal.After-self-1 g) → let i = c.self.inside in
    AcceptRow g.C.Boosted.meaning (state_on (transactions_of i.format i.live i.wear)
    c.args.shelf.now)
    c.args.handle.number (entry_of c.args.entry)
    (state_on (transactions_of i.format c.push.new.self (i.wear + 1)) c.take.new.self)
step g c =
    let i = c.self.inside in
    let n = c.args.handle.number in
    let e = entry_of c.args.entry in
    let shelf = c.args.shelf.now in
    taken_row i.format shelf.now shelf.holds i.live i.wear n
    c.take.new.self.now c.take.new.self.holds c.push.new.self (i.wear + 1) g.C.Boosted.meaning e
    (subst (λ a. CanAccept g.C.Boosted.meaning (state_on a shelf) n e) (sym c.self.view_is)
    c.requires.can)
    (subst (λ (a : TransactionsState). HasRoomFor (state_on a shelf) 1) (sym c.self.view_is)
    c.requires.room)
    (subst (λ k. IsAdded shelf.holds c.take.new.self.holds (hold n (place_of e) k))
    c.requires.need c.in_ok-take.ensures.held) c.in_ok-take.ensures.taken
    (c.push.ensures.live ∙ c.in_ok-reserve.ensures.live)
    (c.push.ensures.entries ∙
    ap (λ l. l ++ (n, e) ∷ []) c.in_ok-reserve.ensures.entries) refl

pub returns-clause-ok : goal.returns-clause-ok
returns-clause-ok g c = rw (← c.self.view_is) (step g c)
