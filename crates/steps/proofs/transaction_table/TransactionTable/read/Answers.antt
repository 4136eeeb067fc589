use Rattle.std.proofs.Common.{◌++◌, ◌∷◌, [], refl, sym, ◌∙◌, ap, subst}
use Rattle.abstract_locks.specs.Holds.{hold, IsAdded}
use Rattle.calls.specs.Transactions.{Asked}
use Rattle.undo_log.specs.Entries.{event_of}
use Rattle.steps.specs.Machine.{CanCall, ReadRow}
use Rattle.steps.specs.Machines.{HasRoomFor}
use Rattle.steps.specs.Wholes.{TransactionsState, state_on}
use Rattle.steps.specs.TransactionTables.{transactions_of}
use Rattle.steps.proofs.Rows.{read_row}
use Rattle.steps.proofs.transaction_table.TransactionTable.read.Given.{Over}
use Rattle.steps.proofs.transaction_table.TransactionTable.read.Goals as goal

-- the step that was taken
step : (g : Over) (c : goal.After-push g) → let i = c.self.inside in
    ReadRow g.C.Boosted.meaning (state_on (transactions_of i.format i.live i.wear) c.args.shelf.now)
    c.args.handle.number (event_of c.args.asked)
    (state_on (transactions_of i.format c.push.new.self i.wear) c.hold.new.self)
step g c =
    let i = c.self.inside in
    let n = c.args.handle.number in
    let e = event_of c.args.asked in
    let shelf = c.args.shelf.now in
    read_row i.format shelf.now shelf.holds i.live i.wear n
    c.hold.new.self.now c.hold.new.self.holds c.push.new.self i.wear g.C.Boosted.meaning e
    (subst (λ a. CanCall g.C.Boosted.meaning (state_on a shelf) n e) (sym c.self.view_is)
    c.requires.can) c.requires.only_reads
    (subst (λ (a : TransactionsState). HasRoomFor (state_on a shelf) 1) (sym c.self.view_is)
    c.requires.room)
    (subst (λ k. IsAdded shelf.holds c.hold.new.self.holds (hold n e.at k)) c.requires.need
    c.in_ok-hold.ensures.held) c.in_ok-hold.ensures.now
    (c.push.ensures.live ∙ c.in_ok-reserve.ensures.live)
    (c.push.ensures.entries ∙
    ap (λ l. l ++ (n, Asked e) ∷ []) c.in_ok-reserve.ensures.entries)
    refl

pub returns-clause-ok : goal.returns-clause-ok
returns-clause-ok g c = rw (← c.self.view_is) (step g c)
