use Rattle.std.proofs.Common.{◌∙◌, [], refl, sym, ap, subst}
use Rattle.undo_log.specs.Logs.{Lives, fallen}
use Rattle.steps.specs.Machine.{UnreadRow, HasNewestRead}
use Rattle.steps.specs.Wholes.{TransactionsState}
use Rattle.steps.specs.TransactionTables.{transactions_of, alone}
use Rattle.steps.proofs.UndoneCall.{unread_row}
use Rattle.steps.proofs.transaction_table.TransactionTable.unread.Goals as goal

-- the step that was taken
step : (c : goal.Joined-read) → let i = c.self.inside in
    UnreadRow (alone (transactions_of i.format i.live i.wear)) c.args.handle.number
    (alone (transactions_of i.format c.fall.new.self i.wear))
step c =
    let i = c.self.inside in
    unread_row i.format tt [] i.live i.wear c.args.handle.number
    c.pop-read.new.self.entries c.fall.new.self i.wear c.pop-read.result
    (subst (λ (a : TransactionsState). Lives a.live c.args.handle.number) (sym c.self.view_is)
    c.requires.live)
    (subst (λ (a : TransactionsState). HasNewestRead c.args.handle.number a.entries)
    (sym c.self.view_is)
    c.requires.newest) c.pop-read.ensures.found c.pop-read.ensures.none
    (c.fall.ensures.live ∙ ap (λ v. fallen v c.args.handle.number) c.pop-read.ensures.live)
    c.fall.ensures.entries refl

pub returns : goal.returns
returns c = rw (← c.self.view_is) (step c)
