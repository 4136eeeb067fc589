use Rattle.std.proofs.Common.{subst}
use Rattle.steps.specs.Wholes.{state_on}
use Rattle.txn.specs.Rows.{CanGet}
use Rattle.txn.proofs.journal.Journal.take.Goals as goal

pub returns-then-reads-clause-ok : goal.returns-then-reads-clause-ok
returns-then-reads-clause-ok g c = rw c.in-Now.is c.note_read.ensures.ok

pub returns-else-reads-clause-ok : goal.returns-else-reads-clause-ok
returns-else-reads-clause-ok g c = rw c.in-Now.is c.note_call.ensures.ok

pub returns-in-AtCommit-clause-ok : goal.returns-in-AtCommit-clause-ok
returns-in-AtCommit-clause-ok g c =
    let can = subst (λ w. CanGet g.B.Shelf.Boosted.meaning w
    (state_on c.args.self.now.transactions c.args.shelf.now) c.args.handle.number
    (record { at = c.args.at; call = c.args.call.now; reply = c.args.reply.now }))
    c.in-AtCommit.is c.requires.can in
    rw (c.in-AtCommit.is, can.1) c.defer.ensures.ok
