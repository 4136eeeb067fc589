use Rattle.std.proofs.Common.{List}
use Rattle.std.specs.Borrow.{MutBor}
use Rattle.records.specs.declared.block.Block.{Block}
use Rattle.txn.specs.Shelved.{book_state}
use Rattle.group_commit.specs.Ends.{Sends}
use Rattle.group_commit.specs.Orders.{SenderState, WasFull}
use Rattle.desks.specs.Notes.{IsSent}
use Rattle.desks.proofs.DeskSteps.{cut_weaker}
use Rattle.desks.proofs.Ends.{sent_back}
use Rattle.desks.proofs.desk.cut_into.Goals as goal

pub returns-clause-answer : goal.returns-clause-answer
returns-clause-answer g c = λ f is.
    let before : MutBor SenderState = record {
      ref_ptr = c.args.sender.ref_ptr;
      ghost_name = c.out-1.given;
      now = c.args.sender.now;
    } in
    cut_weaker (book_state g.B.Parts.whole c.args.journal.now f)
    (λ (bs : List Block). Sends before bs c.cut.new.out.sender)
    (λ (bs : List Block). IsSent c.args.sender.now bs c.sender-1.given.0)
    (λ bs sends. sent_back before c.cut.new.out.sender bs c.sender-1.given.0 c.sender-1.given.1
    sends)
    (WasFull c.args.sender.now.sent) c.cut.result (book_state g.B.Parts.whole c.cut.new.self f)
    (c.cut.ensures.told f is).0
