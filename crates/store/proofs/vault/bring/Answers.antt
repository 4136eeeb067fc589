use Rattle.std.specs.Borrow.{MutBor}
use Rattle.group_commit.specs.Orders.{ReceiverState}
use Rattle.store.proofs.VaultSteps.{turn_brings}
use Rattle.store.proofs.vault.bring.Goals as goal

pub returns : goal.returns
returns g c =
    let before : MutBor ReceiverState = record {
      ref_ptr = c.args.receiver.ref_ptr;
      ghost_name = c.inbox-1.given;
      now = c.args.receiver.now;
    } in
    turn_brings g.D.Disk c.args.keeper.now c.turn.new.self before c.turn.new.inbox.receiver
    c.receiver-1.given.0 c.receiver-1.given.1 c.turn.result c.turn.ensures.answer
    c.turn.ensures.crash c.turn.ensures.stage
