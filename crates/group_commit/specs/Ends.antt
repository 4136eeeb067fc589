-- What was sent from the one end of a hand-off, and received at the other.
use Rattle.std.specs.Prelude.{◌≡◌, List, ◌++◌}
use Rattle.std.specs.Borrow.{MutBor}
use Rattle.records.specs.declared.block.Block.{Block}
use Rattle.group_commit.specs.Orders.{SenderState, ReceiverState, WasFull, WasEmpty}

-- it is the same end, these blocks were sent from it, in order, and nothing was noted
pub record Sends (before : MutBor SenderState) (blocks : List Block)
    (after : MutBor SenderState) : Type 0 where
  pub same : after.ghost_name ≡ before.ghost_name
  pub table : after.now.table ≡ before.now.table
  pub sent : after.now.sent ≡ before.now.sent ++ blocks
  pub noted : after.now.noted ≡ before.now.noted

-- it is the same end, these blocks were received at it, in order, and nothing was noted
pub record Receives (before : MutBor ReceiverState) (blocks : List Block)
    (after : MutBor ReceiverState) : Type 0 where
  pub same : after.ghost_name ≡ before.ghost_name
  pub table : after.now.table ≡ before.now.table
  pub received : after.now.received ≡ before.now.received ++ blocks
  pub noted : after.now.noted ≡ before.now.noted

abbrev pub WasFullAt : MutBor SenderState → Type 0
WasFullAt end = WasFull end.now.sent

abbrev pub WasEmptyAt : MutBor ReceiverState → Type 0
WasEmptyAt end = WasEmpty end.now.received
