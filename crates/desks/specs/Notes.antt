-- What is noted of a step for the proofs alone.
use Rattle.std.specs.Prelude.{◌≡◌, ℕ, ◌-◌, None, List, ◌++◌, length}
use Rattle.records.specs.declared.record.Record.{Record}
use Rattle.records.specs.declared.block.Block.{Block}
use Rattle.group_commit.specs.Orders.{SenderState}
use Rattle.txn.specs.declared.actions.Action.{Action}
use Rattle.txn.specs.declared.actions.BookStep.{BookStep}

-- a step of no client
abbrev pub alone : Action → BookStep
alone action = record { client = None; action = action }

-- how many of the pending records were handed over
abbrev pub handed_count : (before after : List Record) → ℕ
handed_count before after = length before - length after

-- these blocks were sent, in order, and no image was noted
pub record IsSent (before : SenderState) (blocks : List Block) (after : SenderState) : Type 0 where
  pub table : after.table ≡ before.table
  pub sent : after.sent ≡ before.sent ++ blocks
  pub noted : after.noted ≡ before.noted
