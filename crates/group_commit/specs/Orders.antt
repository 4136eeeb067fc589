-- The order of blocks on their way to the disk, and what was frozen, as both ends have noted it.
use Rattle.std.specs.Prelude.{◌≡◌, ◌≤◌, List, [], ◌∷◌, ◌++◌, length}
use Rattle.atomic_table.specs.Seated.{TableId}
use Rattle.records.specs.declared.block.Block.{Block}
use Rattle.images.specs.Gathers.{GatherState}

-- what the sender of a hand-off has sent, in order, and what was frozen, as it has noted it, the
-- newest first
pub record SenderState : Type 0 where
  pub table : TableId
  pub sent : List Block
  pub noted : List GatherState

-- what the receiver of a hand-off has received, in order, and what was frozen, as it has noted it,
-- the newest first
pub record ReceiverState : Type 0 where
  pub table : TableId
  pub received : List Block
  pub noted : List GatherState

-- one block more was sent
abbrev pub sending : SenderState → Block → SenderState
sending s block = record { table = s.table; sent = s.sent ++ block ∷ []; noted = s.noted }

-- one block more was received
abbrev pub receiving : ReceiverState → Block → ReceiverState
receiving r block =
    record { table = r.table; received = r.received ++ block ∷ []; noted = r.noted }

-- the sender has noted what was frozen
abbrev pub noting : SenderState → GatherState → SenderState
noting s frozen = record { table = s.table; sent = s.sent; noted = frozen ∷ s.noted }

-- the receiver has noted what was frozen
abbrev pub noting_too : ReceiverState → GatherState → ReceiverState
noting_too r frozen =
    record { table = r.table; received = r.received; noted = frozen ∷ r.noted }

-- what was sent is what was received, followed by these blocks in transit, at most four
pub record AreInTransit (sent received transit : List Block) : Type 0 where
  pub order : sent ≡ received ++ transit
  pub few : length transit ≤ 4

-- four blocks were in transit at a moment, the last of those that were sent
abbrev pub WasFull : List Block → Type 0
WasFull sent =
    (transit : List Block) × (length transit ≡ 4)
    × ((received : List Block) × AreInTransit sent received transit)

-- no block was in transit at a moment: what had been sent was what was received
abbrev pub WasEmpty : List Block → Type 0
WasEmpty received =
    (transit : List Block) × (length transit ≡ 0)
    × ((sent : List Block) × AreInTransit sent received transit)
