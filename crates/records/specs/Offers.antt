-- A block that is handed over.
use Rattle.std.specs.Prelude.{◌≡◌, ◌+◌, List, [], ◌∷◌, length}
use Rattle.gate_block.specs.Row.{IsBlockOf}
use Rattle.records.specs.declared.record.Record.{Record}
use Rattle.records.specs.Acts.{places}
use Rattle.records.specs.Records.{spelling}
use Rattle.records.specs.declared.block.Block.{Block}
use Rattle.records.specs.declared.draft.Handed.{Handed}

-- The records are sent as one block, and are counted. sends: which blocks were sent.
pub record IsOffered (records : List Record) (before after : Handed)
    (sends : List Block → Type 0) : Type 0 where
  pub block : Block
  pub sent : sends (block ∷ [])
  pub bytes : IsBlockOf (spelling records) block.bytes.items
  pub end : block.end ≡ before.end + length records
  pub place : block.place ≡ before.place + places records
  pub counted : after ≡ record { end = block.end; place = block.place }
