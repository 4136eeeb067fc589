-- Blocks and the records that they carry.
use Rattle.std.specs.Prelude.{◌≡◌, ℕ, ◌+◌, List, [], ◌∷◌, length}
use Rattle.gate_block.specs.Row.{IsBlockOf}
use Rattle.records.specs.declared.record.Record.{Record}
use Rattle.records.specs.Records.{spelling}
use Rattle.records.specs.Acts.{places}
use Rattle.records.specs.declared.block.Block.{Block}

-- The block spells these records, and tells how many records, and how many that commit something,
-- there are up to its end.
pub record IsCarried (end place : ℕ) (b : Block) (rs : List Record) : Type 0 where
  pub block : IsBlockOf (spelling rs) b.bytes.items
  pub end_is : b.end ≡ end + length rs
  pub place_is : b.place ≡ place + places rs

-- The blocks carry these records, block by block, behind so many.
abbrev pub Carries : (end place : ℕ) → List Block → List (List Record) → Type 0
Carries end place [] [] = Unit {0}
Carries end place [] (rs ∷ rss) = ⊥
Carries end place (b ∷ bs) [] = ⊥
Carries end place (b ∷ bs) (rs ∷ rss) =
    IsCarried end place b rs × Carries (end + length rs) (place + places rs) bs rss
