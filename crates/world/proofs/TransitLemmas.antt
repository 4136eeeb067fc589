-- The room behind blocks in transit.
use Rattle.std.proofs.Common.{◌≡◌, ℕ, ◌+◌, ◌-◌, List, drop}
use Rattle.records.specs.declared.block.Block.{Block}
use Rattle.world.specs.Moves.{transit_len}

-- so much room is left behind the first blocks
abbrev pub Leaves : List Block → ℕ → ℕ → ℕ → Type 0
Leaves blocks free room i = room ≡ free + transit_len (drop i blocks) - transit_len blocks
