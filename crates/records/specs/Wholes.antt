-- Whole blocks.
use Rattle.std.specs.Prelude.{ℕ, ◌-◌, List, length, take, drop}
use Rattle.gate_block.specs.Row.{IsBlockOf, block_head}

-- what stands between a block's head and the gate behind it
abbrev pub body_of : List ℕ → List ℕ
body_of bytes = drop block_head (take (length bytes - 1) bytes)

-- an open gate, the length, the body, a closed gate
abbrev pub IsWhole : List ℕ → Type 0
IsWhole bytes = IsBlockOf (body_of bytes) bytes
