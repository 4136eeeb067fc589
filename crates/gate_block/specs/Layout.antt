-- Where the parts of a store's disk stand.
use Rattle.std.specs.Prelude.{ℕ, ◌+◌, ◌*◌, ◌%◌, List, get_or}
use Rattle.gate_block.specs.Row.{part}

-- where the gate of the head stands
abbrev pub gate_at : ℕ
gate_at = 8

-- where the size of an area stands, in eight bytes
abbrev pub size_at : ℕ
size_at = 9

-- where the root byte stands
abbrev pub root_at : ℕ
root_at = 512

-- where the first area begins
abbrev pub areas_at : ℕ
areas_at = 4096

-- where the area in use begins, of two areas of this size: the lowest bit of the root byte picks it
abbrev pub base_in_use : ℕ → List ℕ → ℕ
base_in_use size bytes = areas_at + size * (get_or bytes root_at 0 % 2)

abbrev pub area_in_use : ℕ → List ℕ → List ℕ
area_in_use size bytes = part (base_in_use size bytes) size bytes
