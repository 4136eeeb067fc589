-- The numbers that a counter can hold.
use Rattle.std.specs.Prelude.{ℤ, pos, negsuc, ◌≤ℤ◌, ◌<ℤ◌, ◌-◌, ◌^◌}

-- The number is in the range of an i128.
pub record IsI128 (n : ℤ) : Type 0 where
  pub low : negsuc (2 ^ 127 - 1) ≤ℤ n
  pub high : n <ℤ pos (2 ^ 127)
