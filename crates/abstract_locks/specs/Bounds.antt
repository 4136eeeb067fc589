-- What bounds tell of holds.
use Rattle.std.specs.Prelude.{◌≤◌, ◌+◌}
use Rattle.calls.specs.Modes.{Has}
use Rattle.abstract_locks.specs.declared.bounds.Bounds.{Bounds}
use Rattle.abstract_locks.specs.declared.table.Hold.{Hold}

-- The hold is within the bounds: its keys are, how far they span, its owner and its mode.
pub record IsWithin (b : Bounds) (h : Hold) : Type 0 where
  pub low : b.low ≤ h.need.low
  pub high : h.need.high ≤ b.high
  pub span : h.need.high ≤ h.need.low + b.widest
  pub first : b.first_owner ≤ h.owner
  pub last : h.owner ≤ b.last_owner
  pub mode : Has b.modes h.need.mode

-- What is within the narrow bounds is within the wide ones.
abbrev pub Covers : (wide narrow : Bounds) → Type 0
Covers wide narrow = (h : Hold) → IsWithin narrow h → IsWithin wide h
