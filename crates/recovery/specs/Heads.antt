-- The head of a store's disk, and why none is read.
use Rattle.std.specs.Prelude.{◌≡◌, ℕ, ◌+◌, ◌*◌, ◌≤◌, List, take, drop, get_or}
use Rattle.std.specs.Int.{w64, to_be_bytes}
use Rattle.gate_block.specs.Layout.{gate_at, areas_at, size_at}
use Rattle.gate_block.specs.Row.{open_gate}
use Rattle.calls.specs.declared.format.Format.{Format}
use Rattle.calls.specs.declared.refusal.Refusal.{Refusal}
use Rattle.calls.specs.Formats.{max_area}
use Rattle.calls.specs.Limits.{min_area}
use Rattle.replay.specs.Journals.{letters_of, IsHeader}

-- The first 17 bytes of a store of this version that has so many bytes, with areas of this size.
pub record IsHead (version : Format) (size : ℕ) (head : List ℕ) (bytes : ℕ) : Type 0 where
  pub letters : take gate_at head ≡ letters_of version
  pub gate : get_or head gate_at 0 ≡ open_gate
  pub area : drop size_at head ≡ to_be_bytes w64 size
  pub not_small : min_area ≤ size
  pub not_large : size ≤ max_area version
  pub whole : bytes ≡ areas_at + 2 * size

-- no head of a store begins the bytes
abbrev pub HasNoHeader : List ℕ → Type 0
HasNoHeader bytes = (version : Format) (size : ℕ) → IsHeader version size bytes → ⊥

-- a head of a store begins the bytes
abbrev pub HasHeader : List ℕ → Type 0
HasHeader bytes = (version : Format) × (size : ℕ) × IsHeader version size bytes

-- Why a head could not be read: for a counted fault, or where there is none.
abbrev pub IsHeadRefusal : Type 0 → Type 0 → Refusal → Type 0
IsHeadRefusal is_risen no_head Refusal.Fault = is_risen
IsHeadRefusal is_risen no_head Refusal.NotAStore = no_head
IsHeadRefusal is_risen no_head e = ⊥
