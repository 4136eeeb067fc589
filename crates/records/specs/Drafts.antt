-- Records spelled into the blocks in which they will be handed over.
use Rattle.std.specs.Prelude.{◌≡◌, ℕ, ◌+◌, ◌<◌, ◌≤◌, List, [], ◌∷◌, ◌++◌, length, drop}
use Rattle.calls.specs.Limits.{max_body}
use Rattle.gate_block.specs.Row.{block_head}
use Rattle.records.specs.declared.record.Record.{Record}
use Rattle.records.specs.Records.{record_of_call, spelled, spelling}
use Rattle.records.specs.declared.noted.Noted.{Noted}
use Rattle.records.specs.declared.noted.Noted.TheVariants.{Start, After', Called'}

-- the records that were noted, in order
abbrev pub noted_records : Noted → List Record
noted_records Start = []
noted_records (After' no_bytes earlier noted) = noted_records earlier ++ noted.value ∷ []
noted_records (Called' no_bytes earlier n at call reply) =
    noted_records earlier ++ record_of_call n.value at.value call.value reply.value ∷ []

-- The records of a block in the making; how many bytes are written, and for how many there is room.
pub record Drafted : Type 0 where
  pub records : List Record
  pub len : ℕ
  pub capacity : ℕ

-- The head is there, and room for so many bytes more and a closed gate.
pub record HasPlace (d : Drafted) (more : ℕ) : Type 0 where
  pub head : block_head ≤ d.len
  pub room : d.len + more < d.capacity

-- The bytes are five for a head and then the records, with room for a closed gate. Where there is
-- no record the head may be missing.
pub record IsDraft (bytes : List ℕ) (capacity : ℕ) (records : List Record) : Type 0 where
  pub body : drop block_head bytes ≡ spelling records
  pub head : 0 < length records → (block_head ≤ length bytes) × (length bytes < capacity)

-- The records fill a block, of which one more would not be a part.
abbrev pub Fills : List Record → List Record → Type 0
Fills rs [] = ⊥
Fills rs (r ∷ behind) = max_body < length (spelling rs) + length (spelled r)

-- What goes into the blocks one after another: each as full as it can be.
abbrev pub ArePacked : List (List Record) → Type 0
ArePacked [] = Unit {0}
ArePacked (b ∷ []) = length (spelling b) ≤ max_body
ArePacked (b ∷ c ∷ bs) = (0 < length b) × (length (spelling b) ≤ max_body) × Fills b c ×
    ArePacked (c ∷ bs)
