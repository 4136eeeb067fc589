-- The records that wait for a block, block by block.
use Rattle.std.specs.Prelude.{◌≡◌, ℕ, ◌+◌, ◌<◌, ◌≤◌, ◌⊎◌, Bool, true, false, IsTrue, List, [], ◌∷◌}
use Rattle.std.specs.Prelude.{◌++◌, length}
use Rattle.std.specs.List.{flat_map}
use Rattle.calls.specs.Limits.{max_body}
use Rattle.records.specs.declared.record.Record.{Record}
use Rattle.records.specs.Records.{spelling}
use Rattle.records.specs.Drafts.{Drafted, HasPlace, Fills}
use Rattle.records.specs.declared.draft.Handed.{Handed}
use Rattle.records.specs.declared.pending.Filled.{Filled}

-- The full blocks, the last one and one that is not used yet; for how many full blocks there is
-- room; and what was handed over.
pub record Waiting : Type 0 where
  pub full : List Filled
  pub last : Drafted
  pub spare : Drafted
  pub most : ℕ
  pub handed : Handed

-- the records that wait, in order
abbrev pub waiting : Waiting → List Record
waiting w = flat_map (λ b. b.draft.records) w.full ++ w.last.records

-- the end of a block, where it was sealed
abbrev pub sealed_end : Bool → ℕ → List ℕ
sealed_end true end = end ∷ []
sealed_end false end = []

-- the ends of the sealed blocks, counted from the LSN where the first one begins
abbrev pub sealed_ends : ℕ → List Filled → List ℕ
sealed_ends from [] = []
sealed_ends from (b ∷ bs) = sealed_end b.sealed (from + length b.draft.records) ++
    sealed_ends (from + length b.draft.records) bs

-- where freezes stand among the records that wait
abbrev pub freezes : Waiting → List ℕ
freezes w = sealed_ends w.handed.end w.full

-- the records of the next block
abbrev pub next_of : List Filled → List Record → List Record
next_of [] last = last
next_of (b ∷ bs) last = b.draft.records

-- What goes into the blocks one after another: each as full as it can be, or sealed.
abbrev pub AreFilled : List Filled → List Record → Type 0
AreFilled [] last = length (spelling last) ≤ max_body
AreFilled (b ∷ bs) last =
    (0 < length b.draft.records) × (length (spelling b.draft.records) ≤ max_body) ×
    (Fills b.draft.records (next_of bs last) ⊎ IsTrue b.sealed) × AreFilled bs last

-- Each block is as full as it can be, or sealed, and the records are counted.
pub record IsCounted (w : Waiting) (count : ℕ) : Type 0 where
  pub packed : AreFilled w.full w.last.records
  pub counted : count ≡ length (waiting w)
  pub unused : w.spare.records ≡ []

-- There is room for one more full block.
abbrev pub HasBlockRoom : Waiting → Type 0
HasBlockRoom w = length w.full < w.most

-- A record of the length fits in the last block.
abbrev pub Suits : Waiting → ℕ → Type 0
Suits w len = length (spelling w.last.records) + len ≤ max_body

-- There is room for a record of the length: in the last block, or for one more block.
pub record HasRoomFor (w : Waiting) (len : ℕ) : Type 0 where
  pub in_last : Suits w len → HasPlace w.last len
  pub in_spare : (Suits w len → ⊥) → (length w.full < w.most) × HasPlace w.spare len
