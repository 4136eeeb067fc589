-- Records that wait, handed over block by block.
use Rattle.std.specs.Prelude.{◌≡◌, ℕ, ◌+◌, ◌<◌, ◌≤◌, ◌⊎◌, ◌↔◌, Bool, true, false, List, [], ◌∷◌}
use Rattle.std.specs.Prelude.{◌++◌, length, Contains, Result, Ok, Err}
use Rattle.calls.specs.declared.refusal.Refusal.{Refusal}
use Rattle.calls.specs.Limits.{max_body}
use Rattle.gate_block.specs.Row.{IsBlockOf}
use Rattle.records.specs.declared.record.Record.{Record}
use Rattle.records.specs.Acts.{places}
use Rattle.records.specs.Records.{spelled, spelling}
use Rattle.records.specs.declared.block.Block.{Block}
use Rattle.records.specs.declared.draft.NextBlock.{NextBlock}

-- The first of the records, as many as fit and as come before the next freeze, are handed over as
-- one block, and rest is left.
pub record HandsOver (pending : List Record) (freezes : List ℕ) (end place : ℕ) (block : Block)
    (rest : List Record) : Type 0 where
  pub first : List Record
  pub are : pending ≡ first ++ rest
  pub some : 0 < length first
  pub bytes : IsBlockOf (spelling first) block.bytes.items
  -- the next one would not have fitted, or a freeze stood between
  pub most : (r : Record) (behind : List Record) → rest ≡ r ∷ behind →
      (max_body < length (spelling first) + length (spelled r)) ⊎ Contains freezes block.end
  -- no record of it comes from behind a freeze
  pub apart : (f : ℕ) → Contains freezes f → block.end ≤ f
  pub ends : block.end ≡ end + length first
  pub commits : block.place ≡ place + places first

-- The block that is handed over next has so many of the first records: as many as fit and as come
-- before the next freeze. So many bytes spell them.
pub record IsNextBlock (pending : List Record) (freezes : List ℕ) (end : ℕ)
    (next : NextBlock) : Type
    0 where
  pub first : List Record
  pub rest : List Record
  pub are : pending ≡ first ++ rest
  pub records : next.records ≡ length first
  pub some : 0 < next.records
  pub body : next.body ≡ length (spelling first)
  pub short : next.body ≤ max_body
  -- the next one would not have fitted, or a freeze stands between
  pub most : (r : Record) (behind : List Record) → rest ≡ r ∷ behind →
      (max_body < next.body + length (spelled r)) ⊎ Contains freezes (end + next.records)
  -- no record of it comes from behind a freeze
  pub apart : (f : ℕ) → Contains freezes f → end + next.records ≤ f
  -- whichever block is handed over next has these records, behind its head and with a gate behind
  pub handed : (place : ℕ) (block : Block) (behind : List Record) →
      HandsOver pending freezes end place block behind →
      (block.end ≡ end + next.records) × (length block.bytes.items ≡ next.body + 6)

-- What a cut answers of the records that are pending, of the freezes that stood between them, and
-- of how many were handed over before: one block is sent, and the freezes behind its end are left;
-- or nothing where nothing is pending. A refusal leaves all. sends: which blocks were sent.
-- was_full: the outbox was full at a moment of the call.
abbrev pub CutsOff : (pending : List Record) (freezes : List ℕ) (end place : ℕ) →
    (sends : List Block → Type 0) (was_full : Type 0) → Result Bool Refusal → (rest : List Record)
    (freezes_then : List ℕ) (end_then place_then : ℕ) → Type 0
CutsOff pending freezes end place sends was_full (Ok true) rest freezes_then end_then place_then =
    (block : Block) × sends (block ∷ []) × HandsOver pending freezes end place block rest ×
    (end_then ≡ block.end) × (place_then ≡ block.place) ×
    ((f : ℕ) → Contains freezes_then f ↔ (Contains freezes f × (block.end < f)))
CutsOff pending freezes end place sends was_full (Ok false) rest freezes_then end_then place_then =
    (pending ≡ []) × sends [] × (rest ≡ pending) × (end_then ≡ end) × (place_then ≡ place) ×
    (freezes_then ≡ freezes)
CutsOff pending freezes end place sends was_full (Err Refusal.NotNow) rest freezes_then end_then
    place_then =
    was_full × sends [] × (rest ≡ pending) × (end_then ≡ end) × (place_then ≡ place) ×
    (freezes_then ≡ freezes) × (0 < length pending)
CutsOff pending freezes end place sends was_full (Err e) rest freezes_then end_then place_then = ⊥
