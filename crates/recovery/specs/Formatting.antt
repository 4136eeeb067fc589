-- What a format makes, and what a stop in it leaves.
use Rattle.std.specs.Prelude.{◌≡◌, ◌⊎◌, ℕ, ◌+◌, ◌*◌, ◌≤◌, List, [], ◌∷◌, ◌++◌, take, drop}
use Rattle.std.specs.Prelude.{get_or, Result, Ok, Err}
use Rattle.std.specs.Int.{w64, to_be_bytes}
use Rattle.calls.specs.declared.format.Format.{Format}
use Rattle.calls.specs.declared.refusal.Refusal.{Refusal}
use Rattle.calls.specs.Formats.{max_area, number_of}
use Rattle.calls.specs.Limits.{min_area}
use Rattle.disk_model.specs.Disk.{Torn}
use Rattle.gate_block.specs.Row.{row}
use Rattle.gate_block.specs.Layout.{gate_at, areas_at, root_at, size_at}
use Rattle.records.specs.declared.record.Record.{Record}
use Rattle.records.specs.Records.{spelling}
use Rattle.replay.specs.Journals.{letters_of, IsHeader, StandsFor}
use Rattle.replay.specs.Reading.{IsSound}
use Rattle.recovery.specs.Heads.{HasNoHeader}

-- a disk of the version that has so many bytes has room for two areas of this size, and no more
pub record IsRoomFor (version : Format) (area bytes : ℕ) : Type 0 where
  pub not_small : min_area ≤ area
  pub not_large : area ≤ max_area version
  pub whole : bytes ≡ areas_at + 2 * area

-- there is a version of this number, of which it has
pub record IsRoomAs (number area bytes : ℕ) : Type 0 where
  pub version : Format
  pub numbered : number ≡ number_of version
  pub room : IsRoomFor version area bytes

-- When each answer of a format comes.
abbrev pub IsFormatAnswer : Type 0 → Type 0 → Result (Unit {0}) Refusal → Type 0
IsFormatAnswer is_room is_risen (Ok done) = is_room
IsFormatAnswer is_room is_risen (Err Refusal.BadArg) = is_room → ⊥
IsFormatAnswer is_room is_risen (Err Refusal.Fault) = is_room × is_risen
IsFormatAnswer is_room is_risen (Err e) = ⊥

-- The area of an empty store of the format: one block, of the image of nothing, and a closed gate.
abbrev pub empty_area : Format → List ℕ
empty_area format = row (spelling (Record.Marks format 1 0 ∷ (Record.ImageEnd ∷ [])) ∷ []) ++ 0 ∷ []

-- The head of a store of this version with areas of this size, but for its gate, and a root byte
-- that picks the first area.
pub record IsHeadOf (version : Format) (area : ℕ) (bytes : List ℕ) : Type 0 where
  pub letters : take gate_at bytes ≡ letters_of version
  pub area_is : take 8 (drop size_at bytes) ≡ to_be_bytes w64 area
  pub root : take 1 (drop root_at bytes) ≡ 0 ∷ []

-- The bytes of an empty store of this version with areas of this size, but for the gate of its
-- head. Its area is of the format of the same number.
pub record IsFilled (version : Format) (area : ℕ) (bytes : List ℕ) : Type 0 where
  pub head : IsHeadOf version area bytes
  pub image : take 24 (drop areas_at bytes) ≡ empty_area version

-- the gate of the head is closed, as 0
abbrev pub IsShut : List ℕ → Type 0
IsShut bytes = get_or bytes gate_at 0 ≡ 0

-- The bytes are those of a new store of this version: a head with an open gate, a root byte that
-- picks the first area, and in it the image of nothing alone. They are sound, and stand for a store
-- with no collection.
pub record IsEmptyStore (version : Format) (bytes : List ℕ) : Type 0 where
  pub area : ℕ
  pub header : IsHeader version area bytes
  pub filled : IsFilled version area bytes
  pub sound : IsSound bytes
  pub stands : StandsFor bytes []

-- What a stop may leave of the old bytes while a store is made: these, with any value for the gate
-- of the head; no store; or the one that is made.
abbrev pub IsMaking : (List ℕ → Type 0) → List ℕ → List ℕ → Type 0
IsMaking is_made old bytes = Torn 8 1 old bytes ⊎ (HasNoHeader bytes ⊎ is_made bytes)

-- What a stop in a format may leave: the store that is made is an empty one.
abbrev pub IsFormatting : (version : Format) → List ℕ → List ℕ → Type 0
IsFormatting version old bytes = IsMaking (IsEmptyStore version) old bytes
