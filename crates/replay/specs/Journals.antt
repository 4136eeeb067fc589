-- What the bytes of a disk stand for: by the grammar of blocks and records, and by transactions run
-- whole. No need, no inverse and no machine is named.
use Rattle.std.specs.Prelude.{◌≡◌, ℕ, ◌+◌, ◌*◌, ◌≤◌, List, [], ◌∷◌, ◌++◌, length, take, drop}
use Rattle.std.specs.Prelude.{map, get_or, codes, Option, None}
use Rattle.std.specs.List.{flat_map, AllByRecursion}
use Rattle.std.specs.Int.{w64, to_be_bytes}
use Rattle.calls.specs.declared.kind.Kind.{Kind}
use Rattle.calls.specs.declared.format.Format.{Format}
use Rattle.calls.specs.Formats.{max_area, Allows}
use Rattle.calls.specs.Contents.{Collection}
use Rattle.calls.specs.Transactions.{Leads, Does, calls_of, Serial, committed}
use Rattle.calls.specs.Limits.{min_area}
use Rattle.gate_block.specs.Row.{IsRow}
use Rattle.gate_block.specs.Layout.{area_in_use}
use Rattle.gate_block.specs.Layout.{gate_at, areas_at, size_at}
use Rattle.gate_block.specs.Row.{open_gate}
use Rattle.records.specs.declared.record.Record.{Record}
use Rattle.records.specs.Records.{spelling, Fits, Suits, named_by}
use Rattle.records.specs.Short.{IsOf}
use Rattle.records.specs.Acts.{acts_of}
use Rattle.records.specs.Images.{IsImage, owned_entries}

-- the letters that a disk of the version begins with
abbrev pub letters_of : Format → List ℕ
letters_of Format.One = codes "BOOSTED1"
letters_of Format.Two = codes "BOOSTED2"

-- The head of a disk of this version whose areas have this size: eight letters, an open gate, the
-- size.
pub record IsHeader (version : Format) (size : ℕ) (bytes : List ℕ) : Type 0 where
  pub letters : take gate_at bytes ≡ letters_of version
  pub gate : get_or bytes gate_at 0 ≡ open_gate
  pub area : take 8 (drop size_at bytes) ≡ to_be_bytes w64 size
  pub not_small : min_area ≤ size
  pub not_large : size ≤ max_area version
  pub whole : length bytes ≡ areas_at + 2 * size

-- the records of all blocks, in order
abbrev pub records_in : List (List Record) → List Record
records_in blocks = flat_map (λ rs. rs) blocks

-- Records one after another that have a spelling, each item of them of the kind that was named
-- last.
abbrev pub AreSpelt : Option Kind → List Record → Type 0
AreSpelt last [] = Unit {0}
AreSpelt last (r ∷ rs) = (Fits r × Suits last r) × AreSpelt (named_by last r) rs

-- The area in use is a row of blocks whose bodies spell these records, block by block. It has a
-- format that the disk may have, and each record is one of that.
pub record Holds (bytes : List ℕ) (blocks : List (List Record)) : Type 0 where
  pub version : Format
  pub size : ℕ
  pub header : IsHeader version size bytes
  pub format : Format
  pub allowed : Allows version format
  pub row : IsRow (map spelling blocks) (area_in_use size bytes)
  pub spelt : AreSpelt None (records_in blocks)
  pub of_format : AllByRecursion (IsOf format) (records_in blocks)

-- what stands in a journal, behind an image
abbrev pub IsJournalRecord : Record → Type 0
IsJournalRecord (Record.Make kind name) = Unit {0}
IsJournalRecord (Record.Call c) = Unit {0}
IsJournalRecord (Record.Later l) = Unit {0}
IsJournalRecord (Record.Commit n) = Unit {0}
IsJournalRecord (Record.Back n) = Unit {0}
IsJournalRecord (Record.Ended n) = Unit {0}
IsJournalRecord (Record.Begin n) = Unit {0}
IsJournalRecord r = ⊥

-- The bytes stand for the content: the area in use is an image and a journal; from some content the
-- live calls of the image lead to the image's, and from it the transactions that image and journal
-- show as committed lead, each run whole, to the content.
pub record StandsFor (bytes : List ℕ) (content : List Collection) : Type 0 where
  -- the records that the disk holds
  pub blocks : List (List Record)
  pub holds : Holds bytes blocks
  -- which of them are the image, and which the journal
  pub image : List Record
  pub journal : List Record
  pub split : records_in blocks ≡ image ++ journal
  pub all_journal : AllByRecursion IsJournalRecord journal
  -- what the image shows
  pub next : ℕ
  pub wear : ℕ
  pub shown : List Collection
  pub numbers : List ℕ
  pub live : List Record
  pub is_image : IsImage holds.format next wear shown numbers live image
  -- to where the live calls of the image lead, and the committed transactions
  pub start : List Collection
  pub leads : Leads Does (calls_of (map (λ e. e.1) (owned_entries live))) start shown
  pub serial : Serial (committed (acts_of (records_in blocks))) start content
