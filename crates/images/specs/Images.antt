-- The parts of an image, as records, and the whole image in blocks.
use Rattle.std.specs.Prelude.{◌≡◌, ℕ, ◌<◌, ◌≤◌, ◌^◌, ◌↔◌, List, ◌∷◌, [], ◌++◌, length, map}
use Rattle.std.specs.Prelude.{Contains, Option, None}
use Rattle.std.specs.List.{AllByRecursion, flat_map}
use Rattle.calls.specs.Transactions.{Entry}
use Rattle.std.specs.declared.vec.Vec.{Vec}
use Rattle.std.specs.declared.alloc.Global.{Global}
use Rattle.calls.specs.declared.kind.Kind.{Kind}
use Rattle.calls.specs.declared.format.Format.{Format}
use Rattle.calls.specs.Contents.{Collection}
use Rattle.calls.specs.Limits.{number_end}
use Rattle.catalog.specs.declared.shown.Shown.{Shown}
use Rattle.undo_log.specs.Logs.{Statuses, Lives}
use Rattle.records.specs.declared.record.Record.{Record}
use Rattle.records.specs.Records.{AreRecords}
use Rattle.records.specs.Images.{TellOf, Rise, IsImage}
use Rattle.steps.specs.Machine.{State}
use Rattle.records.specs.Drafts.{ArePacked}
use Rattle.records.specs.Packings.{joined, AreWhole}
use Rattle.images.specs.LiveRecords.{live_record, live_records}

-- The records say that the live transactions, each once and rising, began.
pub record TellsLive (live : Statuses) (rs : List Record) : Type 0 where
  pub numbers : List ℕ
  pub are : rs ≡ map Record.Begin numbers
  pub rise : Rise numbers
  pub are_live : (n : ℕ) → Contains numbers n ↔ Lives live n

-- The records tell of live transactions: that each began, by rising number, and then what they
-- asked for, in the order asked.
pub record TellsTransactions (live : Statuses) (entries : List (ℕ × Entry)) (rs : List Record) :
    Type 0 where
  pub numbers : List ℕ
  pub rise : Rise numbers
  pub are_live : (n : ℕ) → Contains numbers n ↔ Lives live n
  pub are : rs ≡ map Record.Begin numbers ++ flat_map (live_record live) entries

-- The records show a collection.
abbrev pub AreOf : Shown → List Record → Type 0
AreOf shown rs = rs ≡ Record.Name shown.kind shown.name ∷ map Record.Item shown.items.items

-- The records are an image of the state, with the mark of the next number.
pub record TellsState {S : Type 0} (collections : S → List Collection) (next : ℕ) (s : State S)
    (rs : List Record) : Type 0 where
  pub numbers : List ℕ
  pub are_live : (n : ℕ) → Contains numbers n ↔ Lives s.live n
  pub is_image : IsImage s.format next s.wear (collections s.now) numbers (live_records s) rs

-- The records tell of these collections beside what is live: the head, the collections, the live
-- transactions, and the end.
pub record TellsGathered (format : Format) (next wear : ℕ) (xs : List Collection)
    (live rs : List Record) :
    Type 0 where
  pub told : List Record
  pub tells : TellOf xs told
  pub is : rs ≡ Record.Marks format next wear ∷ (told ++ (live ++ Record.ImageEnd ∷ []))

-- The head is in range, and the records of the live transactions may stand anywhere.
pub record CanStand (next wear : ℕ) (live : List Record) : Type 0 where
  pub low : 1 ≤ next
  pub high : next ≤ number_end
  pub worn : wear < 2 ^ 64
  pub good : (last : Option Kind) → AreRecords last live

-- The blocks hold records of which P holds, and each is whole and as full as it can be.
pub record IsPacked (P : List Record → Type 0) (blocks : List (Vec ℕ Global)) : Type 0 where
  pub groups : List (List Record)
  pub tells : P (joined groups)
  pub good : AreRecords None (joined groups)
  pub packed : ArePacked groups × AllByRecursion (λ g. 0 < length g) groups
  pub whole : AreWhole blocks groups

-- The blocks hold an image of the state.
abbrev pub IsPackedImage : {S : Type 0} → (S → List Collection) → (next : ℕ) → State S →
    List (Vec ℕ Global) → Type 0
IsPackedImage collections next s blocks = IsPacked (TellsState collections next s) blocks
