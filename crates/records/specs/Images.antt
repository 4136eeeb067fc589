-- What an image tells of: the collections with their items, the transactions that were live, and
-- what these had asked for.
use Rattle.std.specs.Prelude.{◌≡◌, ℕ, ◌<◌, List, [], ◌∷◌, ◌++◌, map}
use Rattle.std.specs.List.{AllByRecursion}
use Rattle.calls.specs.declared.item.Item.{Item}
use Rattle.calls.specs.declared.format.Format.{Format}
use Rattle.calls.specs.Contents.{Collection, kind_of_content}
use Rattle.calls.specs.Transactions.{Entry, Asked, Deferred}
use Rattle.catalog.specs.Holdings.{ListsContent}
use Rattle.records.specs.declared.record.Record.{Record}
use Rattle.records.specs.Acts.{event_of}

-- The records tell of one collection: its kind and name, and its items in their order.
pub record TellsOf (x : Collection) (rs : List Record) : Type 0 where
  pub items : List Item
  pub lists : ListsContent items x.content
  pub is : rs ≡ Record.Name (kind_of_content x.content) x.name ∷ map Record.Item items

-- They tell of these collections, one after another.
abbrev pub TellOf : List Collection → List Record → Type 0
TellOf [] rs = rs ≡ []
TellOf (x ∷ xs) rs = (first rest : List Record) × (rs ≡ first ++ rest) × TellsOf x first ×
    TellOf xs rest

-- a call, or one that was deferred, of a transaction that was live when the image was taken
abbrev pub IsLiveRecord : Record → Type 0
IsLiveRecord (Record.LiveCall c) = Unit {0}
IsLiveRecord (Record.LiveLater l) = Unit {0}
IsLiveRecord r = ⊥

-- what such records say was asked for, each with the number of its transaction
abbrev pub owned_entries : List Record → List (ℕ × Entry)
owned_entries [] = []
owned_entries (Record.LiveCall c ∷ rs) = (c.number, Asked (event_of c)) ∷ owned_entries rs
owned_entries (Record.LiveLater l ∷ rs) =
    (l.number, Deferred l.collection l.call) ∷ owned_entries rs
owned_entries (r ∷ rs) = owned_entries rs

-- each number is below all that come behind it
abbrev pub Rise : List ℕ → Type 0
Rise [] = Unit {0}
Rise (n ∷ ns) = AllByRecursion (λ m. n < m) ns × Rise ns

-- The records are an image in a format: the marks, which are a number above all that were entered
-- and the wear; the collections; the numbers that were live, rising; what these had asked for, in
-- the order asked; and the end.
pub record IsImage (format : Format) (next wear : ℕ) (shown : List Collection) (numbers : List ℕ)
    (live rs : List Record) : Type 0 where
  pub told : List Record
  pub tells : TellOf shown told
  pub rise : Rise numbers
  pub all_live : AllByRecursion IsLiveRecord live
  pub is : rs ≡ Record.Marks format next wear ∷
      (told ++ (map Record.Begin numbers ++ (live ++ Record.ImageEnd ∷ [])))
