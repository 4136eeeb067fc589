-- The records of an area, read one after another: what each of them asks, and where it leads. This
-- is the grammar of image and journal with all that is tested; and sound bytes.
use Rattle.std.specs.Prelude.{◌≡◌, ℕ, ◌+◌, ◌≤◌, max, List, [], ◌∷◌, ◌++◌, Option, Some, None}
use Rattle.calls.specs.declared.kind.Kind.{Kind}
use Rattle.calls.specs.declared.format.Format.{Format}
use Rattle.calls.specs.Formats.{Allows}
use Rattle.calls.specs.declared.item.Item.{Item}
use Rattle.calls.specs.Contents.{Collection}
use Rattle.calls.specs.Transactions.{Leads}
use Rattle.calls.specs.Limits.{max_wear}
use Rattle.catalog.specs.Making.{names_of, IsNew}
use Rattle.catalog.specs.Holdings.{Follows}
use Rattle.records.specs.declared.record.Record.{Record}
use Rattle.records.specs.Records.{named_by, AreRecords}
use Rattle.records.specs.Reached.{IsReached}
use Rattle.records.specs.Short.{IsShortItem}
use Rattle.steps.specs.Machine.{IsSettled}
use Rattle.steps.specs.Machines.{resting}
use Rattle.replay.specs.Loading.{LoadRow, LiveSteps}
use Rattle.replay.specs.Journals.{Holds, records_in}
use Rattle.replay.specs.Steps.{State, Steps}
use Rattle.catalog.specs.Meaning.{catalog_meaning, catalog_making}

-- A collection of which an image tells: its name and kind, and its items so far.
pub record Named : Type 0 where
  pub name : List ℕ
  pub kind : Kind
  pub items : List Item

-- What was read so far. The number is above every number that was entered.
pub data Progress : Type 0 where
  -- nothing, on a disk of this version
  Unread : (version : Format) → Progress
  -- collections, and the one of which the image tells now
  InCollections : (next : ℕ) → State → Option Named → Progress
  -- the numbers that were live, and what they had asked for
  InNumbers : (next : ℕ) → State → Progress
  InCalls : (next : ℕ) → State → Progress
  -- so many records of the journal
  InJournal : (next : ℕ) → State → (count : ℕ) → Progress

-- the next number once the record is there
abbrev pub next_after : ℕ → Record → ℕ
next_after next (Record.Begin n) = max next (n + 1)
next_after next r = next

-- the kind that is named last behind the records, where this one was named last before them
abbrev pub last_named : Option Kind → List Record → Option Kind
last_named last [] = last
last_named last (r ∷ rs) = last_named (named_by last r) rs

-- The collection is told whole: it comes to the end of the others.
abbrev pub Closes : State → Option Named → State → Type 0
Closes s None t = t ≡ s
Closes s (Some x) t = LoadRow (λ v. v) catalog_meaning catalog_making s x.name x.kind x.items t

-- a record of what was live when the image was taken leads on
abbrev pub HoldsLive : State → Record → State → Type 0
HoldsLive s r t = LiveSteps catalog_meaning s r t

-- The calls of the transactions that were live lead from some content to what the collections hold.
abbrev pub Settles : State → Type 0
Settles s = (start : List Collection) × IsSettled catalog_meaning s start

-- what may come once all collections are told
abbrev pub ReadsLive : ℕ → State → Record → Progress → Type 0
ReadsLive next s (Record.Begin n) p =
    (t : State) × HoldsLive s (Record.Begin n) t × (p ≡ InNumbers (max next (n + 1)) t)
ReadsLive next s (Record.LiveCall c) p =
    (t : State) × HoldsLive s (Record.LiveCall c) t × (p ≡ InCalls next t)
ReadsLive next s (Record.LiveLater l) p =
    (t : State) × HoldsLive s (Record.LiveLater l) t × (p ≡ InCalls next t)
ReadsLive next s Record.ImageEnd p = Settles s × (p ≡ InJournal next s 0)
ReadsLive next s r p = ⊥

-- The record leads from what was read before it to this.
abbrev pub Reads : Progress → Record → Progress → Type 0
Reads (Unread version) (Record.Marks format next wear) p =
    Allows version format × (wear ≤ max_wear) ×
    (p ≡ InCollections next (resting format [] wear) None)
Reads (InCollections next s last) (Record.Name kind name) p =
    (t : State) × Closes s last t × IsNew (names_of t.now) name ×
    (p ≡ InCollections next t (Some (record { name = name; kind = kind; items = [] })))
Reads (InCollections next s (Some x)) (Record.Item i) p =
    Follows x.kind x.items i × IsShortItem s.format i × IsReached s.wear i ×
    (p ≡ InCollections next s (Some
    (record { name = x.name; kind = x.kind; items = x.items ++ i ∷ [] })))
Reads (InCollections next s last) r p = (t : State) × Closes s last t × ReadsLive next t r p
Reads (InNumbers next s) r p = ReadsLive next s r p
Reads (InCalls next s) (Record.Begin n) p = ⊥
Reads (InCalls next s) r p = ReadsLive next s r p
Reads (InJournal next s count) r p =
    (t : State) × Steps s r t × (p ≡ InJournal (next_after next r) t (count + 1))
Reads q r p = ⊥

-- On a disk of this version the records are an image that can be read and a journal of so many
-- records that the machine repeats: they lead to the state, whose format is that of the image's
-- marks, and the number is above every number that they enter.
abbrev pub AreAccepted : (version : Format) → List Record → (next : ℕ) → State → (count : ℕ) →
    Type 0
AreAccepted version rs next s count = Leads Reads rs (Unread version) (InJournal next s count)

-- The bytes are sound: what the area in use holds is read without a fault. Transactions may be live
-- at its end.
pub record IsSound (bytes : List ℕ) : Type 0 where
  pub blocks : List (List Record)
  pub holds : Holds bytes blocks
  pub good : AreRecords None (records_in blocks)
  pub next : ℕ
  pub end : State
  pub count : ℕ
  pub accepted : AreAccepted holds.version (records_in blocks) next end count
