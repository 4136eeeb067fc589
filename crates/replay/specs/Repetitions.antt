-- What an opening has read so far.
use Rattle.std.specs.Prelude.{◌≡◌, ◌⊎◌, ℕ, List, [], Option, None, IfSome}
use Rattle.std.specs.Option.{option_map}
use Rattle.std.specs.List.{AllByRecursion}
use Rattle.std.specs.FinMap as maps
use Rattle.calls.specs.declared.kind.Kind.{Kind}
use Rattle.calls.specs.declared.format.Format.{Format}
use Rattle.calls.specs.declared.refusal.Refusal.{Refusal}
use Rattle.calls.specs.Names.{IsName}
use Rattle.calls.specs.Transactions.{Leads}
use Rattle.catalog.specs.Holdings.{AreInOrder}
use Rattle.records.specs.declared.record.Record.{Record}
use Rattle.records.specs.Records.{IsRecord}
use Rattle.records.specs.Short.{IsShortItem}
use Rattle.steps.specs.Machines.{Alike}
use Rattle.replay.specs.declared.stage.Stage.{Stage}
use Rattle.replay.specs.declared.stage.Told.{Told}
use Rattle.replay.specs.Steps.{State}
use Rattle.replay.specs.Reading.{Named, Progress, Unread, InCollections, InNumbers, InCalls}
use Rattle.replay.specs.Reading.{InJournal, Reads, ReadsLive, next_after}

-- The same progress, but for the order in which the needs are kept.
abbrev pub AlikeProgress : Progress → Progress → Type 0
AlikeProgress (Unread v) (Unread w) = v ≡ w
AlikeProgress (InCollections m u x) (InCollections n s y) = (m ≡ n) × Alike u s × (x ≡ y)
AlikeProgress (InNumbers m u) (InNumbers n s) = (m ≡ n) × Alike u s
AlikeProgress (InCalls m u) (InCalls n s) = (m ≡ n) × Alike u s
AlikeProgress (InJournal m u j) (InJournal n s k) = (m ≡ n) × Alike u s × (j ≡ k)
AlikeProgress p q = ⊥

-- On a disk of this version the records lead to this progress, and to no other but in the order of
-- the needs.
pub record LeadsTo (version : Format) (rs : List Record) (p : Progress) : Type 0 where
  pub leads : Leads Reads rs (Unread version) p
  pub only : (q : Progress) → Leads Reads rs (Unread version) q → AlikeProgress q p

-- The record leads from the one to the other, and from each progress like the one to one like the
-- other.
pub record Takes (p : Progress) (r : Record) (q : Progress) : Type 0 where
  pub reads : Reads p r q
  pub alike : (u v : Progress) → AlikeProgress u p → Reads u r v → AlikeProgress v q

-- The record leads on from no progress like this.
abbrev pub IsStuck : Progress → Record → Type 0
IsStuck p r = (u v : Progress) → AlikeProgress u p → Reads u r v → ⊥

-- ---- stages of the code

abbrev pub named_of : Told → Named
named_of x = record { name = x.name; kind = x.kind; items = x.items.items }

-- The collection of which an image tells now has a good name, and items in order that are short
-- enough for the format.
pub record IsTold (format : Format) (x : Told) : Type 0 where
  pub name : IsName x.name
  pub short : AllByRecursion (IsShortItem format) x.items.items
  pub order : (x.items.items ≡ []) ⊎ AreInOrder x.kind x.items.items

-- What holds of every stage: no transaction is live before all collections are told.
abbrev pub IsFit : Stage → Type 0
IsFit (Stage.Collections x) = (x.loader.live ≡ maps.empty) × IfSome x.last (IsTold x.loader.format)
IsFit other = Unit {0}

-- the progress at this stage, with that number above every number that was entered
abbrev pub progress_of : Stage → (next : ℕ) → Progress
progress_of (Stage.Unread version) next = Unread version
progress_of (Stage.Collections x) next = InCollections next x.loader (option_map named_of x.last)
progress_of (Stage.Numbers s) next = InNumbers next s
progress_of (Stage.Calls s) next = InCalls next s
progress_of (Stage.Journal s count) next = InJournal next s count

-- how many records of the journal were repeated
abbrev pub count_of : Stage → ℕ
count_of (Stage.Journal s count) = count
count_of other = 0

-- the next number once the record is there: the marks of an image say one
abbrev pub number_behind : ℕ → Record → ℕ
number_behind next (Record.Marks format first wear) = first
number_behind next r = next_after next r

-- The record leads from one stage to another, whatever the next number is;
abbrev pub LeadsOn : Stage → Record → Stage → Type 0
LeadsOn a r b = (n : ℕ) → Takes (progress_of a n) r (progress_of b (number_behind n r))

-- or nowhere.
abbrev pub IsNoStep : Stage → Record → Type 0
IsNoStep a r = (n : ℕ) → IsStuck (progress_of a n) r

-- A record of what was live, or the image's end, leads on from the state where all collections are
-- told;
pub record LiveLeads (s : State) (r : Record) (b : Stage) (n : ℕ) : Type 0 where
  pub reads : ReadsLive n s r (progress_of b (number_behind n r))
  pub alike : (u : State) (v : Progress) → Alike u s → ReadsLive n u r v →
      AlikeProgress v (progress_of b (number_behind n r))

-- or nowhere.
abbrev pub IsNoLive : State → Record → Type 0
IsNoLive s r = (n : ℕ) (u : State) (v : Progress) → Alike u s → ReadsLive n u r v → ⊥

abbrev pub IsBegin : Record → Type 0
IsBegin (Record.Begin n) = Unit {0}
IsBegin r = ⊥

abbrev pub IsItem : Record → Type 0
IsItem (Record.Item i) = Unit {0}
IsItem r = ⊥

-- ---- refusals

-- A refusal for want of memory, or of damage at the place that is there.
abbrev pub IsDamageOr : ℕ → Type 0 → Refusal → Type 0
IsDamageOr place damaged Refusal.NoMemory = Unit {0}
IsDamageOr place damaged (Refusal.Damaged p) = (p ≡ place) × damaged
IsDamageOr place damaged e = ⊥

-- records that may stand where no kind was named
abbrev pub AreRead : List Record → Type 0
AreRead rs = AllByRecursion (IsRecord None) rs

-- The record may stand where some kind was named last, or none.
abbrev pub IsSomeRecord : Record → Type 0
IsSomeRecord r = (last : Option Kind) × IsRecord last r
