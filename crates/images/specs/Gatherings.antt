-- What a book keeps while it is gathered, beside the steps of its machine.
use Rattle.std.specs.Prelude.{◌≡◌, ◌≢◌, ℕ, ◌+◌, ◌==◌, ◌<◌, ◌≤◌, ◌⊎◌, Bool, true, false, cond}
use Rattle.std.specs.Prelude.{nat_le, nat_lt, List, [], ◌++◌, length, map, slice_get}
use Rattle.std.specs.Prelude.{Some, Option, Result, Ok, Err, IfOk, IfErr}
use Rattle.std.specs.List.{AllByRecursion}
use Rattle.std.specs.Option.{option_map, option_to_list}
use Rattle.calls.specs.declared.refusal.Refusal.{Refusal}
use Rattle.calls.specs.Contents.{Collection}
use Rattle.calls.specs.Formats.{widest}
use Rattle.calls.specs.Rules.{IsShort, inverse_of}
use Rattle.calls.specs.Transactions.{Event, Leads}
use Rattle.calls.specs.Limits.{number_end}
use Rattle.boosted.specs.Meaning.{Meaning, Undoes}
use Rattle.steps.specs.Machine.{State, Does}
use Rattle.undo_log.specs.Logs.{Log}
use Rattle.images.specs.declared.effect.Effect.{Effect}
use Rattle.images.specs.declared.gather.ImageHead.{ImageHead}
use Rattle.images.specs.Gathers.{GatherState, FrozenState, with_gathered, gathered, caught_up}
use Rattle.images.specs.Images.{TellsTransactions}
use Rattle.images.specs.Following.{Follows, CameBy}

-- the most effects that wait to be repeated on the copies
abbrev pub max_effects : ℕ
max_effects = 16384

pub record GatheringState : Type 0 where
  -- how many gatherings were begun
  pub begun : ℕ
  -- the last of them is under way: it was not given up, and nothing was frozen
  pub going : Bool
  -- the calls that were run since it was handed some
  pub effects : List Effect

-- where nothing was gathered yet
abbrev pub none_begun : GatheringState
none_begun = record { begun = 0; going = false; effects = [] }

-- no gathering is under way
abbrev pub given_up : GatheringState → GatheringState
given_up n = record n { going = false; effects = [] }

-- The calls are noted behind the others, if a gathering is under way: as long as there are 16,384
-- at most. With more it is given up.
abbrev pub noted : GatheringState → List Effect → GatheringState
noted n es = cond n.going (cond (nat_le (length n.effects + length es) max_effects)
    (record n { effects = n.effects ++ es }) (given_up n)) n

-- The calls that are made ready to be noted: none where no gathering is under way.
abbrev pub to_note : GatheringState → List Effect → List Effect
to_note n es = cond n.going es []

-- What holds of every gathering, where there is room for so many calls: while it is under way there
-- is room for 16,384.
pub record IsKept (n : GatheringState) (room : ℕ) : Type 0 where
  pub few : n.begun ≤ number_end
  pub first : n.going ≡ true → 1 ≤ n.begun
  pub none : n.going ≡ false → n.effects ≡ []
  pub fit : length n.effects ≤ max_effects
  pub roomy : n.going ≡ true → max_effects ≤ room
  pub short : AllByRecursion (λ e. IsShort widest e.call) n.effects

-- ---- what is taken and what is marked

-- what is copied of a collection, as a collection
abbrev pub part_of : {P : Type 0} → (P → Collection) → Result (Option P) Refusal →
    Result (Option Collection) Refusal
part_of collection (Ok o) = Ok (option_map collection o)
part_of collection (Err e) = Err e

-- These are the live transactions of the state, and its format and wear are marked.
pub record IsMarked {S : Type 0} (s : State S) (log : Log) (image_head : ImageHead) : Type 0 where
  pub live : log.live ≡ s.live
  pub entries : log.entries ≡ s.entries
  pub format : image_head.format ≡ s.format
  pub wear : image_head.wear ≡ s.wear

-- ---- what the calls did

-- the call with its reply, as transactions are told
abbrev pub event_in : Effect → Event
event_in e = record { at = e.collection; call = e.call; reply = e.reply }

-- the call, where the record that tells of it is the one at the LSN
abbrev pub effect_at : (lsn : ℕ) → Event → Effect
effect_at lsn e =
    record { lsn = lsn; collection = e.at; call = e.call; reply = e.reply }

-- The calls lead from one content to another, can be spelled, and are told of by the record at the
-- LSN.
pub record AreRun {S : Type 0} (meaning : Meaning S ℕ) (lsn : ℕ) (es : List Effect) (s t : S) :
    Type 0 where
  pub leads : Leads (Does meaning) (map event_in es) s t
  pub short : AllByRecursion (λ e. IsShort widest e.call) es
  pub there : AllByRecursion (λ e. e.lsn ≡ lsn) es

-- The calls are the inverse of this one, on its collection, or none where it has no inverse.
abbrev pub IsInverse : Event → List Effect → Type 0
IsInverse x es = AllByRecursion (λ e. e.collection ≡ x.at) es ×
    (map (λ e. e.call) es ≡ option_to_list (inverse_of x.call x.reply))

-- The calls, one at most, take this call back from one content to another.
pub record TakesBack {S : Type 0} (meaning : Meaning S ℕ) (lsn : ℕ) (x : Event)
    (es : List Effect) (s t : S) : Type 0 where
  pub undoes : Undoes meaning s x.at x.call x.reply t
  pub run : AreRun meaning lsn es s t
  pub one : length es ≤ 1
  pub inverse : IsInverse x es

-- ---- what goes along

-- What is gathered is not new, and is of the gathering that is under way.
abbrev pub IsUnderWay : GatheringState → GatherState → Type 0
IsUnderWay n g = (g.mark ≢ 0) × (n.going ≡ true) × (g.mark ≡ n.begun)

-- What is gathered may be gone on with: it is new, and another gathering can be begun, or it is of
-- the one that is under way.
abbrev pub CanGoOn : GatheringState → GatherState → Type 0
CanGoOn n g = ((g.mark ≡ 0) × (n.begun < number_end)) ⊎ IsUnderWay n g

-- It is not new, and is not of the gathering that is under way. All is as before.
abbrev pub IsOutrun : (n : GatheringState) → (g : GatherState) → (m : GatheringState) →
    (h : GatherState) → Type 0
IsOutrun n g m h = (m ≡ n) × (h ≡ g) × (g.mark ≢ 0) × (IsUnderWay n g → ⊥)

-- The gathering with which is gone on: another one for what is new, which has taken nothing.
abbrev pub gone_on : GatheringState → GatherState → GatheringState
gone_on n g = cond (g.mark == 0) (record { begun = n.begun + 1; going = true; effects = [] }) n

-- When each answer of a gathering comes, where these are the collections.
abbrev pub GatherAnswers : List Collection → (lsn : ℕ) → (n : GatheringState) →
    (g : GatherState) → Result Bool Refusal → (m : GatheringState) → (h : GatherState) → Type 0
GatherAnswers xs lsn n g (Ok more) m h =
    ((g.mark ≡ 0) ⊎ IsUnderWay n g) × (m ≡ record (gone_on n g) { effects = [] }) ×
    (h ≡ with_gathered g m.begun (slice_get xs (length g.parts)) lsn (gone_on n g).effects) ×
    (more ≡ nat_lt (length h.parts) (length xs))
GatherAnswers xs lsn n g (Err Refusal.Outrun) m h = IsOutrun n g m h
GatherAnswers xs lsn n g (Err Refusal.Worn) m h =
    (m ≡ n) × (h ≡ g) × (g.mark ≡ 0) × (n.begun ≡ number_end)
GatherAnswers xs lsn n g (Err Refusal.NoMemory) m h =
    (m ≡ n) × (h ≡ g) × (((g.mark ≡ 0) × (n.begun < number_end)) ⊎ IsUnderWay n g)
GatherAnswers xs lsn n g (Err e) m h = ⊥

-- What is gathered is of the gathering that is under way, and all of these collections are copied.
abbrev pub IsWhole : List Collection → GatheringState → GatherState → Type 0
IsWhole xs n g = IsUnderWay n g × (length xs ≤ length g.parts)

-- A freeze is refused so: where nothing is gathered, else where the gathering is not under way,
-- else where a collection is not copied.
abbrev pub FreezeRefused : List Collection → GatheringState → GatherState → Refusal → Type 0
FreezeRefused xs n g Refusal.Unfinished =
    (g.mark ≡ 0) ⊎ (IsUnderWay n g × (length g.parts < length xs))
FreezeRefused xs n g Refusal.Outrun = (g.mark ≢ 0) × (IsUnderWay n g → ⊥)
FreezeRefused xs n g e = ⊥

module _ {S : Type 0} (collections : S → List Collection) where
  -- What is gathered is of this gathering, and goes along with the collections, of which so many
  -- records told: once all calls are repeated on the copies, they hold what the collections hold.
  pub record GoesAlong (n : GatheringState) (now : S) (lsn : ℕ) (g : GatherState) :
      Type 0 where
    pub mark : g.mark ≡ n.begun
    pub follows : Follows g n.effects (collections now)
    pub came : CameBy g n.effects lsn

  -- What went along before goes along behind, as long as the gathering is not given up.
  pub record KeepsGoing (n : GatheringState) (s : S) (lsn : ℕ) (m : GatheringState) (t : S)
      (next : ℕ) : Type 0 where
    pub begun : m.begun ≡ n.begun
    pub going : m.going ≡ true → n.going ≡ true
    pub along : m.going ≡ true → (g : GatherState) → GoesAlong n s lsn g →
        GoesAlong m t next g

  -- What is gathered holds all of the state, and where it stands: once all calls are repeated, the
  -- copies hold what all the collections hold, and beside them stand the head, and records that
  -- tell of the live transactions.
  pub record HoldsAll (next place lsn : ℕ) (s : State S) (g : GatherState) : Type 0 where
    pub frozen : FrozenState
    pub is_frozen : g.frozen ≡ Some frozen
    pub image_head : frozen.image_head ≡
        record { format = s.format; next = next; wear = s.wear; end = lsn; place = place }
    pub tells : TellsTransactions s.live s.entries frozen.live
    pub copies : gathered (caught_up g.parts g.effects) ≡ collections s.now

  -- What is gathered may be gone on with: what is new has taken nothing, and what is of the
  -- gathering that is under way goes along.
  pub record IsOfThis (n : GatheringState) (now : S) (lsn : ℕ) (g : GatherState) :
      Type 0 where
    pub new : g.mark ≡ 0 → (g.parts ≡ []) × (g.effects ≡ [])
    pub along : IsUnderWay n g → GoesAlong n now lsn g

  -- It is gathered of these collections, of which there are so many. Where it may be gone on with,
  -- the part is a copy of the next one, if one is left, or there was no memory for it.
  pub record IsNextOf (n : GatheringState) (now : S) (lsn : ℕ) (g : GatherState) (many : ℕ)
      (part : Result (Option Collection) Refusal) : Type 0 where
    pub of_this : IsOfThis n now lsn g
    pub count : many ≡ length (collections now)
    pub copied : CanGoOn n g → IfOk part (λ p. p ≡ slice_get (collections now) (length g.parts))
    pub refused : IfErr part (λ e. e ≡ Refusal.NoMemory)
