-- What a program that works on the store of a disk leaves there.
use Rattle.std.specs.Prelude.{◌≡◌, ◌⊎◌, ℕ, ◌<◌, ◌≤◌, List, [], ◌∷◌, ◌++◌, Some, Result, Ok, IfOk}
use Rattle.std.specs.Prelude.{Contains, length, slice_get, slice_index_or, take}
use mathlib.Core.List.{IsPrefix}
use Rattle.calls.specs.Contents.{Collection}
use Rattle.calls.specs.declared.refusal.Refusal.{Refusal}
use Rattle.checkpoint.specs.Crash.{Yields}
use Rattle.disk_model.specs.Disk.{IsAtRest}
use Rattle.disk_model.specs.declared.disk.Disk.{Ghosts}
use Rattle.group_commit.specs.declared.mark.Raised.{Raised}
use Rattle.group_commit.specs.Lines.{numbers_of, AreDifferent, AreOf}
use Rattle.group_commit.specs.Marks.{AreReached}
use Rattle.group_commit.specs.declared.view.Party.{Party}
use Rattle.checkpoint.specs.Keepers.{KeeperState}
use Rattle.recovery.specs.Openings.{KeepsContent}
use Rattle.recovery.specs.Refusals.{IsOnlyOpened, OpeningLeaves}
use Rattle.replay.specs.Journals.{StandsFor}
use Rattle.desks.specs.Origins.{Origin}
use Rattle.desks.specs.Seen.{IsHistory, step_of}
use Rattle.clients.specs.Known.{Known, SeenState}
use Rattle.clients.specs.declared.ticket.Ticket.{Ticket}
use Rattle.store.specs.Closing.{Closes, WasKept}
use Rattle.desks.specs.declared.naming.Naming as namings
use Rattle.txn.specs.Books.{BookState}
use Rattle.txn.specs.declared.actions.Action.{Action}
use Rattle.txn.specs.declared.actions.BookStep.{BookStep}
use Rattle.txn.specs.Histories.{committed_by}
use Rattle.txn.specs.Rows.{Standing}

-- ---- what threads answer

-- The last step that the client has seen is its own commit of this place.
pub record HasCommitted (known : Known) (place : ℕ) : Type 0 where
  pub number : ℕ
  pub before : List BookStep
  pub ends : known.seen ≡
      before ++ step_of known.number (Action.Commit number (Ok place)) ∷ []

-- the client was told that all commits and makings up to the place are kept
abbrev pub WasToldKept : Known → ℕ → Type 0
WasToldKept known place = (x : Raised) × Contains known.counts x × (place ≤ x.count)

-- The client has committed at the place, as the last step that it has seen, and was told that all
-- up to there are kept.
abbrev pub HasKept : Known → ℕ → Type 0
HasKept known place = HasCommitted known place × WasToldKept known place

-- So it is with the place of the ticket that is answered. Of a refusal nothing is said.
abbrev pub IsKeptSo : {A E : Type 0} → Known → Result (A × Ticket) E → Type 0
IsKeptSo known answer = IfOk answer (λ done. HasKept known done.1.place)

-- What the client knew it knows still: it is the same one, it has seen as much and more, and no
-- count that it had loaded is gone.
pub record KnowsStill (old new : Known) : Type 0 where
  pub number : new.number ≡ old.number
  pub seen : IsPrefix old.seen new.seen
  pub counts : (x : Raised) → Contains old.counts x → Contains new.counts x

module _ {A : Type 0} (says : ℕ → A → Known → Type 0) where
  -- A thread's answer says so of what its client knew at the end, and the client's number is the
  -- thread's of these. The history begins with what the client had seen, and what it was told as
  -- kept is kept, and was from the moment on at which the mark was brought there.
  pub record IsTold (clients : List ℕ) (steps : List BookStep) (kept : ℕ)
      (was_kept : Raised → Type 0) (thread : ℕ) (answer : A) : Type 0 where
    pub known : Known
    pub said : says thread answer known
    pub number : slice_get clients thread ≡ Some known.number
    pub begins : IsPrefix known.seen steps
    pub reached : AreReached known.counts kept
    pub since : (x : Raised) → Contains known.counts x → 0 < x.count → was_kept x

  -- So it is with the answer of each thread. Each thread has a client of its own, and each step
  -- that has a client is of one of these.
  pub record AreTold (answers : List A) (kept : ℕ) (steps : List BookStep)
      (was_kept : Raised → Type 0) : Type 0 where
    pub clients : List ℕ
    pub count : length clients ≡ length answers
    pub apart : AreDifferent clients
    pub only : AreOf clients steps
    pub each : (thread : ℕ) (answer : A) → slice_get answers thread ≡ Some answer →
        IsTold clients steps kept was_kept thread answer

  -- A thread's answer says so of what its client knew, which was part of what it left.
  pub record IsSaid (thread : ℕ) (answer : A) (left : SeenState) : Type 0 where
    pub known : Known
    pub said : says thread answer known
    pub client : Party
    pub alone : left.clients ≡ client ∷ []
    pub number : client.number ≡ known.number
    pub seen : IsPrefix known.seen client.seen
    pub loaded : (x : Raised) → Contains known.counts x → Contains left.counts x

  -- so it is with the answers of so many threads, unless one was refused a client
  abbrev pub AreSaid : List (Result (A × SeenState) Refusal) → ℕ → Type 0
  AreSaid ended n = (thread : ℕ) (d : Result (A × SeenState) Refusal) → thread < n →
      IfOk (slice_index_or ended thread d) (λ e. IsSaid thread e.0 e.1)

  -- So it is, and what the client had seen and loaded is part of this: it is the thread's.
  pub record IsPart (left : SeenState) (thread : ℕ) (answer : A) : Type 0 where
    pub known : Known
    pub said : says thread answer known
    pub client : Party
    pub place : slice_get left.clients thread ≡ Some client
    pub number : client.number ≡ known.number
    pub seen : IsPrefix known.seen client.seen
    pub loaded : (x : Raised) → Contains known.counts x → Contains left.counts x

  -- so it is with the answer of each thread, and nobody else left anything
  pub record AreParts (answers : List A) (left : SeenState) : Type 0 where
    pub count : length left.clients ≡ length answers
    pub each : (thread : ℕ) (answer : A) → slice_get answers thread ≡ Some answer →
        IsPart left thread answer

-- ---- what is left

-- Clients took the steps of a legal history from the content, and the committer and the
-- checkpointer those of no client. Whatever a stop at any moment since this one might have left of
-- the disk is sound, and stands for a content that some beginning of the transactions gives that
-- the history commits, each run whole, one after another, with the replies that its client got; and
-- of what a stop leaves now, and of what a read gives, that beginning holds the first so many of
-- them. told: what is known of what the store was opened with, of the history, and of the counts
-- that were kept from a moment on; whose the steps are is known by it (`AreTold`).
pub record IsWorkedOn {D : Type 0} (g : Ghosts D)
    (told : Origin → List BookStep → (Raised → Type 0) → Type 0)
    (content : List Collection) (since : ℕ) (new : D) (kept : ℕ) : Type 0 where
  pub origin : Origin
  pub start : origin.start ≡ content
  pub steps : List BookStep
  pub behind : Standing (List Collection)
  pub history : IsHistory origin steps behind
  pub told_of : told origin steps (WasKept g new content (committed_by steps) since)
  pub any_moment : (bytes : List ℕ) → g.left_since new since bytes →
      Yields content (committed_by steps) [] bytes
  pub stop : (bytes : List ℕ) → g.may_leave new bytes →
      Yields content (committed_by steps) (take kept (committed_by steps)) bytes
  pub stands : Yields content (committed_by steps) (take kept (committed_by steps)) (g.seen new)

-- A store was opened, and worked on. Where the disk read true until it was open, there was a store,
-- and a stop in the opening leaves the content; and where it was at rest and its bytes stood for a
-- content, the work went on from that, and what is said of a stop at any moment is said of each
-- since the opening began.
pub record WasOpened {D : Type 0} (g : Ghosts D)
    (told : Origin → List BookStep → (Raised → Type 0) → Type 0) (old new : D) (kept : ℕ) :
    Type 0 where
  pub opened : D
  pub only_opened : g.is_honest opened → IsOnlyOpened g old opened
  pub keeps : g.is_honest opened →
      KeepsContent g.seen g.may_leave g.moment g.left_since old opened
  pub worked : g.is_honest opened → (content : List Collection) →
      IsAtRest g.seen g.may_leave old → StandsFor (g.seen old) content →
      IsWorkedOn g told content (g.moment old) new kept

-- The opening was refused: nothing more was written than that does, and a stop leaves the content.
-- Or the store was opened and worked on.
abbrev pub IsLeftByWork : {D : Type 0} (g : Ghosts D) → (old new : D) → (kept : ℕ) → Type 0
IsLeftByWork g old new kept = OpeningLeaves g old new
    ⊎ WasOpened g (λ origin steps was_kept. Unit {0}) old new kept

-- The disk may have been synced: a read gives the same, and a stop leaves nothing else, now or
-- since a moment before.
pub record GoesToRest {D : Type 0} (g : Ghosts D) (old new : D) : Type 0 where
  pub seen : g.seen new ≡ g.seen old
  pub stays : g.may_leave new (g.seen new)
  pub stop : (bytes : List ℕ) → g.may_leave new bytes → g.may_leave old bytes
  pub later : g.moment old ≤ g.moment new
  pub since : (from : ℕ) (bytes : List ℕ) → from ≤ g.moment old → g.left_since new from bytes →
      g.left_since old from bytes

-- A store was closed, and this is its disk, and its keeper's mark. parts: of what the clients had
-- seen and loaded that was compared, and of how many were made.
pub record IsClosed {J D : Type 0} (j : namings.Ghosts J) (g : Ghosts D)
    (parts : SeenState → ℕ → Type 0) (new : D) (kept : ℕ) : Type 0 where
  pub left : SeenState
  pub made : ℕ
  pub book : BookState (List Collection)
  pub keeper : KeeperState D
  pub closes : Closes j g left made book keeper
  pub disk : GoesToRest g keeper.disk new
  pub mark : kept ≡ keeper.mark
  pub parts_of : parts left made
