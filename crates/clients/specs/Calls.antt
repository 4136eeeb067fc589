-- What each call of a client does to what the client knows.
use Rattle.std.specs.Prelude.{◌≡◌, ℕ, ◌<◌, ◌≤◌, ◌^◌, ◌⊎◌, Bool, true, false, List, [], ◌∷◌}
use Rattle.std.specs.Prelude.{◌++◌}
use Rattle.std.specs.Prelude.{length, Contains, Option, Result, Ok, Err}
use Rattle.calls.specs.declared.call.Call.{Call}
use Rattle.calls.specs.declared.kind.Kind.{Kind}
use Rattle.calls.specs.declared.reply.Reply.{Reply}
use Rattle.calls.specs.declared.when.When.{When}
use Rattle.calls.specs.declared.refusal.Refusal.{Refusal}
use Rattle.calls.specs.Limits.{number_end}
use Rattle.txn.specs.declared.actions.Action.{Action}
use Rattle.txn.specs.declared.actions.Target.{Target}
use Rattle.group_commit.specs.Lines.{ClientState}
use Rattle.group_commit.specs.declared.mark.Raised.{Raised}
use Rattle.group_commit.specs.Marks.{WatcherState, AreReached}
use Rattle.group_commit.specs.Numbers.{DrawerState}
use Rattle.desks.specs.declared.naming.Naming.{Ghosts}
use Rattle.clients.specs.declared.phase.Phase.{Phase}
use Rattle.clients.specs.declared.ticket.Ticket.{Ticket}
use Rattle.desks.specs.Origins.{Origin}
use Rattle.desks.specs.Seen.{IsSeen, Took}
pub use Rattle.desks.specs.TakenBack.{back, backs}
use Rattle.clients.specs.Known.{Known}
use Rattle.desks.specs.Owners.{HasEntered}

-- the client has a transaction
abbrev pub IsOpen : Phase → Type 0
IsOpen Phase.Closed = ⊥
IsOpen phase = Unit {0}

-- the number of the transaction that it has
abbrev pub number_in : Phase → ℕ
number_in Phase.Closed = 0
number_in (Phase.Drawn n) = n
number_in (Phase.Entered n) = n

-- it has none where the end of the one that it had was accepted, and else it still has it
abbrev pub IsEnded : {T : Type 0} → Result T Refusal → Phase → Type 0
IsEnded (Ok done) phase = phase ≡ Phase.Closed
IsEnded (Err e) phase = IsOpen phase

-- Its transaction is its own: it drew the number, and by its own steps it has entered it.
abbrev pub HasOwn : Phase → ClientState → DrawerState → Type 0
HasOwn Phase.Closed line drawer = Unit {0}
HasOwn (Phase.Drawn n) line drawer = Contains drawer.drawn n
HasOwn (Phase.Entered n) line drawer = HasEntered line n

-- its seats are of the store, and its own; what it has seen is legal, and its transaction is its
-- own
pub record IsClient {J : Type 0} (j : Ghosts J) (line : ClientState) (watcher : WatcherState)
    (drawer : DrawerState) (phase : Phase) : Type 0 where
  pub line_is : line.table ≡ j.line
  pub mark_is : watcher.table ≡ j.mark
  pub numbers_is : drawer.table ≡ j.numbers
  pub from : drawer.from ≡ j.origin.next
  pub number : drawer.number ≡ line.number
  pub legal : IsSeen j.origin line.seen
  pub own : HasOwn phase line drawer

-- ---- numbers

-- A number was drawn, which is not below the opened book's next one, and which the client did not
-- draw before.
pub record Draws (next : ℕ) (old : Known) (n : ℕ) (new : Known) : Type 0 where
  pub from : next ≤ n
  pub few : length old.drawn < 2 ^ 40
  pub fresh : Contains old.drawn n → ⊥
  pub new_is : new ≡ record old { drawn = old.drawn ++ n ∷ []; phase = new.phase }

-- The client had drawn 2 to the 40 numbers, or it drew one of 2 to the 61 and more.
abbrev pub IsWorn : ℕ → Known → Known → Type 0
IsWorn next old new =
    ((length old.drawn ≡ 2 ^ 40) × (new ≡ old))
    ⊎ ((n : ℕ) × (number_end ≤ n) × Draws next old n new × (new.phase ≡ old.phase))

-- ---- steps

-- what the client has seen, and its transaction, changed alone
abbrev pub Moves : Known → Known → Type 0
Moves old new = new ≡ record old { seen = new.seen; phase = new.phase }

module _ (o : Origin) where
  -- The client took these steps of its own, the last one last.
  abbrev pub Acts : Known → List Action → Action → Known → Type 0
  Acts old firsts last new = Moves old new × Took o old.number old.seen firsts last new.seen

  -- The client's open transaction did this. A number that was drawn is entered first, and a refusal
  -- of that stands in place of the step. own: the step of a number. refused: the call's refusal.
  -- after: the transaction then.
  abbrev pub Does : Phase → Known → (own : ℕ → Action → Type 0) → (refused : Refusal → Type 0) →
      (after : ℕ → Phase) → Known → Type 0
  Does Phase.Closed old own refused after new = ⊥
  Does (Phase.Entered n) old own refused after new =
      (action : Action) × own n action × Acts old [] action new × (new.phase ≡ after n)
  Does (Phase.Drawn n) old own refused after new =
      ((action : Action) × own n action × Acts old (Action.Enter n (Ok tt) ∷ []) action new ×
      (new.phase ≡ after n))
      ⊎ ((e : Refusal) × refused e × Acts old [] (Action.Enter n (Err e)) new ×
      (new.phase ≡ Phase.Drawn n))

  -- The number of an open transaction is entered: it was, or it is now, or that is refused.
  abbrev pub Enters : Phase → Known → Result ℕ Refusal → Known → Type 0
  Enters Phase.Closed old r new = ⊥
  Enters (Phase.Entered n) old r new = (r ≡ Ok n) × (new ≡ old)
  Enters (Phase.Drawn n) old (Ok m) new =
      (m ≡ n) × Acts old [] (Action.Enter n (Ok tt)) new × (new.phase ≡ Phase.Entered n)
  Enters (Phase.Drawn n) old (Err e) new =
      Acts old [] (Action.Enter n (Err e)) new × (new.phase ≡ Phase.Drawn n)

  -- Nothing happened, or the number of the open transaction is entered.
  abbrev pub IsEntering : Phase → Known → Known → Type 0
  IsEntering p old new = (new ≡ old) ⊎ ((n : ℕ) × Enters p old (Ok n) new)

  -- The client's open transaction did this and goes on; or it is refused Full, and its number is
  -- entered at most.
  abbrev pub DoesInRoom : {T : Type 0} → Phase → Known → (own : ℕ → Action → Type 0) →
      Result T Refusal → Known → Type 0
  DoesInRoom p old own r new =
      Does p old own (λ e. r ≡ Err e) Phase.Entered new
      ⊎ ((r ≡ Err Refusal.Full) × IsEntering p old new)

-- The action of the transaction of this number asks the collection of the name for the call, and
-- gets the reply, or is refused so.
abbrev pub AsksFor : (name : List ℕ) → Call → When → Result Reply Refusal → ℕ → Action → Type 0
AsksFor name call when r n action = (found : Option ℕ) ×
    (action ≡ Action.Ask n (Target.Named name found) call when r)

-- what the book answered where no more is told than that a deferred call is accepted
abbrev pub replied : Result (Unit {0}) Refusal → Result Reply Refusal
replied (Ok done) = Ok Reply.Done
replied (Err e) = Err e

-- what the book answered where a ticket is given
abbrev pub placed : Result Ticket Refusal → Result ℕ Refusal
placed (Ok ticket) = Ok ticket.place
placed (Err e) = Err e

module _ (o : Origin) where
  -- The client made a collection; or it is refused Full, and nothing happened.
  abbrev pub IsMade : Known → List ℕ → Kind → Result Ticket Refusal → Known → Type 0
  IsMade old name kind r new =
      Acts o old [] (Action.Make name kind (placed r)) new
      ⊎ ((r ≡ Err Refusal.Full) × (new ≡ old))

-- where a transaction is after a step that ends it where it is accepted
abbrev pub ended_by : {T : Type 0} → Result T Refusal → ℕ → Phase
ended_by (Ok done) n = Phase.Closed
ended_by (Err e) n = Phase.Entered n

-- ---- aborting

module _ (o : Origin) where
  -- An open transaction is aborted. One that was not entered takes no step.
  abbrev pub Aborts : Phase → Known → Result (Unit {0}) Refusal → Known → Type 0
  Aborts Phase.Closed old r new = ⊥
  Aborts (Phase.Drawn n) old r new = (r ≡ Ok tt) × (new ≡ record old { phase = Phase.Closed })
  Aborts (Phase.Entered n) old r new =
      (new.phase ≡ ended_by r n) × ((count : ℕ) ×
      (Acts o old (backs n count ++ back n (Ok false) ∷ []) (Action.Ended n r) new
      ⊎ ((e : Refusal) × (r ≡ Err e) × Acts o old (backs n count) (back n (Err e)) new)))

-- ---- the mark

-- these counts and flags were loaded, and nothing else changed
abbrev pub Hears : Known → List Raised → List Bool → Known → Type 0
Hears old counts flags new = new ≡ record old {
  counts = old.counts ++ counts;
  flags = old.flags ++ flags;
}

-- One count was loaded, to which the mark was brought at a moment, and which is at least each one
-- before.
pub record Loads (old : Known) (count : ℕ) (new : Known) : Type 0 where
  pub moment : ℕ
  pub rises : AreReached old.counts count
  pub hears : Hears old (record { count = count; moment = moment } ∷ []) [] new

-- why a wait ends: one of the counts reached the place, or one of the flags was set
abbrev pub Decides : ℕ → List Raised → List Bool → Result (Unit {0}) Refusal → Type 0
Decides place counts flags (Ok done) = (x : Raised) × Contains counts x × (place ≤ x.count)
Decides place counts flags (Err Refusal.Lost) = Contains flags true
Decides place counts flags (Err e) = ⊥

-- Counts and flags were loaded until one decided.
pub record Waits (old : Known) (place : ℕ) (r : Result (Unit {0}) Refusal) (new : Known) :
    Type 0 where
  pub counts : List Raised
  pub flags : List Bool
  pub hears : Hears old counts flags new
  pub decides : Decides place counts flags r
