-- What a client does that runs a transaction until it goes through.
use Rattle.std.specs.Prelude.{◌≡◌, ◌⊎◌, ℕ, zero, suc, ◌+◌, ◌<◌, ◌≤◌, true, false, List, [], ◌∷◌}
use Rattle.std.specs.Prelude.{◌++◌, Result, Ok, Err, Contains}
use Rattle.std.specs.List.{AllByRecursion}
use Rattle.calls.specs.declared.refusal.Refusal.{Refusal}
use Rattle.txn.specs.declared.actions.Action.{Action}
use Rattle.desks.specs.Origins.{Origin}
use Rattle.clients.specs.declared.phase.Phase.{Phase}
use Rattle.clients.specs.declared.ticket.Ticket.{Ticket}
use Rattle.clients.specs.Attempts.{Attempts, IsOfCalls, number_of}
use Rattle.clients.specs.Calls.{Does, Aborts, Hears, Draws, IsWorn, Waits, ended_by, placed}
use Rattle.desks.specs.Seen.{Grows}
use Rattle.clients.specs.Known.{Known}
use Rattle.fizgaloms.specs.Works.{KnowsStill}

-- ---- what was tried, as a whole

-- the action commits no transaction and makes no collection
abbrev pub CommitsNothing : Action → Type 0
CommitsNothing (Action.Commit n (Ok place)) = ⊥
CommitsNothing (Action.Make name kind (Ok place)) = ⊥
CommitsNothing action = Unit {0}

-- the number was live at the beginning, or was entered by one of the actions
abbrev pub WasLive : Phase → List Action → ℕ → Type 0
WasLive phase actions n = (phase ≡ Phase.Entered n) ⊎ Contains actions (Action.Enter n (Ok tt))

-- the number was ended by one of the actions, behind an abort, or it is live still
abbrev pub WasEnded : List Action → Phase → ℕ → Type 0
WasEnded actions phase n = Contains actions (Action.Ended n (Ok tt)) ⊎ (phase ≡ Phase.Entered n)

-- a transaction of this number is committed, and its commit has this place; without a call it is
-- entered then
abbrev pub Commits : ℕ → ℕ → List Action → Type 0
Commits n place actions =
    (actions ≡ Action.Commit n (Ok place) ∷ [])
    ⊎ (actions ≡ Action.Enter n (Ok tt) ∷ Action.Commit n (Ok place) ∷ [])

-- an attempt that is refused so may go through later
abbrev pub IsPassing : Refusal → Type 0
IsPassing (Refusal.Busy n) = Unit {0}
IsPassing Refusal.TooManyLive = Unit {0}
IsPassing Refusal.Backlog = Unit {0}
IsPassing e = ⊥

-- of no more than so many attempts, but of at least one, so many were refused before this one
abbrev pub IsWithin : ℕ → ℕ → Type 0
IsWithin bound refused = (refused ≡ 0) ⊎ (refused < bound)

module _ (o : Origin) where
  -- The client's own steps were these actions. None of them committed anything, and each number
  -- that was live was ended by an abort, but for one that is live still.
  pub record Tried (old : Known) (actions : List Action) (new : Known) : Type 0 where
    pub knows : KnowsStill old new
    pub grows : Grows o old.number old.seen actions new.seen
    pub commits_nothing : AllByRecursion CommitsNothing actions
    pub are_ended : (n : ℕ) → WasLive old.phase actions n → WasEnded actions new.phase n

  -- ---- the parts of an attempt

  -- The open transaction was taken back, if there was one, or that was refused.
  abbrev pub TakesBack : Known → Result (Unit {0}) Refusal → Known → Type 0
  TakesBack old r new = ((old.phase ≡ Phase.Closed) × (r ≡ Ok tt) × (new ≡ old))
      ⊎ Aborts o old.phase old r new

  -- What was open was taken back, and a number was drawn for a transaction.
  pub record Begins (old begun : Known) : Type 0 where
    pub closed : Known
    pub taken_back : TakesBack old (Ok tt) closed
    pub number : ℕ
    pub draws : Draws o.next closed number begun
    pub drawn : begun.phase ≡ Phase.Drawn number

  -- That was refused: what was open was not taken back, or numbers have run out.
  abbrev pub IsNotBegun : Known → Refusal → Known → Type 0
  IsNotBegun old e new = TakesBack old (Err e) new
      ⊎ ((e ≡ Refusal.Worn) × ((closed : Known) × TakesBack old (Ok tt) closed ×
      IsWorn o.next closed new))

  -- The commit of the open transaction was answered so.
  abbrev pub AsksCommit : Known → Result Ticket Refusal → Known → Type 0
  AsksCommit old r new = Does o old.phase old (λ n a. a ≡ Action.Commit n (placed r))
      (λ e. r ≡ Err e) (ended_by r) new

  -- ---- attempts

  -- What is said of the calls of an attempt where they are refused.
  module _ (refuses : Refusal → List Action → Type 0) where
    -- An attempt has come as far as to a refusal: no transaction was begun; or one was begun and
    -- its calls were refused, which says so of what was done; or its commit was refused.
    abbrev pub Stops : Known → Refusal → Known → Type 0
    Stops old e new = IsNotBegun old e new
        ⊎ ((begun : Known) × Begins old begun × ((made : List Action) ×
        ((Attempts o (number_of begun.phase) begun made new × refuses e made)
        ⊎ ((asked : Known) × Attempts o (number_of begun.phase) begun made asked ×
        AsksCommit asked (Err e) new))))

    -- One attempt was refused, and what it left open was taken back. A refusal of that stands in
    -- place of the attempt's own.
    pub record IsRefused (old : Known) (e : Refusal) (new : Known) : Type 0 where
      pub own : Refusal
      pub left : Known
      pub stops : Stops old own left
      pub taken_back : ((e ≡ own) × TakesBack left (Ok tt) new) ⊎ TakesBack left (Err e) new

    -- One attempt was refused so that another may go through, and keeping had not failed behind it.
    pub record Passes (old new : Known) : Type 0 where
      pub refusal : Refusal
      pub is_passing : IsPassing refusal
      pub left : Known
      pub is_refused : IsRefused old refusal left
      pub hears : Hears left [] (false ∷ []) new

    -- So it was with so many attempts, one after another.
    abbrev pub PassesOften : ℕ → Known → Known → Type 0
    PassesOften zero old new = new ≡ old
    PassesOften (suc n) old new = (before : Known) × PassesOften n old before × Passes before new

    -- Nothing was committed. What is answered is the refusal of the last attempt; it is one behind
    -- which another may go through only where no more attempts were to be made. Or it is Lost:
    -- keeping had failed behind such a one.
    pub record GivesUp (bound : ℕ) (old : Known) (e : Refusal) (new : Known) : Type 0 where
      pub tried : List Action
      pub tries : Tried old tried new
      pub refused : ℕ
      pub within : IsWithin bound refused
      pub before : Known
      pub passes : PassesOften refused old before
      pub last : Refusal
      pub left : Known
      pub is_refused : IsRefused before last left
      pub ends : ((e ≡ last) × (new ≡ left) × (IsPassing e → bound ≤ refused + 1))
          ⊎ ((e ≡ Refusal.Lost) × IsPassing last × Hears left [] (true ∷ []) new)

    -- The client ran one transaction, and its commit has this place. The attempts before were
    -- refused so that another may go through; they committed nothing and were taken back. Its own
    -- steps behind that were the calls of one attempt, of which this is said, and the commit.
    pub record Ran (bound : ℕ) (says : List Action → Type 0) (old : Known) (place : ℕ)
        (new : Known) : Type 0 where
      pub knows : KnowsStill old new
      pub refused : ℕ
      pub within : IsWithin bound refused
      pub before : Known
      pub passes : PassesOften refused old before
      pub begun : Known
      pub begins : Begins before begun
      pub tried : List Action
      pub tries : Tried old tried begun
      pub made : List Action
      pub said : says made
      pub are_calls : AllByRecursion (IsOfCalls (number_of begun.phase)) made
      pub ends : List Action
      pub commits : Commits (number_of begun.phase) place ends
      pub grows : Grows o old.number begun.seen (made ++ ends) new.seen
      pub closed : new.phase ≡ Phase.Closed

    -- says: what the output says of the calls. bound: how many attempts are made at most.
    module _ {A : Type 0} (says : A → List Action → Type 0) (bound : ℕ) where
      -- The client ran a transaction, and its output is answered with the ticket of its commit. Or
      -- nothing was committed.
      abbrev pub GoesThrough : Known → Result (A × Ticket) Refusal → Known → Type 0
      GoesThrough old (Ok done) new = Ran bound (says done.0) old done.1.place new
      GoesThrough old (Err e) new = GivesUp bound old e new

      -- And where it was refused as lost, it may have been run: then the wait for it was lost.
      abbrev pub IsKept : Known → Result (A × Ticket) Refusal → Known → Type 0
      IsKept old (Ok done) new = Ran bound (says done.0) old done.1.place new
      IsKept old (Err e) new = GivesUp bound old e new
          ⊎ ((e ≡ Refusal.Lost) × ((output : A) × (place : ℕ) × (ran : Known) ×
          Ran bound (says output) old place ran × Waits ran place (Err Refusal.Lost) new))

      -- Keeping was heard to have failed, and nothing was tried: Lost. Or it was heard not to have
      -- failed, and then this is so.
      abbrev pub HearsFirst : (Known → Result (A × Ticket) Refusal → Known → Type 0) → Known →
          Result (A × Ticket) Refusal → Known → Type 0
      HearsFirst goes old r new =
          ((r ≡ Err Refusal.Lost) × Hears old [] (true ∷ []) new)
          ⊎ ((heard : Known) × Hears old [] (false ∷ []) heard × goes heard r new)

      -- The same once keeping was heard not to have failed; where it has, nothing is tried.
      abbrev pub Transacts : Known → Result (A × Ticket) Refusal → Known → Type 0
      Transacts old r new = HearsFirst GoesThrough old r new

      abbrev pub Keeps : Known → Result (A × Ticket) Refusal → Known → Type 0
      Keeps old r new = HearsFirst IsKept old r new
