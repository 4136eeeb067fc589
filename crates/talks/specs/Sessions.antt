-- What the lines of a script do that are one client's, and what each is answered.
use Rattle.std.specs.Prelude.{◌≡◌, ◌≢◌, ◌⊎◌, ℕ, ◌<◌, ◌≤◌, Bool, true, false, List, []}
use Rattle.std.specs.Prelude.{◌∷◌, ◌++◌, Option, None, Some, Result, Ok, Err}
use Rattle.calls.specs.declared.call.Call.{Call}
use Rattle.calls.specs.declared.kind.Kind.{Kind}
use Rattle.calls.specs.declared.reply.Reply.{Reply}
use Rattle.calls.specs.declared.refusal.Refusal.{Refusal}
use Rattle.calls.specs.declared.when.When.{When}
use Rattle.calls.specs.Limits.{number_end}
use Rattle.txn.specs.declared.actions.Action.{Action}
use Rattle.desks.specs.Origins.{Origin}
use Rattle.clients.specs.declared.phase.Phase.{Phase}
use Rattle.clients.specs.declared.ticket.Ticket.{Ticket}
use Rattle.clients.specs.Known.{Known}
use Rattle.clients.specs.Calls as calls
use Rattle.talks.specs.Requests.{telling, saying, response_kept}
use Rattle.talks.specs.declared.texts.Response.{Response}
use Rattle.script.specs.declared.action.Action as actions
use Rattle.script.specs.declared.action.Operation.{Operation}
use Rattle.script.specs.declared.action.Request.{Request}
use Rattle.script.specs.declared.line.Line.{Line}
use Rattle.talks.specs.declared.transcript.Answer.{Answer}
use Rattle.talks.specs.declared.speaking.End.{End}
use Rattle.talks.specs.declared.transcript.Transcript.{Transcript}

-- what a script's client knows of the store, and the ticket of what it last committed or made
pub record SessionState : Type 0 where
  pub known : Known
  pub ticket : Option Ticket

abbrev pub session : Known → Option Ticket → SessionState
session known ticket = record { known = known; ticket = ticket }

-- the ticket behind a commit or a making
abbrev pub ticket_after : Option Ticket → Result Ticket Refusal → Option Ticket
ticket_after ticket (Ok given) = Some given
ticket_after ticket (Err e) = ticket

abbrev pub IsClosed : Known → Type 0
IsClosed known = known.phase ≡ Phase.Closed

-- the mark's count reaches the place, or does not
abbrev pub Reaches : ℕ → ℕ → Bool → Type 0
Reaches place count true = place ≤ count
Reaches place count false = count < place

-- what is said of a ticket that is given
abbrev pub response_placed : Ticket → Response
response_placed ticket = Response.Placed ticket.place

-- the place that an answer tells, if it tells one
abbrev pub response_place : Response → Option ℕ
response_place (Response.Placed place) = Some place
response_place response = None

abbrev pub IsRefusal : Response → Type 0
IsRefusal (Response.Refused e) = Unit {0}
IsRefusal response = ⊥

abbrev pub answers_of : Option Answer → List Answer
answers_of None = []
answers_of (Some answer) = answer ∷ []

module _ (o : Origin) where
  -- A collection is made.
  abbrev pub Makes : Known → List ℕ → Kind → Result Ticket Refusal → Known → Type 0
  Makes old name kind r new = calls.IsMade o old name kind r new × (new.phase ≡ old.phase)

  -- A transaction begins under a number that is drawn, unless one is open.
  abbrev pub Begins : Known → Result ℕ Refusal → Known → Type 0
  Begins old (Ok n) new = IsClosed old × (n < number_end) × calls.Draws o.next old n new ×
      (new.phase ≡ Phase.Drawn n)
  Begins old (Err e) new =
      (calls.IsOpen old.phase × (e ≡ Refusal.AlreadyLive) × (new ≡ old))
      ⊎ (IsClosed old × (e ≡ Refusal.Worn) × calls.IsWorn o.next old new)

  -- The transaction asks the collection of a name for a call.
  abbrev pub Asks : List ℕ → Call → When → Known → Result Reply Refusal → Known → Type 0
  Asks name call when old r new = calls.DoesInRoom o old.phase old
      (calls.AsksFor name call when r) r new

  -- It asks for an operation: a removal is tried as one of a map, and where the collection is none
  -- as one of a set.
  abbrev pub AsksFor : List ℕ → Operation → Known → Result Reply Refusal → Known → Type 0
  AsksFor name (Operation.Call call) old r new = Asks name call When.Now old r new
  AsksFor name (Operation.Remove key) old r new =
      (first : Result Reply Refusal) × (mid : Known) ×
      Asks name (Call.MapRemove key) When.Now old first mid ×
      (((first ≢ Err Refusal.WrongKind) × (r ≡ first) × (new ≡ mid))
      ⊎ ((first ≡ Err Refusal.WrongKind) × Asks name (Call.SetRemove key) When.Now mid r new))

  -- it commits
  abbrev pub Commits : Known → Result Ticket Refusal → Known → Type 0
  Commits old r new = calls.Does o old.phase old (λ n a. a ≡ Action.Commit n (calls.placed r))
      (λ e. r ≡ Err e) (calls.ended_by r) new

-- Without an open transaction nothing is done, and NoSuchTxn is answered; in one it does this.
abbrev pub InOpen : {T : Type 0} → Known → Result T Refusal → Known → Type 0 → Type 0
InOpen old r new does =
    (IsClosed old × (r ≡ Err Refusal.NoSuchTxn) × (new ≡ old))
    ⊎ (calls.IsOpen old.phase × does)

-- The client is told whether its ticket is kept: the mark is loaded where it has one.
abbrev pub Looks : Known → Option Ticket → Option Bool → Known → Type 0
Looks old ticket None new = (ticket ≡ None) × (new ≡ old)
Looks old ticket (Some kept) new = (given : Ticket) × (count : ℕ) × (ticket ≡ Some given) ×
    calls.Loads old count new × Reaches given.place count kept

module _ (o : Origin) where
  -- A request is carried out, and its result is said.
  abbrev pub Obeys : SessionState → Request → Result Response Refusal → SessionState → Type 0
  Obeys old (Request.Make kind name) r new =
      (made : Result Ticket Refusal) × (r ≡ telling response_placed made) ×
      (new.ticket ≡ ticket_after old.ticket made) × Makes o old.known name kind made new.known
  Obeys old Request.Begin r new =
      (begun : Result ℕ Refusal) × (r ≡ telling Response.Begun begun) × (new.ticket ≡ old.ticket) ×
      Begins o old.known begun new.known
  Obeys old (Request.Call name operation) r new =
      (called : Result Reply Refusal) × (r ≡ telling Response.Replied called) ×
      (new.ticket ≡ old.ticket) ×
      InOpen old.known called new.known (AsksFor o name operation old.known called new.known)
  Obeys old (Request.Later name call) r new =
      (deferred : Result Reply Refusal) × (r ≡ telling Response.Replied deferred) ×
      (new.ticket ≡ old.ticket) × InOpen old.known deferred new.known
      (Asks o name call When.AtCommit old.known deferred new.known)
  Obeys old Request.Commit r new =
      (placed : Result Ticket Refusal) × (r ≡ telling response_placed placed) ×
      (new.ticket ≡ ticket_after old.ticket placed) ×
      InOpen old.known placed new.known (Commits o old.known placed new.known)
  Obeys old Request.Abort r new =
      (aborted : Result (Unit {0}) Refusal) × (r ≡ telling (λ done. Response.Aborted) aborted) ×
      (new.ticket ≡ old.ticket) × InOpen old.known aborted new.known
      (calls.Aborts o old.known.phase old.known aborted new.known)
  Obeys old Request.Kept r new =
      (kept : Option Bool) × (r ≡ Ok (response_kept kept)) × (new.ticket ≡ old.ticket) ×
      Looks old.known old.ticket kept new.known

  -- what a request is answered
  abbrev pub Says : SessionState → Request → Response → SessionState → Type 0
  Says old request response new = (r : Result Response Refusal) × (response ≡ saying r) ×
      Obeys old request r new

  -- A line that is a request of the client of this number is answered, and each other one is passed
  -- over.
  abbrev pub Answers : ℕ → SessionState → Line → Option Answer → SessionState → Type 0
  Answers k old line None new =
      ((request : Request) → line.what ≡ actions.Action.Client k request → ⊥) × (new ≡ old)
  Answers k old line (Some answer) new =
      (request : Request) × (line.what ≡ actions.Action.Client k request) ×
      (answer.number ≡ line.number) × Says old request answer.response new

  -- So are the lines, one after another.
  abbrev pub CarriesOut : ℕ → SessionState → List Line → List Answer → SessionState → Type 0
  CarriesOut k old [] answers new = (answers ≡ []) × (new ≡ old)
  CarriesOut k old (line ∷ lines) answers new =
      (first : Option Answer) × (rest : List Answer) × (mid : SessionState) ×
      (answers ≡ answers_of first ++ rest) × Answers k old line first mid ×
      CarriesOut k mid lines rest new

-- The client waits for its ticket, and is told how that ended.
abbrev pub Ends : Known → Option Ticket → End → Known → Type 0
Ends old ticket End.NoTicket new = (ticket ≡ None) × (new ≡ old)
Ends old ticket End.Kept new = (given : Ticket) × (ticket ≡ Some given) ×
    calls.Waits old given.place (Ok tt) new
Ends old ticket End.Lost new = (given : Ticket) × (ticket ≡ Some given) ×
    calls.Waits old given.place (Err Refusal.Lost) new

-- The transcript tells what the lines of the client of this number were answered, by a client of
-- the store that had no ticket, and how its wait for the last one ended. old, new: what that client
-- knew before, and behind it.
pub record IsRun (o : Origin) (k : ℕ) (old : Known) (lines : List Line) (new : Known)
    (t : Transcript) : Type 0 where
  pub client : t.client ≡ k
  pub behind : SessionState
  pub carried : CarriesOut o k (session old None) lines t.answers.items behind
  pub ended : Ends behind.known behind.ticket t.end new
