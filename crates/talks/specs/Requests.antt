-- What the lines of a script do, and what each is answered.
use Rattle.std.specs.Prelude.{◌≡◌, ℕ, ◌%◌, Bool, true, false, List, [], ◌∷◌, get_or, slice_set}
use Rattle.std.specs.Prelude.{take, Option, None, Some, Result, Ok, Err}
use Rattle.calls.specs.declared.reply.Reply.{Reply}
use Rattle.calls.specs.declared.refusal.Refusal.{Refusal}
use Rattle.calls.specs.declared.when.When.{When}
use Rattle.checkpoint.specs.declared.turn.Turn.{Turn}
use Rattle.disk_model.specs.declared.disk.Disk.{Ghosts}
use Rattle.world.specs.Moves.{Whole}
use Rattle.talks.specs.Plays.{Runs}
use Rattle.talks.specs.Turns.{Turns}
use Rattle.talks.specs.Checkpoints.{Checkpoints}
use Rattle.talks.specs.Clients.{Makes, Begins, Asks, Commits, Aborts, Looks}
use Rattle.talks.specs.declared.client.Client.{Client}
use Rattle.talks.specs.declared.texts.Response.{Response}
use Rattle.script.specs.declared.action.Action.{Action}
use Rattle.script.specs.declared.action.Operation.{Operation}
use Rattle.script.specs.declared.action.Request.{Request}
use Rattle.script.specs.declared.line.Line.{Line}

-- what is said of a result, where it is no refusal
abbrev pub telling : {T : Type 0} → (T → Response) → Result T Refusal → Result Response Refusal
telling tell (Ok x) = Ok (tell x)
telling tell (Err e) = Err e

-- what is said of a client's ticket
abbrev pub response_kept : Option Bool → Response
response_kept None = Response.NoTicket
response_kept (Some true) = Response.Kept
response_kept (Some false) = Response.NotYet

-- A client's request is carried out, and its result is said.
abbrev pub Obeys : {D : Type 0} (g : Ghosts D) → Client → Whole D → Request →
    Result Response Refusal →
    Client → Whole D → Type 0
Obeys g k old (Request.Make kind name) r l new =
    (made : Result ℕ Refusal) × (r ≡ telling Response.Placed made) ×
    Runs g old (λ steps. Makes k name kind made steps l) new
Obeys g k old Request.Begin r l new =
    (begun : Result ℕ Refusal) × (r ≡ telling Response.Begun begun) ×
    Runs g old (λ steps. Begins k begun steps l) new
Obeys g k old (Request.Call name operation) r l new =
    (called : Result Reply Refusal) × (r ≡ telling Response.Replied called) ×
    Asks g k old name operation When.Now called l new
Obeys g k old (Request.Later name call) r l new =
    (deferred : Result Reply Refusal) × (r ≡ telling Response.Replied deferred) ×
    Asks g k old name (Operation.Call call) When.AtCommit deferred l new
Obeys g k old Request.Commit r l new =
    (placed : Result ℕ Refusal) × (r ≡ telling Response.Placed placed) ×
    Runs g old (λ steps. Commits k placed steps l) new
Obeys g k old Request.Abort r l new =
    (aborted : Result (Unit {0}) Refusal) × (r ≡ telling (λ done. Response.Aborted) aborted) ×
    Runs g old (λ steps. Aborts k aborted steps l) new
Obeys g k old Request.Kept r l new =
    (kept : Option Bool) × (r ≡ Ok (response_kept kept)) × (l ≡ k) ×
    Runs g old (Looks k.ticket kept) new

-- what a client has that did nothing yet
abbrev pub nobody : Client
nobody = record { begun = None; ticket = None }

-- A line's action is done: the committer takes a turn, an image is made the store, or the client of
-- the number, counted from 1 to 64, has its request carried out.
abbrev pub Acts : {D : Type 0} (g : Ghosts D) → List Client → Whole D → Action →
    Result Response Refusal → List Client → Whole D → Type 0
Acts g ks old Action.Turn r ls new =
    (turned : Result Turn Refusal) × (r ≡ telling Response.Turned turned) × (ls ≡ ks) ×
    Runs g old (Turns turned) new
Acts g ks old Action.Checkpoint r ls new =
    (flipped : Result ℕ Refusal) × (r ≡ telling Response.Flipped flipped) × (ls ≡ ks) ×
    Checkpoints g old flipped new
Acts g ks old (Action.Client n request) r ls new =
    (l : Client) × (ls ≡ slice_set ks (n % 64) l) ×
    Obeys g (get_or ks (n % 64) nobody) old request r l new

-- what a line answers
abbrev pub saying : Result Response Refusal → Response
saying (Ok response) = response
saying (Err e) = Response.Refused e

abbrev pub Answers : {D : Type 0} (g : Ghosts D) → List Client → Whole D → Action → Response →
    List Client → Whole D → Type 0
Answers g ks old action response ls new =
    (r : Result Response Refusal) × (response ≡ saying r) × Acts g ks old action r ls new

-- The lines are carried out, one after another.
abbrev pub CarriesOut : {D : Type 0} (g : Ghosts D) → List Client → Whole D → List Line →
    List Client → Whole D → Type 0
CarriesOut g ks old [] ls new = (ls ≡ ks) × (new ≡ old)
CarriesOut {D} g ks old (line ∷ lines) ls new =
    (response : Response) × (ms : List Client) × (mid : Whole D) ×
    Answers g ks old line.what response ms mid ×
    CarriesOut g ms mid lines ls new

-- All lines are; or the first so many, where the output could not be written.
abbrev pub PlaysLines : {D : Type 0} (g : Ghosts D) {E : Type 0} → List Client → Whole D →
    List Line → Result (Unit {0}) E → List Client → Whole D → Type 0
PlaysLines g ks old lines (Ok done) ls new = CarriesOut g ks old lines ls new
PlaysLines g ks old lines (Err e) ls new = (n : ℕ) × CarriesOut g ks old (take n lines) ls new
