-- What the clients of a script that is served are told.
use Rattle.std.specs.Prelude.{◌≡◌, ◌↔◌, ℕ, List, All, Any, Contains, length, Option, None, Some}
use Rattle.std.specs.Prelude.{MatchOption, Result, IfOk, IsOk, IsOkUnless, slice_get}
use Rattle.std.specs.List.Sorted.{IsStrictlyIncreasing}
use Rattle.calls.specs.declared.refusal.Refusal.{Refusal}
use Rattle.disk_model.specs.declared.disk.Disk.{Ghosts}
use Rattle.fizgaloms.specs.Works.{AreTold, WasOpened}
use Rattle.clients.specs.Known.{Known, newcomer}
use Rattle.desks.specs.Origins.{Origin}
use Rattle.script.specs.declared.action.Action.{Action}
use Rattle.script.specs.declared.action.Request.{Request}
use Rattle.script.specs.declared.line.Line.{Line}
use Rattle.script.specs.Scripts.{IsScriptOf}
use Rattle.script.specs.ScriptTexts.{IsClient}
use Rattle.talks.specs.Sessions.{IsRun}
use Rattle.talks.specs.declared.transcript.Transcript.{Transcript}

-- a script's lines, and the numbers of the clients that have some
pub record ScriptState : Type 0 where
  pub lines : List Line
  pub clients : List ℕ

-- the line is a request of the client of this number
abbrev pub IsOfClient : ℕ → Line → Type 0
IsOfClient k line = (request : Request) × (line.what ≡ Action.Client k request)

-- the clients that have lines, rising
pub record HaveLines (clients : List ℕ) (lines : List Line) : Type 0 where
  pub rises : IsStrictlyIncreasing clients
  pub each : (k : ℕ) → Contains clients k ↔ (IsClient k × Any (IsOfClient k) lines)

-- The transcript tells what the lines of its client were answered, by a client of the store that
-- had done nothing before, and knew this at the end.
pub record IsServed (origin : Origin) (lines : List Line) (known : Known) (t : Transcript) :
    Type 0 where
  pub number : ℕ
  pub run : IsRun origin t.client (newcomer number) lines known t

-- A thread answers the transcript of the client of the script that it ran, whose number stands at
-- the thread's among those that have lines; or memory was wanted for it. known: what the client of
-- the store knew at the end, which the thread was lent.
abbrev pub Tells : ScriptState → Origin → (thread : ℕ) → Result (Option Transcript) Refusal →
    Known → Type 0
Tells script origin thread answer known = IsOkUnless answer Refusal.NoMemory ×
    IfOk answer (λ told. MatchOption told
    (slice_get script.clients thread ≡ None)
    (λ t. (slice_get script.clients thread ≡ Some t.client) ×
    IsServed origin script.lines known t))

-- The lines of the script were run on the store of the disk, each client's in a thread of its own,
-- and each thread told it.
pub record WasServed {D : Type 0} (g : Ghosts D) (script : List ℕ) (old new : D) (kept : ℕ) :
    Type 0 where
  pub served : ScriptState
  pub is_script : IsScriptOf served.lines script
  pub clients : HaveLines served.clients served.lines
  pub answers : List (Result (Option Transcript) Refusal)
  pub one_each : length answers ≡ length served.clients
  pub all : All IsOk answers
  pub opened : WasOpened g (λ origin. AreTold (Tells served origin) answers kept) old new kept
