-- What a command's status says.
use Rattle.std.specs.Prelude.{◌≡◌, ◌⊎◌, ℕ, List}
use Rattle.calls.specs.declared.refusal.Refusal.{Refusal}
use Rattle.boost.specs.declared.arguments.Task.{Task}
use Rattle.boost.specs.declared.commands.failure.Failure.{Failure}
use Rattle.script.specs.declared.line.Line.{Line}
use Rattle.script.specs.declared.line.ScriptError.{ScriptError}
use Rattle.script.specs.Scripts.{IsScriptOf, IsWhy}

abbrev pub IsPlay : Task → Type 0
IsPlay (Task.Play disk script) = Unit {0}
IsPlay task = ⊥

-- the status of a command that was not done
abbrev pub status_of : Failure → ℕ
status_of (Failure.Refused refusal) = 1
status_of (Failure.NotUnderstood line) = 3
status_of (Failure.CannotOpen path error) = 4
status_of (Failure.InUse path) = 4
status_of Failure.Unwritten = 4
status_of (Failure.HoldsBytes path) = 1
status_of (Failure.BadArgument why) = 1

-- each line of the script says something, or is passed over
abbrev pub IsUnderstood : List ℕ → Type 0
IsUnderstood script = (lines : List Line) × IsScriptOf lines script

-- A failure of the store or of the output alone.
abbrev pub IsOfStore : Failure → Type 0
IsOfStore (Failure.Refused refusal) = Unit {0}
IsOfStore Failure.Unwritten = Unit {0}
IsOfStore failure = ⊥

-- A play is refused: its script is understood, and the store was asked; or memory was wanted before
-- it was, and then `same` holds.
abbrev pub MayRefuse : List ℕ → Type 0 → Refusal → Type 0
MayRefuse script same refusal = IsUnderstood script ⊎ ((refusal ≡ Refusal.NoMemory) × same)

-- Why a script was not played: the first line that is not understood is named, and then `same`
-- holds.
abbrev pub IsWhyUnplayed : List ℕ → Type 0 → Failure → Type 0
IsWhyUnplayed script same (Failure.NotUnderstood line) =
    IsWhy script (ScriptError.NotUnderstood line) × same
IsWhyUnplayed script same (Failure.Refused refusal) = MayRefuse script same refusal
IsWhyUnplayed script same Failure.Unwritten = Unit {0}
IsWhyUnplayed script same (Failure.CannotOpen path error) = ⊥
IsWhyUnplayed script same (Failure.InUse path) = ⊥
IsWhyUnplayed script same (Failure.HoldsBytes path) = ⊥
IsWhyUnplayed script same (Failure.BadArgument why) = ⊥

-- why a command was not done: only a play fails by its script
abbrev pub IsWhyUndone : Task → List ℕ → Type 0 → Failure → Type 0
IsWhyUndone task script same (Failure.NotUnderstood line) =
    IsPlay task × IsWhy script (ScriptError.NotUnderstood line) × same
IsWhyUndone task script same (Failure.Refused refusal) =
    IsPlay task → MayRefuse script same refusal
IsWhyUndone task script same Failure.Unwritten = Unit {0}
IsWhyUndone task script same (Failure.CannotOpen path error) = ⊥
IsWhyUndone task script same (Failure.InUse path) = ⊥
IsWhyUndone task script same (Failure.HoldsBytes path) = ⊥
IsWhyUndone task script same (Failure.BadArgument why) = ⊥

-- The script's line of this number is the first that is not understood.
abbrev pub IsNotUnderstoodAt : List ℕ → ℕ → Type 0
IsNotUnderstoodAt script line = IsWhy script (ScriptError.NotUnderstood line)
