-- Why a script's errors end a command.
use Rattle.boost.specs.declared.commands.failure.Failure.{Failure}
use Rattle.script.specs.declared.line.ScriptError.{ScriptError}
use Rattle.calls.specs.declared.refusal.Refusal.{Refusal}

abbrev pub failure_of : ScriptError → Failure
failure_of (ScriptError.NotUnderstood line) = Failure.NotUnderstood line
failure_of ScriptError.NoMemory = Failure.Refused Refusal.NoMemory
