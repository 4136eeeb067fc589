-- A machine as contracts see it, from its parts.
use Rattle.std.specs.Prelude.{ℕ, List}
use Rattle.abstract_locks.specs.declared.table.Hold.{Hold}
use Rattle.undo_log.specs.Logs.{Log}
use Rattle.calls.specs.declared.format.Format.{Format}
use Rattle.steps.specs.Machine.{State}

-- the state of a machine
abbrev pub state_of : {S : Type 0} → Format → S → List Hold → Log → (wear : ℕ) → State S
state_of format now holds log wear = record {
  now = now;
  live = log.live;
  entries = log.entries;
  holds = holds;
  wear = wear;
  format = format;
}
