use Rattle.std.proofs.Common.{◌↔◌, map, drop}
use Rattle.undo_log.specs.Entries.{stamped_entry}
use Rattle.undo_log.specs.LeftCalls.{IsLeftAmong}
use Rattle.undo_log.proofs.left_calls.is_going.Given as goal

-- what is left is left by an entry from the place on
abbrev pub invariant-loop-stamped : goal.invariant-loop-stamped
invariant-loop-stamped l = IsLeftAmong (map stamped_entry l.entries) l.at l.call ↔
    IsLeftAmong (map stamped_entry (drop l.stamped-index l.entries)) l.at l.call
