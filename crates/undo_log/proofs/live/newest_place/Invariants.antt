use Rattle.std.proofs.Common.{◌≡◌, ◌≤◌, length, map, drop, []}
use Rattle.calls.specs.Transactions.{calls_of}
use Rattle.undo_log.specs.Entries.{stamped_entry}
use Rattle.undo_log.proofs.live.newest_place.Given as goal

-- no call stands from the place on
abbrev pub invariant-loop-place : goal.invariant-loop-place
invariant-loop-place l = (l.place ≤ length l.entries) ×
    (calls_of (map stamped_entry (drop l.place l.entries)) ≡ [])

abbrev pub decreases-loop-place : goal.decreases-loop-place
decreases-loop-place l = l.place
