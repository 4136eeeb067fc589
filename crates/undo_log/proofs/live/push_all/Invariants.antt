use Rattle.std.proofs.Common.{◌≡◌, ◌++◌, map, take}
use Rattle.undo_log.specs.Stamps.{mark_of}
use Rattle.undo_log.specs.Entries.{stamped_entry}
use Rattle.undo_log.proofs.live.push_all.Given as goal

-- the entries before the place are listed
abbrev pub invariant-loop-stamped : goal.invariant-loop-stamped
invariant-loop-stamped l = map mark_of l.all.items ≡ map mark_of l.initial.all.items ++
    map (λ s. (s.stamp, (l.transaction.number, stamped_entry s)))
    (take l.stamped-index l.transaction.entries.items)
