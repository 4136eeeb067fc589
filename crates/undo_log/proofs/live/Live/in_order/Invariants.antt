use Rattle.std.proofs.Common.{◌≡◌, ◌++◌, map}
use Rattle.undo_log.specs.Stamps.{mark_of}
use Rattle.undo_log.proofs.Sorting.{tell}
use Rattle.undo_log.proofs.live.Live.in_order.Given as goal

-- what is listed, and what the transactions that are left asked for, is all
abbrev pub invariant-loop-transaction : goal.invariant-loop-transaction
invariant-loop-transaction l =
    (goal.iterator-loop-transaction).can_next l.transaction-iterator ×
    (goal.iterator-loop-transaction).is_finite l.transaction-iterator ×
    (map mark_of l.all.items ++ tell l.transaction-iterator ≡ tell l.initial.transaction-iterator)
