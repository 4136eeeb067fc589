use Rattle.std.proofs.Common.{◌≡◌, length}
use Rattle.clients.specs.Known.{all_left}
use Rattle.fizgaloms.specs.Works.{AreParts}
use Rattle.fizgaloms.proofs.running.join.Given as goal

-- the answers so far are there, and what their clients had seen is put together
abbrev pub invariant-loop-one : goal.invariant-loop-one
invariant-loop-one g l =
    (length l.answers.items ≡ length l.yielded) ×
    AreParts (g.W.Work.says l.work g.J.Naming.origin) l.answers.items (all_left l.last)
