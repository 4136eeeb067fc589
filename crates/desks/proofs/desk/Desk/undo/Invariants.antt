use Rattle.std.proofs.Common.{◌≡◌, length}
use Rattle.desks.specs.Owners.{HasEntered}
use Rattle.desks.proofs.Stepping.{HaveUndone}
use Rattle.desks.proofs.desk.Desk.undo.Given as goal

-- so many calls were undone
abbrev pub invariant-loop-at : goal.invariant-loop-at
invariant-loop-at g l = (l.me.table ≡ g.J.Naming.line) × HasEntered l.me l.handle.number ×
    HaveUndone g.J.Naming l.fn.me l.handle.number l.me

-- each undoing takes a call out
abbrev pub decreases-loop-at : goal.decreases-loop-at
decreases-loop-at g l = length l.self.entries
