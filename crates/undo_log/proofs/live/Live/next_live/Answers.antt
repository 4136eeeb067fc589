use Rattle.std.proofs.Common.{◌≤◌, ℕ, subst, IfSome, IfNone}
use Rattle.undo_log.specs.Logs.{Log, Lives, IsNextLive}
use Rattle.undo_log.proofs.Slots.{next_found, next_none}
use Rattle.undo_log.proofs.live.Live.next_live.Goals as goal

pub returns-clause-found : goal.returns-clause-found
returns-clause-found c =
    subst (λ log. let l : Log = log in IfSome c.next_of.result (IsNextLive l.live c.args.after))
    c.self.view_is
    (next_found c.self.inside.table.slots c.self.invariant.0 c.args.after c.next_of.result
    c.next_of.ensures.found)

pub returns-clause-none : goal.returns-clause-none
returns-clause-none c =
    subst (λ log. let l : Log = log in
    IfNone c.next_of.result ((n : ℕ) → Lives l.live n → n ≤ c.args.after)) c.self.view_is
    (next_none c.self.inside.table.slots c.args.after c.next_of.result c.next_of.ensures.none)
