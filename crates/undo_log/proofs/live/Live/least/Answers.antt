use Rattle.std.proofs.Common.{◌≡◌, subst, IfSome, IfNone}
use Rattle.std.specs.FinMap as maps
use Rattle.undo_log.specs.Logs.{Log, IsLeastLive}
use Rattle.undo_log.proofs.Slots.{least_found, least_none}
use Rattle.undo_log.proofs.live.Live.least.Goals as goal

pub returns-clause-found : goal.returns-clause-found
returns-clause-found c =
    subst (λ log. let l : Log = log in IfSome c.least_of.result (IsLeastLive l.live)) c.self.view_is
    (least_found c.self.inside.table.slots c.self.invariant.0 c.least_of.result
    c.least_of.ensures.found)

pub returns-clause-none : goal.returns-clause-none
returns-clause-none c =
    subst (λ log. let l : Log = log in IfNone c.least_of.result (l.live ≡ maps.empty))
    c.self.view_is (least_none c.self.inside.table.slots c.least_of.result c.least_of.ensures.none)
