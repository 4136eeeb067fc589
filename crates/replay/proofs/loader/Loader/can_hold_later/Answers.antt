use Rattle.std.proofs.Common.{rules}
use Rattle.replay.proofs.loader.Loader.can_hold_later.Goals as goal

pub returns-then-is_ok : goal.returns-then-is_ok
returns-then-is_ok g c =
    let ready = (g.met.B.Boosted.laws.holds c.args.self.now.now).deferred_is_ready
    c.args.later.now.collection c.args.later.now.call in
    search (rules, ready)
