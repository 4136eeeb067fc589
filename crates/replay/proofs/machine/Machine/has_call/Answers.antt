use Rattle.std.proofs.Common.{◌↔◌, ℕ, List, true, subst, ◌≡◌}
use Rattle.std.specs.Option.{is_some}
use Rattle.calls.specs.Transactions.{Entry}
use Rattle.undo_log.specs.Entries.{event_of, HasNoCall}
use Rattle.steps.proofs.UndoneCall.{call_there, some_or_none}
use Rattle.replay.proofs.machine.Machine.has_call.Given.{Over}
use Rattle.replay.proofs.machine.Machine.has_call.Goals as goal

-- a call is found exactly where there is one
found : (g : Over) (c : goal.After-is_some g) →
    (is_some c.newest.result ≡ true) ↔ (HasNoCall c.args.number c.args.self.now.entries → ⊥)
found g c =
    subst (λ (es : List (ℕ × Entry)). (is_some c.newest.result ≡ true) ↔
    (HasNoCall c.args.number es → ⊥)) c.live-live.ensures.entries
    (call_there c.args.number c.live-live.result.now.entries (λ l. event_of l.now) c.newest.result
    c.newest.ensures.found c.newest.ensures.none)

pub returns-clause-some : goal.returns-clause-some
returns-clause-some g c = rw (c.is_some.ensures) (found g c)

pub returns-clause-none : goal.returns-clause-none
returns-clause-none g c = λ no. some_or_none c.args.number c.args.self.now.entries
    (λ some. let there = (found g c).1 some in let is = c.is_some.ensures in cc)
