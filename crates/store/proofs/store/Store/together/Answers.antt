use Rattle.std.proofs.Common.{sym, subst}
use Rattle.std.proofs.lemmas.List.Elements.{All-append}
use Rattle.group_commit.specs.Lines.{CrowdState, HaveSeenOne}
use Rattle.group_commit.specs.declared.view.Party.{Party}
use Rattle.desks.specs.Seen.{IsSeen}
use Rattle.clients.specs.Known.{SeenState, HaveSeen}
use Rattle.store.proofs.store.Store.together.Goals as goal

pub new-requires-clause-legal : goal.new-requires-clause-legal
new-requires-clause-legal g c =
    let o = g.J.Naming.origin in
    subst (λ (s : CrowdState). HaveSeen o s.clients) (sym c.gather-line.ensures.clients)
    (All-append (λ (p : Party). IsSeen o p.seen) c.one.inside.line.clients
    c.other.inside.line.clients c.one.invariant.2 c.other.invariant.2)

pub returns-clause-one_history : goal.returns-clause-one_history
returns-clause-one_history g c =
    subst (λ (s : SeenState). HaveSeenOne s.clients) (sym c.new.ensures)
    c.gather-line.ensures.one_history
