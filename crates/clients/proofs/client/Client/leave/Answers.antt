use Rattle.std.proofs.Common.{[], sym, subst}
use Rattle.std.proofs.lemmas.List.Elements.{All-cons, All-nil}
use Rattle.group_commit.specs.Lines.{CrowdState}
use Rattle.group_commit.specs.declared.view.Party.{Party}
use Rattle.desks.specs.Seen.{IsSeen}
use Rattle.clients.specs.Known.{HaveSeen}
use Rattle.clients.proofs.client.Client.leave.Goals as goal

pub new-requires-clause-legal : goal.new-requires-clause-legal
new-requires-clause-legal g c =
    let o = g.J.Naming.origin in
    let line = c.self.inside.line in
    subst (λ (s : CrowdState). HaveSeen o s.clients) (sym c.into_crowd.ensures)
    (All-cons (λ (p : Party). IsSeen o p.seen) (record { number = line.number; seen = line.seen })
    [] c.self.invariant.legal (All-nil (λ (p : Party). IsSeen o p.seen)))
