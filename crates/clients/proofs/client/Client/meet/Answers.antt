use Rattle.std.proofs.Common.{ap}
use Rattle.group_commit.specs.Lines.{ClientState}
use Rattle.clients.proofs.Visits.{own_meets}
use Rattle.clients.proofs.Seeing.{client_meets, longer_legal}
use Rattle.clients.proofs.client.Client.meet.Goals as goal

pub invariant_of-self : goal.invariant_of-self
invariant_of-self g c =
    client_meets g.J.Naming c.self.inside.line c.meet.new.one c.self.inside.watcher
    c.self.inside.drawer c.compare.new.one c.self.inside.phase c.self.inside.phase
    c.meet.new.one.seen c.self.invariant
    (longer_legal g.J.Naming c.self.inside.line.seen c.other.inside.line.seen c.meet.new.one.seen
    c.meet.ensures.longer c.self.invariant.legal c.other.invariant.legal) c.meet.ensures.one
    c.compare.ensures.one (own_meets c.self.inside.phase c.self.inside.line c.meet.new.one
    c.self.inside.drawer c.compare.new.one
    (ap (λ (l : ClientState). l.number) c.meet.ensures.one) c.meet.ensures.mine
    c.compare.ensures.one c.self.invariant.own)

pub invariant_of-other : goal.invariant_of-other
invariant_of-other g c =
    client_meets g.J.Naming c.other.inside.line c.meet.new.other c.other.inside.watcher
    c.other.inside.drawer c.compare.new.other c.other.inside.phase c.other.inside.phase
    c.meet.new.one.seen c.other.invariant
    (longer_legal g.J.Naming c.self.inside.line.seen c.other.inside.line.seen c.meet.new.one.seen
    c.meet.ensures.longer c.self.invariant.legal c.other.invariant.legal) c.meet.ensures.other
    c.compare.ensures.other (own_meets c.other.inside.phase c.other.inside.line c.meet.new.other
    c.other.inside.drawer c.compare.new.other
    (ap (λ (l : ClientState). l.number) c.meet.ensures.other) c.meet.ensures.mine_of_other
    c.compare.ensures.other
    c.other.invariant.own)

pub returns-clause-drawn : goal.returns-clause-drawn
returns-clause-drawn g c = rw (← c.self.view_is, ← c.other.view_is) c.compare.ensures.apart
