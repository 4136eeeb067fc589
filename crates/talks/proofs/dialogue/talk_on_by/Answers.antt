use Rattle.std.proofs.Common.{ap}
use Rattle.talks.specs.Sessions.{SessionState}
use Rattle.talks.proofs.LeadLemmas.{leads_as}
use Rattle.talks.proofs.dialogue.talk_on_by.Goals as goal

pub returns : goal.returns
returns g c =
    leads_as g.J.Naming.origin c.args.client c.new-session.result.known
    c.talk_through-why.new.session.known c.into_client.result c.args.with.2.noted.told
    c.talk_through-why.new.hearer.noted.told
    (ap (λ (s : SessionState). s.known) c.new-session.ensures)
    c.into_client.ensures c.talk_through-why.ensures
