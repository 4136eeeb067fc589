use Rattle.std.proofs.Common.{refl}
use Rattle.clients.proofs.Attempting.{going_in_room, fits_as}
use Rattle.clients.proofs.attempt.GoingAttempt.later.Goals as goal

pub invariant_of-self : goal.invariant_of-self
invariant_of-self g c =
    (going_in_room g.J.Naming _ _ (λ n a made. fits_as n a _ made.1 refl) g.F.Beginning.number
    g.F.Beginning.start c.self.inside.client
    c.later.new.self c.self.invariant c.later.ensures.step).0

pub returns : goal.returns
returns g c =
    rw (← c.self.view_is) (going_in_room g.J.Naming _ _ (λ n a made. fits_as n a _ made.1 refl)
    g.F.Beginning.number g.F.Beginning.start c.self.inside.client
    c.later.new.self c.self.invariant c.later.ensures.step).1
