use Rattle.std.proofs.Common.{◌≡◌, rules}
use Rattle.std.proofs.lemmas.Fn.{always_returns_same}
use Rattle.abstract_locks.specs.Order.{compare}
use Rattle.abstract_locks.proofs.Ordering.{found}
use Rattle.abstract_locks.proofs.segment.find.Goals as goal

pub returns : goal.returns
returns c =
    found c.args.holds.now c.args.hold.now c.binary_search_by.result c.requires
    c.binary_search_by.ensures.bound
    (c.binary_search_by.ensures.position (λ g. compare g c.args.hold.now)
    (always_returns_same _ (λ a r. r ≡ compare a.0.now c.args.hold.now) _
    (λ a r f' k. search rules)))
