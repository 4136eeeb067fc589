use Rattle.std.proofs.Common.{rules}
use Rattle.world.proofs.transit.TransitOutbox.offer.Goals as goal

pub push_back_reserved-requires : goal.push_back_reserved-requires
push_back_reserved-requires c = search rules
