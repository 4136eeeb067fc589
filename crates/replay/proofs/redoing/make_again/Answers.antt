use Rattle.replay.proofs.TakenBack.{TakeLaws, take_laws, led_room}
use Rattle.replay.proofs.redoing.make_again.Given.{Over}
use Rattle.replay.proofs.redoing.make_again.Goals as goal

-- the laws of the collections
laws : (g : Over) → TakeLaws g.B.Boosted.meaning
laws g = take_laws g.met.B.Boosted.laws g.met.B.Coded.told

pub run-requires-clause-room : goal.run-requires-clause-room
run-requires-clause-room g c = led_room g.B.Boosted.meaning (laws g) _ c.args.parts.now c.requires
