use Rattle.std.proofs.Common.{sym, ◌∙◌}
use Rattle.undo_log.specs.Entries.{event_of}
use Rattle.replay.proofs.TakenBack.{TakeLaws, take_laws, taken_none}
use Rattle.replay.proofs.redoing.take_back.Given.{Over}
use Rattle.replay.proofs.redoing.take_back.Goals as goal

-- the laws of the collections
laws : (g : Over) → TakeLaws g.B.Boosted.meaning
laws g = take_laws g.met.B.Boosted.laws g.met.B.Coded.told

pub returns-in-None-clause-ok : goal.returns-in-None-clause-ok
returns-in-None-clause-ok g c =
    taken_none g.B.Boosted.meaning (laws g) (event_of c.args.asked.now) c.requires.asked.0
    c.args.parts.now c.fits.result (sym c.in_ok-back.ensures.ok ∙ c.in-None.is) c.fits.ensures
