use Rattle.std.proofs.Common.{sym, ◌∙◌, ap, subst}
use Rattle.undo_log.specs.Entries.{event_of}
use Rattle.replay.proofs.TakenBack.{TakeLaws, take_laws, taken_not, taken_so}
use Rattle.replay.proofs.redoing.run_back.Given.{Over}
use Rattle.replay.proofs.redoing.run_back.Goals as goal

-- the laws of the collections
laws : (g : Over) → TakeLaws g.B.Boosted.meaning
laws g = take_laws g.met.B.Boosted.laws g.met.B.Coded.told

pub returns-then-not-fits-clause-ok : goal.returns-then-not-fits-clause-ok
returns-then-not-fits-clause-ok g c =
    taken_not g.B.Boosted.meaning (laws g) (event_of c.args.asked.now) c.requires.room.asked.0
    c.args.back.now c.requires.inverse c.args.parts.now c.args.parts.now
    (λ h. let yes = c.fits.ensures.1
    (subst (λ r. g.B.Boosted.meaning.answers c.args.parts.now c.args.asked.now.at
    c.args.back.now r) (sym c.in_ok-reply.ensures.ok) h) in let no_one = c.if-not-fits.true in
    cc)

pub returns-clause-ok : goal.returns-clause-ok
returns-clause-ok g c =
    taken_so g.B.Boosted.meaning (laws g) (event_of c.args.asked.now) c.requires.room.asked.0
    c.args.back.now c.requires.inverse c.args.parts.now c.run.new.self c.fits-2.result
    (subst (λ r. g.B.Boosted.meaning.answers c.args.parts.now c.args.asked.now.at c.args.back.now r)
    c.in_ok-reply.ensures.ok (c.fits.ensures.0 c.if-not-fits.false))
    (c.in_ok-run.ensures.ok ∙ ap (λ r. g.B.Boosted.meaning.leaves c.args.parts.now
    c.args.asked.now.at c.args.back.now r) c.in_ok-reply.ensures.ok) c.fits-2.ensures
