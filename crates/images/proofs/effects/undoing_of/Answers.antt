use Rattle.std.proofs.Common.{MatchOption, Option, ◌≡◌, refl, sym, ◌∙◌, subst}
use Rattle.calls.specs.declared.call.Call.{Call}
use Rattle.undo_log.specs.Entries.{event_of}
use Rattle.calls.specs.declared.reply.Reply.{Reply}
use Rattle.boosted.specs.Meaning.{Does}
use Rattle.images.proofs.Undoing.{taken_back_by, not_taken_back}
use Rattle.images.proofs.effects.undoing_of.Goals as goal

pub look-requires-clause-place : goal.look-requires-clause-place
look-requires-clause-place g c =
    let now = c.args.collections.now in
    let newest = c.args.newest.now in
    let before = c.requires.undoes.0 in
    let back = subst (λ (o : Option Call). MatchOption o (before ≡ now)
    (λ d. (reply : Reply) × Does g.C.Boosted.meaning now newest.at d reply before))
    (sym c.in_ok-call.ensures.ok ∙ c.in-Some.is) c.requires.undoes.1 in
    (g.met.C.Boosted.laws.holds now).answered_belongs newest.at c.in-Some.call back.0 back.1.0

pub returns-in_default-clause-ok : goal.returns-in_default-clause-ok
returns-in_default-clause-ok g c = not_taken_back g.C.Boosted.meaning c.args.lsn
    (event_of c.args.newest.now) c.args.collections.now
    (sym c.in_ok-call.ensures.ok ∙ c.in_default.is)

pub returns-clause-ok : goal.returns-clause-ok
returns-clause-ok g c = taken_back_by g.C.Boosted.meaning c.args.lsn
    (event_of c.args.newest.now) c.args.collections.now c.in-Some.call
    (sym c.in_ok-call.ensures.ok ∙ c.in-Some.is) c.requires.told _ refl refl refl
    c.in_ok-reply.ensures.ok
