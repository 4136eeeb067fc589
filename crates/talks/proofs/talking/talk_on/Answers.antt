use Rattle.std.proofs.Common.{[], refl, rules}
use Rattle.std.proofs.KnownBytes.{Consumes-nil}
use Rattle.std.proofs.lemmas.List.Elements.{All-nil}
use Rattle.talks.proofs.TalkLemmas.{went_on, hears_none}
use Rattle.talks.proofs.talking.talk_on.Goals as goal

pub loop-init : goal.loop-init
loop-init g c = ([], [], (refl, refl), Consumes-nil _, hears_none _, (All-nil _, search rules))

pub loop-preserved : goal.loop-preserved
loop-preserved g c =
    let were = c.loop.invariant in
    went_on g.S.Speaker _ _ _ _ _ _ _ _ _ _ _ _ _ were
    (rw c.in_default.is at c.turn.ensures were.1 were.5)
