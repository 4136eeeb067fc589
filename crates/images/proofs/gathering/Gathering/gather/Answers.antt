use Rattle.std.proofs.Common.{[], slice_get, sym, inr, subst, length, IfOk, ◌≡◌}
use Rattle.images.specs.Gatherings.{GatheringState, GoesAlong, part_of}
use Rattle.images.specs.GatheringViews.{gathering_of}
use Rattle.images.proofs.Going.{gathered_along}
use Rattle.images.proofs.gathering.Gathering.gather.Goals as goal

pub returns-clause-along : goal.returns-clause-along
returns-clause-along g c now next =
    let i = c.self.inside in
    let xs = g.B.Parts.collections in
    let p = c.args.lsn in
    let n = gathering_of i.begun i.going i.effects.items in
    let under = c.in_ok-check_going.ensures.ok in
    let before = subst (λ (v : GatheringState). GoesAlong xs v now p c.args.gather.now)
    (sym c.self.view_is) (next.of_this.along under) in
    let there = subst (λ r. IfOk (part_of g.B.Part.Part.collection r)
    (λ o. o ≡ slice_get (xs now) (length c.args.gather.now.parts))) c.in_ok-part.was
    (next.copied (inr under)) in
    subst (λ es. GoesAlong xs (gathering_of i.begun i.going es) now p c.gather.new.self)
    (sym c.in_ok-gather.ensures.taken)
    (subst (GoesAlong xs (gathering_of i.begun i.going []) now p) (sym c.in_ok-gather.ensures.ok)
    (gathered_along xs now p n c.args.gather.now before _ (sym there)))
