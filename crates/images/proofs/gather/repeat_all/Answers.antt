use Rattle.std.proofs.Common.{subst}
use Rattle.images.specs.Gathers.{CanCatchUp, HaveRepeated}
use Rattle.images.specs.Views.{copies_of}
use Rattle.images.proofs.Repeats.{repeated_none, repeated_one, repeated_can}
use Rattle.images.proofs.gather.repeat_all.Goals as goal

pub loop-effect-init : goal.loop-effect-init
loop-effect-init g c = (
  repeated_none (copies_of g.P.Part.collection c.args.copies.now) c.args.effects.now.items,
  c.requires.can,
)

pub repeat-requires : goal.repeat-requires
repeat-requires g c =
    (subst (CanCatchUp (copies_of g.P.Part.collection c.loop-effect.copies))
    c.in-Some.ensures.items c.loop-effect.invariant.1).0

pub loop-effect-preserved : goal.loop-effect-preserved
loop-effect-preserved g c =
    let before = copies_of g.P.Part.collection c.args.copies.now in
    let now = copies_of g.P.Part.collection c.loop-effect.copies in
    let after = copies_of g.P.Part.collection c.repeat.new.copies in
    let left = c.pop_front.new.self.items in
    let so_far = repeated_one before now after c.args.effects.now.items left c.in-Some.effect
    (subst (HaveRepeated before c.args.effects.now.items now) c.in-Some.ensures.items
    c.loop-effect.invariant.0) c.in_default-repeat.ensures.ok in
    (so_far, repeated_can before after c.args.effects.now.items left so_far c.requires.can)
