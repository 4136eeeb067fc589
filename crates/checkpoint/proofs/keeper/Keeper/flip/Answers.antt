use Rattle.std.proofs.Common.{rules, ◌≡◌, ◌≢◌, List, [], ℕ, OnOk}
use Rattle.disk_model.specs.Disk.{LeavesOnly, Rises}
use Rattle.gate_block.specs.Area.{IsReady}
use Rattle.checkpoint.specs.declared.laying.Laying.{Laying}
use Rattle.checkpoint.specs.declared.stage.Stage.{Stage}
use Rattle.checkpoint.specs.Imaging.{IsBeingLaid, IsRooted, PicksWhole, left_of}
use Rattle.checkpoint.specs.ImageAnswers.{FlipAnswers}
use Rattle.checkpoint.proofs.Flipping.{flipped, flip_ready, flip_moments}
use Rattle.checkpoint.proofs.ImageKeeping.{image_still, flip_keeps}
use Rattle.checkpoint.proofs.keeper.Keeper.flip.Given.{Over}
use Rattle.checkpoint.proofs.keeper.Keeper.flip.Goals as goal

answer : (g : Over) (c : goal.After-pick g) →
    FlipAnswers c.args.self.now
    (Rises (g.D.Disk.fault_count c.args.self.now.disk) (g.D.Disk.fault_count c.pick.new.self.disk))
    c.pick.new.self c.pick.result
answer g c =
    rw (← c.self.view_is) (flipped _ _ c.in-Some.laying c.take_written.new.self _ c.pick.result
    c.if-self.false c.in-Some.ensures.some.0 c.in-Some.ensures.some.1 c.pick.ensures.answer)

kept : (g : Over) (c : goal.After-pick g) (w : Laying) (bodies : List (List ℕ)) →
    c.args.self.now.stage ≡ Stage.Laid w → bodies ≢ [] →
    IsBeingLaid w (g.D.Disk.seen c.args.self.now.disk) bodies →
    OnOk c.pick.result (IsReady g.D.Disk.seen g.D.Disk.may_leave c.pick.new.self.area
    c.pick.new.self.disk bodies)
kept g c = rw (← c.self.view_is) (λ w bodies is some was.
    flip_ready g.D.Disk.seen g.D.Disk.may_leave _ w bodies c.self.invariant is some was _ _
    c.pick.result
    (flipped _ _ c.in-Some.laying c.take_written.new.self _ c.pick.result c.if-self.false
    c.in-Some.ensures.some.0 c.in-Some.ensures.some.1 c.pick.ensures.answer)
    c.pick.ensures.root c.pick.ensures.durable)

any_moment_whole : (g : Over) (c : goal.After-pick g) (w : Laying) (bodies : List (List ℕ)) →
    c.args.self.now.stage ≡ Stage.Laid w → left_of w ≡ [] → bodies ≢ [] →
    IsBeingLaid w (g.D.Disk.seen c.args.self.now.disk) bodies →
    IsRooted g.D.Disk.seen g.D.Disk.may_leave c.args.self.now.area c.args.self.now.disk →
    LeavesOnly g.D.Disk.moment g.D.Disk.left_since c.args.self.now.disk c.pick.new.self.disk
    (PicksWhole c.args.self.now.area (g.D.Disk.seen c.args.self.now.disk) w.area bodies)
any_moment_whole g c =
    rw (← c.self.view_is) (λ w bodies is none some was rooted.
    flip_moments g.D.Disk.seen g.D.Disk.may_leave _ w bodies c.self.invariant is some was
    g.D.Disk.moment g.D.Disk.left_since _ none rooted c.pick.ensures.any_moment)

pub returns-then-self-clause-crash : goal.returns-then-self-clause-crash
returns-then-self-clause-crash g c =
    image_still g.D.Disk c.args.self.now (g.met.D.Disk.only_now c.args.self.now.disk)

pub returns-in-Some-clause-answer : goal.returns-in-Some-clause-answer
returns-in-Some-clause-answer g c = answer g c

pub returns-in-Some-clause-kept : goal.returns-in-Some-clause-kept
returns-in-Some-clause-kept g c = kept g c

pub returns-in-Some-clause-any_moment_whole : goal.returns-in-Some-clause-any_moment_whole
returns-in-Some-clause-any_moment_whole g c = any_moment_whole g c

pub returns-in-Some-clause-crash : goal.returns-in-Some-clause-crash
returns-in-Some-clause-crash g c =
    flip_keeps g.D.Disk c.args.self.now c.pick.new.self
    (g.met.D.Disk.only_now c.args.self.now.disk) (g.met.D.Disk.counts_now c.pick.new.self.disk)
    (rw (← c.self.view_is) c.pick.ensures.any_moment) (any_moment_whole g c)
    (rw (← c.self.view_is) c.pick.ensures.root) _ c.pick.result (answer g c) (kept g c)
    c.pick.ensures.picks c.pick.ensures.durable

pub returns-in-None-clause-answer : goal.returns-in-None-clause-answer
returns-in-None-clause-answer g c = search rules

pub returns-in-None-clause-crash : goal.returns-in-None-clause-crash
returns-in-None-clause-crash g c =
    rw (← c.self.view_is, c.in-None.ensures.stays)
    (image_still g.D.Disk _ (g.met.D.Disk.only_now c.self.inside.disk))
