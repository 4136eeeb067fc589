use Rattle.std.proofs.Common.{take, take_all}
use Rattle.std.proofs.lemmas.List.Elements.{All-more, All-weaker}
use Rattle.abstract_locks.specs.Bounds.{IsWithin}
use Rattle.abstract_locks.proofs.segment.bounds_of.Goals as goal

pub loop-hold-preserved : goal.loop-hold-preserved
loop-hold-preserved c =
    let holds = c.args.holds.now in
    let i = c.loop-hold.hold-index in
    let wide = c.with-bounds.result in
    All-more (IsWithin wide) holds i _ c.loop-hold-test.true
    (All-weaker (IsWithin c.loop-hold.bounds) (IsWithin wide) c.with-bounds.ensures.own
    (take i holds) c.loop-hold.invariant)
    (c.with-bounds.ensures.others _ c.of.ensures)

pub returns : goal.returns
returns c =
    rw (take_all c.loop-hold.hold-index c.args.holds.now c.loop-hold-test.false)
    at c.loop-hold.invariant
