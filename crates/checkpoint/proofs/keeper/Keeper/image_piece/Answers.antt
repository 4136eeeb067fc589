use Rattle.std.proofs.Common.{refl, rules}
use Rattle.checkpoint.proofs.Blocks.{pieced}
use Rattle.checkpoint.proofs.ImageKeeping.{image_still, piece_keeps, piece_ready}
use Rattle.checkpoint.proofs.keeper.Keeper.image_piece.Goals as goal

pub returns-then-self-clause-crash : goal.returns-then-self-clause-crash
returns-then-self-clause-crash g c =
    image_still g.D.Disk c.args.self.now (g.met.D.Disk.only_now c.args.self.now.disk)

pub returns-clause-answer : goal.returns-clause-answer
returns-clause-answer g c =
    rw (← c.self.view_is) (pieced _ c.lay_next-written.new.disk c.in-Laid.laying
    c.lay_next-written.new.self c.is_err-self-inside.result _ c.lay_next-written.result
    c.if-self.false c.in-Laid.is c.is_err-self-inside.ensures.value
    c.lay_next-written.ensures.written c.lay_next-written.ensures.fault
    c.lay_next-written.ensures.stays)

pub returns-clause-crash : goal.returns-clause-crash
returns-clause-crash g c =
    rw (← c.self.view_is) (piece_keeps g.D.Disk _ _ (g.met.D.Disk.only_now c.self.inside.disk)
    (g.met.D.Disk.counts_now c.lay_next-written.new.disk) c.in-Laid.laying
    c.lay_next-written.new.self c.in-Laid.is refl c.lay_next-written.ensures.any_moment
    c.lay_next-written.ensures.elsewhere
    (piece_ready g.D.Disk _ c.in-Laid.laying c.lay_next-written.new.disk c.self.invariant
    c.in-Laid.is c.lay_next-written.ensures.elsewhere c.lay_next-written.ensures.any_moment
    (g.met.D.Disk.counts_now c.lay_next-written.new.disk)) _ c.lay_next-written.result
    (pieced _ c.lay_next-written.new.disk c.in-Laid.laying c.lay_next-written.new.self
    c.is_err-self-inside.result _ c.lay_next-written.result c.if-self.false c.in-Laid.is
    c.is_err-self-inside.ensures.value c.lay_next-written.ensures.written
    c.lay_next-written.ensures.fault c.lay_next-written.ensures.stays)
    c.lay_next-written.ensures.laid)

pub returns-clause-kept : goal.returns-clause-kept
returns-clause-kept g c =
    rw (← c.self.view_is) (piece_ready g.D.Disk _ c.in-Laid.laying c.lay_next-written.new.disk
    c.self.invariant c.in-Laid.is c.lay_next-written.ensures.elsewhere
    c.lay_next-written.ensures.any_moment
    (g.met.D.Disk.counts_now c.lay_next-written.new.disk))

pub invariant_of-self : goal.invariant_of-self
invariant_of-self g c = search rules
