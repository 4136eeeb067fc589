use Rattle.std.proofs.Common.{◌≡◌, ◌≤◌, ◌++◌, length, Ok, Err, sym, subst}
use Rattle.std.proofs.lemmas.Result.{err_from_is_err_and}
use Rattle.txn.specs.Undoings.{undo_count}
use Rattle.engine.specs.Rooms.{MayHandOver}
use Rattle.world.specs.Moves.{IsRoomPast}
use Rattle.engine.proofs.OfBook.{of_cut}
use Rattle.world.proofs.CoreLemmas.{cut_taken, cut_barred}
use Rattle.world.proofs.world.World.cut.Goals as goal

pub undoing_behind-requires : goal.undoing_behind-requires
undoing_behind-requires g c = record { kept = (c.journal.ensures.0, c.journal.ensures.1) }

pub returns-in_err-undoing : goal.returns-in_err-undoing
returns-in_err-undoing g c =
    let p = err_from_is_err_and c.from_residual.result c.from_residual.ensures.1 in
    let e = c.in_err-undoing.field-0.0 in
    rw (← c.self.view_is, p.1, p.2)
    (cut_barred g.D.Disk _ (g.met.D.Disk.only_now c.self.inside.keeper.disk) c.room.result
    (subst (λ w. IsRoomPast w c.room.result) (sym c.self.view_is) c.room.ensures) e
    (subst (λ b. MayHandOver b.pending b.freezes b.end c.self.inside.undoing (undo_count b.state)
    c.room.result (Err e)) (sym c.journal.ensures.2) c.in_err-undoing.ensures))

pub returns-in_err-cut : goal.returns-in_err-cut
returns-in_err-cut g c =
    let p = err_from_is_err_and c.from_residual-in_err-cut.result
    c.from_residual-in_err-cut.ensures.1 in
    let e = c.in_err-cut.field-0.0 in
    rw (← c.self.view_is, p.1, p.2)
    (cut_taken g.D.Disk _ (g.met.D.Disk.only_now c.self.inside.keeper.disk) c.room.result
    (subst (λ w. IsRoomPast w c.room.result) (sym c.self.view_is) c.room.ensures)
    c.in_ok-undoing.undoing
    (subst (λ b. MayHandOver b.pending b.freezes b.end c.self.inside.undoing (undo_count b.state)
    c.room.result (Ok c.in_ok-undoing.undoing)) (sym c.journal.ensures.2)
    c.in_ok-undoing.ensures) (Err e) c.cut.new.self c.cut.new.out.blocks.items
    c.in_err-cut.ensures.answer)

pub returns : goal.returns
returns g c =
    rw (← c.self.view_is)
    (cut_taken g.D.Disk _ (g.met.D.Disk.only_now c.self.inside.keeper.disk) c.room.result
    (subst (λ w. IsRoomPast w c.room.result) (sym c.self.view_is) c.room.ensures)
    c.in_ok-undoing.undoing
    (subst (λ b. MayHandOver b.pending b.freezes b.end c.self.inside.undoing (undo_count b.state)
    c.room.result (Ok c.in_ok-undoing.undoing)) (sym c.journal.ensures.2)
    c.in_ok-undoing.ensures) (Ok c.in_ok-cut.cut) c.cut.new.self c.cut.new.out.blocks.items
    c.in_ok-cut.ensures.answer)

pub invariant_of-self-2 : goal.invariant_of-self-2
invariant_of-self-2 g c = (
  c.self.invariant.0,
  of_cut c.self.inside.book c.cut.new.self c.self.inside.gather
      (λ bs. c.cut.new.out.blocks.items ≡ c.self.inside.transit.blocks.items ++ bs)
      (4 ≤ length c.self.inside.transit.blocks.items) (Ok c.in_ok-cut.cut)
      c.in_ok-cut.ensures.answer c.self.invariant.1,
)
