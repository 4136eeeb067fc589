use Rattle.std.proofs.Common.{arith, refl, ◌∙◌}
use Rattle.std.proofs.lemmas.Result.{err_from_is_err_and}
use Rattle.disk_model.specs.Disk.{Rises}
use Rattle.replay.proofs.Walks.{rises_before}
use Rattle.recovery.proofs.FlipLemmas.{flipped_to, laid_more}
use Rattle.recovery.proofs.UpgradeLemmas.{piecing_starts, piecing_on, goes_then, goes_image}
use Rattle.recovery.proofs.UpgradeLemmas.{written_ready, piece_stage, piece_fine, all_written}
use Rattle.recovery.proofs.UpgradeLemmas.{flip_refused}
use Rattle.recovery.proofs.upgrading.write_out.Goals as goal

pub pieces-init : goal.pieces-init
pieces-init g c = (
  piecing_starts g.D.Disk c.args.keeper.now (g.met.D.Disk.only_now c.args.keeper.now.disk)
      c.requires.fine c.requires.piece,
  (λ h. h, omega arith),
)

pub returns-in_err-image_piece-clause-goes : goal.returns-in_err-image_piece-clause-goes
returns-in_err-image_piece-clause-goes g c =
    goes_then g.D.Disk c.args.keeper.now c.pieces.keeper c.image_piece.new.self
    c.pieces.invariant.0.goes
    (goes_image g.D.Disk c.pieces.keeper c.image_piece.new.self c.image_piece.ensures.crash)

pub returns-in_err-flip-clause-goes : goal.returns-in_err-flip-clause-goes
returns-in_err-flip-clause-goes g c =
    goes_then g.D.Disk c.args.keeper.now c.image_piece.new.self c.flip.new.self
    (goes_then g.D.Disk c.args.keeper.now c.pieces.keeper c.image_piece.new.self
    c.pieces.invariant.0.goes
    (goes_image g.D.Disk c.pieces.keeper c.image_piece.new.self c.image_piece.ensures.crash))
    (goes_image g.D.Disk c.image_piece.new.self c.flip.new.self c.flip.ensures.crash)

pub returns-in_err-flip-clause-fault : goal.returns-in_err-flip-clause-fault
returns-in_err-flip-clause-fault g c =
    let p = err_from_is_err_and c.from_residual-in_err-flip.result
    c.from_residual-in_err-flip.ensures.1 in
    let piece = c.in_ok-image_piece.ensures.answer in
    let refused = flip_refused g.D.Disk c.image_piece.new.self c.flip.new.self
    (Rises (g.D.Disk.fault_count c.image_piece.new.self.disk)
    (g.D.Disk.fault_count c.flip.new.self.disk)) c.in_err-flip.field-0.0
    (piece_fine g.D.Disk c.pieces.keeper c.image_piece.new.self
    (Rises (g.D.Disk.fault_count c.pieces.keeper.disk)
    (g.D.Disk.fault_count c.image_piece.new.self.disk)) c.in_ok-image_piece.field-0
    c.pieces.invariant.0.fine piece)
    (all_written g.D.Disk c.pieces.keeper c.image_piece.new.self
    (Rises (g.D.Disk.fault_count c.pieces.keeper.disk)
    (g.D.Disk.fault_count c.image_piece.new.self.disk)) c.in_ok-image_piece.field-0
    piece c.if-not-branch.true) c.in_err-flip.ensures.answer in
    rw (p.1, p.2, refused.0) (
      refl,
      rises_before _ _ _ (omega (arith, c.pieces.invariant.1.1, c.image_piece.ensures.faults))
          c.flip.ensures.faults refused.1,
    )

pub returns-in_err-flip-clause-size : goal.returns-in_err-flip-clause-size
returns-in_err-flip-clause-size g c =
    let w = piece_stage g.D.Disk c.args.keeper.now c.pieces.keeper c.pieces.invariant.0 in
    c.flip.ensures.root.size ∙ (c.image_piece.ensures.elsewhere w.0 w.1).same_size ∙
    c.pieces.invariant.0.size

pub returns-then-not-branch-clause-goes : goal.returns-then-not-branch-clause-goes
returns-then-not-branch-clause-goes g c =
    goes_then g.D.Disk c.args.keeper.now c.image_piece.new.self c.flip.new.self
    (goes_then g.D.Disk c.args.keeper.now c.pieces.keeper c.image_piece.new.self
    c.pieces.invariant.0.goes
    (goes_image g.D.Disk c.pieces.keeper c.image_piece.new.self c.image_piece.ensures.crash))
    (goes_image g.D.Disk c.image_piece.new.self c.flip.new.self c.flip.ensures.crash)

pub returns-then-not-branch-clause-ready : goal.returns-then-not-branch-clause-ready
returns-then-not-branch-clause-ready g c =
    written_ready g.D.Disk c.args.keeper.now c.pieces.keeper c.flip.new.self
    c.pieces.invariant.0 c.in_ok-image_piece.field-0
    (Rises (g.D.Disk.fault_count c.pieces.keeper.disk)
    (g.D.Disk.fault_count c.image_piece.new.self.disk)) c.image_piece.new.self
    c.in_ok-image_piece.ensures.answer c.if-not-branch.true c.in_ok-image_piece.ensures.laid
    c.in_ok-flip.ensures.kept

pub returns-then-not-branch-clause-size : goal.returns-then-not-branch-clause-size
returns-then-not-branch-clause-size g c =
    let w = piece_stage g.D.Disk c.args.keeper.now c.pieces.keeper c.pieces.invariant.0 in
    c.flip.ensures.root.size ∙ (c.image_piece.ensures.elsewhere w.0 w.1).same_size ∙
    c.pieces.invariant.0.size

pub pieces-preserved : goal.pieces-preserved
pieces-preserved g c = (
  piecing_on g.D.Disk c.args.keeper.now c.pieces.keeper c.image_piece.new.self
      c.pieces.invariant.0
      (Rises (g.D.Disk.fault_count c.pieces.keeper.disk)
      (g.D.Disk.fault_count c.image_piece.new.self.disk)) c.in_ok-image_piece.field-0
      c.in_ok-image_piece.ensures.answer
      c.if-not-branch.false c.image_piece.ensures.crash c.in_ok-image_piece.ensures.laid
      c.image_piece.ensures.elsewhere,
  (
    λ h. c.pieces.invariant.1.0 (c.image_piece.ensures.honest h),
    omega (arith, c.pieces.invariant.1.1, c.image_piece.ensures.faults),
  ),
)

pub returns-then-not-branch-clause-flipped : goal.returns-then-not-branch-clause-flipped
returns-then-not-branch-clause-flipped g c =
    let k = c.args.keeper.now in
    flipped_to g.D.Disk k c.image_piece.new.self c.flip.new.self
    (laid_more g.D.Disk k c.pieces.keeper c.image_piece.new.self c.pieces.invariant.0.beside
    (Rises (g.D.Disk.fault_count c.pieces.keeper.disk)
    (g.D.Disk.fault_count c.image_piece.new.self.disk)) c.in_ok-image_piece.field-0
    c.in_ok-image_piece.ensures.answer c.image_piece.ensures.elsewhere)
    (Rises (g.D.Disk.fault_count c.image_piece.new.self.disk)
    (g.D.Disk.fault_count c.flip.new.self.disk)) c.in_ok-flip.field-0
    c.in_ok-flip.ensures.answer c.flip.ensures.root c.in_ok-flip.ensures.picks
    c.in_ok-flip.ensures.plain
