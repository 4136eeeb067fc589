use Rattle.std.proofs.Common.{◌⊎◌, inl, length, refl}
use Rattle.std.proofs.lemmas.Result.{err_from_is_err_and}
use Rattle.calls.specs.declared.format.Format.{Format}
use Rattle.disk_model.specs.Disk.{Rises}
use Rattle.recovery.specs.Heads.{HasNoHeader}
use Rattle.recovery.specs.Openings.{IsDamagedAt}
use Rattle.recovery.specs.Formatting.{IsRoomFor}
use Rattle.recovery.specs.Edits.{IsUneditable}
use Rattle.recovery.specs.Copies.{IsTooLarge}
use Rattle.recovery.proofs.CopyLemmas.{still_making, unread, copy_refusal, too_large, copied}
use Rattle.recovery.proofs.CopyLemmas.{making_copy}
use Rattle.recovery.proofs.copying.copy.Goals as goal

pub returns-then-not-is_room_for-clause-stop : goal.returns-then-not-is_room_for-clause-stop
returns-then-not-is_room_for-clause-stop g c =
    still_making g.E.Disk.seen g.E.Disk.may_leave g.E.Disk.moment g.E.Disk.left_since _
    c.args.new.now (g.met.E.Disk.only_now c.args.new.now)

pub returns-then-not-is_room_for-clause-reads : goal.returns-then-not-is_room_for-clause-reads
returns-then-not-is_room_for-clause-reads g c =
    unread g.D.Disk.seen g.D.Disk.may_leave g.D.Disk.moment g.D.Disk.left_since c.args.old.now
    (g.met.D.Disk.only_now c.args.old.now)

pub returns-in_err-image-clause-stop : goal.returns-in_err-image-clause-stop
returns-in_err-image-clause-stop g c =
    still_making g.E.Disk.seen g.E.Disk.may_leave g.E.Disk.moment g.E.Disk.left_since _
    c.args.new.now (g.met.E.Disk.only_now c.args.new.now)

pub returns-in_err-image-clause-answer : goal.returns-in_err-image-clause-answer
returns-in_err-image-clause-answer g c =
    let p = err_from_is_err_and c.from_residual.result c.from_residual.ensures.1 in
    rw (p.1, p.2)
    (copy_refusal
    (IsRoomFor Format.Two c.args.area (length (g.E.Disk.seen c.args.new.now)))
    (Rises (g.D.Disk.fault_count c.args.old.now)
    (g.D.Disk.fault_count c.settled_image.new.disk))
    (Rises (g.D.Disk.fault_count c.args.old.now)
    (g.D.Disk.fault_count c.settled_image.new.disk) ⊎
    Rises (g.E.Disk.fault_count c.args.new.now) (g.E.Disk.fault_count c.args.new.now))
    (g.D.Disk.is_honest c.settled_image.new.disk → HasNoHeader (g.D.Disk.seen c.args.old.now))
    (λ place. g.D.Disk.is_honest c.settled_image.new.disk →
    IsDamagedAt (g.D.Disk.seen c.args.old.now) place)
    (λ e. g.D.Disk.is_honest c.settled_image.new.disk →
    IsUneditable (g.D.Disk.seen c.args.old.now) c.args.edits.now e)
    (g.D.Disk.is_honest c.settled_image.new.disk →
    IsTooLarge (g.D.Disk.seen c.args.old.now) c.args.edits.now c.args.area)
    c.in_err-image.field-0.0
    (c.is_room_for.ensures.0 c.if-not-is_room_for.false) (λ risen. inl risen)
    c.in_err-image.ensures.refused)

pub returns-in_err-image-clause-unwritten : goal.returns-in_err-image-clause-unwritten
returns-in_err-image-clause-unwritten g c =
    let p = err_from_is_err_and c.from_residual.result c.from_residual.ensures.1 in
    rw p.1 (inl refl)

pub returns-then-is_too_long-clause-stop : goal.returns-then-is_too_long-clause-stop
returns-then-is_too_long-clause-stop g c =
    still_making g.E.Disk.seen g.E.Disk.may_leave g.E.Disk.moment g.E.Disk.left_since _
    c.args.new.now (g.met.E.Disk.only_now c.args.new.now)

pub returns-then-is_too_long-clause-answer : goal.returns-then-is_too_long-clause-answer
returns-then-is_too_long-clause-answer g c = (
  c.is_room_for.ensures.0 c.if-not-is_room_for.false,
  λ true_read. too_large c.in_ok-image.version (g.D.Disk.seen c.args.old.now) c.args.edits.now
      c.args.area
      c.in_ok-image.image.blocks.items (c.in_ok-image.ensures.image true_read).spells
      (c.is_too_long.ensures.0 c.if-is_too_long.true),
)

pub returns-in-Ok-clause-copied : goal.returns-in-Ok-clause-copied
returns-in-Ok-clause-copied g c =
    λ true_read. copied c.in_ok-image.version (g.D.Disk.seen c.args.old.now) c.args.edits.now
    c.args.area
    c.in_ok-image.image.blocks.items (g.E.Disk.seen c.write_copy.new.disk)
    (c.in_ok-image.ensures.image true_read) c.in-Ok.ensures.written

pub returns-in-Ok-clause-stop : goal.returns-in-Ok-clause-stop
returns-in-Ok-clause-stop g c = λ rest.
    making_copy g.E.Disk.seen g.E.Disk.moment g.E.Disk.left_since _
    c.in_ok-image.version (g.D.Disk.seen c.args.old.now) c.args.edits.now c.args.area
    c.in_ok-image.image.blocks.items c.args.new.now
    c.write_copy.new.disk c.in_ok-image.ensures.image (c.write_copy.ensures.stop rest)

pub returns-in-Err-clause-stop : goal.returns-in-Err-clause-stop
returns-in-Err-clause-stop g c = λ rest.
    making_copy g.E.Disk.seen g.E.Disk.moment g.E.Disk.left_since _
    c.in_ok-image.version (g.D.Disk.seen c.args.old.now) c.args.edits.now c.args.area
    c.in_ok-image.image.blocks.items c.args.new.now
    c.write_copy.new.disk c.in_ok-image.ensures.image (c.write_copy.ensures.stop rest)

pub returns-in_err-image-clause-starved : goal.returns-in_err-image-clause-starved
returns-in_err-image-clause-starved g c =
    let p = err_from_is_err_and c.from_residual.result c.from_residual.ensures.1 in
    rw (p.1, p.2) c.in_err-image.ensures.starved
