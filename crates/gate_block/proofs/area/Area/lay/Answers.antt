use Rattle.std.proofs.Common.{◌≡◌, ◌+◌, length, ap, sym, ◌∙◌, arith, refl, false}
use Rattle.std.specs.Result.{is_err}
use Rattle.gate_block.proofs.Parts.{outside}
use Rattle.gate_block.proofs.Rows.{length-row_push}
use Rattle.gate_block.proofs.Laying.{lays, leaves_elsewhere, has_room, use_ok}
use Rattle.std.proofs.lemmas.Result.{err_from_is_err_and}
use Rattle.gate_block.proofs.Exits.{place_on, leaves_elsewhere_none}
use Rattle.gate_block.proofs.area.Area.lay.Goals as goal

pub returns-then-is_err-clause-any_moment_elsewhere :
    goal.returns-then-is_err-clause-any_moment_elsewhere
returns-then-is_err-clause-any_moment_elsewhere g c =
    let disk = c.args.disk.now in
    leaves_elsewhere g.D.Disk.moment g.D.Disk.left_since (g.D.Disk.may_leave disk) _ disk
    c.write_at.new.self c.args.self.now (length c.args.block.now)
    (has_room _ _ c.in_ok-check_place.ensures.1) (g.met.D.Disk.only_now disk)
    c.write_at.ensures.time c.write_at.ensures.stop

pub returns-then-is_err-clause-elsewhere : goal.returns-then-is_err-clause-elsewhere
returns-then-is_err-clause-elsewhere g c =
    let a = c.args.self.now in
    outside a.base a.size (a.base + a.offset) a.offset (length c.args.block.now) refl
    (has_room _ _ c.in_ok-check_place.ensures.1) _ _ c.write_at.ensures.seen

pub returns-clause-laid : goal.returns-clause-laid
returns-clause-laid g c = λ bodies body is laid.
    let a = c.args.self.now in
    let block = c.args.block.now in
    let fine : is_err c.write_at.result ≡ false = sym c.is_err.ensures.value ∙ c.if-is_err.false in
    let written = use_ok _ c.write_at.result fine c.write_at.ensures.written in
    record {
      offset = omega (
        arith,
        laid.offset,
        ap length is.is,
        length-row_push bodies body block is,
      );
      holds = λ _. lays a.base a.size a.offset bodies body block _ _ is
          (has_room _ _ c.in_ok-check_place.ensures.1) c.requires.disk laid.offset laid.holds
          written c.write_at.ensures.seen;
    }

pub returns-clause-any_moment_elsewhere : goal.returns-clause-any_moment_elsewhere
returns-clause-any_moment_elsewhere g c =
    let disk = c.args.disk.now in
    leaves_elsewhere g.D.Disk.moment g.D.Disk.left_since (g.D.Disk.may_leave disk) _ disk
    c.write_at.new.self c.args.self.now (length c.args.block.now)
    (has_room _ _ c.in_ok-check_place.ensures.1) (g.met.D.Disk.only_now disk)
    c.write_at.ensures.time c.write_at.ensures.stop

pub returns-clause-elsewhere : goal.returns-clause-elsewhere
returns-clause-elsewhere g c =
    let a = c.args.self.now in
    outside a.base a.size (a.base + a.offset) a.offset (length c.args.block.now) refl
    (has_room _ _ c.in_ok-check_place.ensures.1) _ _ c.write_at.ensures.seen

pub returns-then-is_err-clause-answer : goal.returns-then-is_err-clause-answer
returns-then-is_err-clause-answer g c =
    let e = c.in_ok-check_place.ensures in (
      e.0,
      refl,
      e.1,
      c.write_at.ensures.cause.risen
          (sym c.is_err.ensures.value ∙ c.if-is_err.true),
    )

pub returns-in_err-check_place-clause-answer : goal.returns-in_err-check_place-clause-answer
returns-in_err-check_place-clause-answer g c =
    let p = err_from_is_err_and c.from_residual.result c.from_residual.ensures.1 in
    rw (p.1, p.2) (place_on _ _ _ _ c.in_err-check_place.ensures)

pub returns-in_err-check_place-clause-any_moment_elsewhere : goal.returns-in_err-check_place-clause-any_moment_elsewhere
returns-in_err-check_place-clause-any_moment_elsewhere g c =
    leaves_elsewhere_none g.D.Disk.seen g.D.Disk.may_leave g.D.Disk.moment g.D.Disk.left_since
    c.args.disk.now (g.met.D.Disk.only_now c.args.disk.now) c.args.self.now
