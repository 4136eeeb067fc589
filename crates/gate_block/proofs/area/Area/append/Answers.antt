use Rattle.std.proofs.Common.{rules, refl}
use Rattle.std.proofs.Common.{◌≡◌, ◌∷◌, [], ◌++◌, length, false, ap, sym, ◌∙◌, arith, List, ℕ}
use Rattle.std.specs.Result.{is_err}
use Rattle.gate_block.specs.Area.{bytes_of, HoldsRow}
use Rattle.gate_block.proofs.Laying.{use_ok}
use Rattle.gate_block.proofs.Rows.{length-row_push}
use Rattle.std.proofs.lemmas.Result.{err_from_is_err_and}
use Rattle.gate_block.proofs.Exits.{place_on, leaves_blocks_none, leaves_elsewhere_none}
use Rattle.gate_block.proofs.area.Area.append.Goals as goal

pub returns-clause-kept : goal.returns-clause-kept
returns-clause-kept g c = λ bodies body is ready.
    let a = c.args.self.now in
    let fine : is_err c.write_block.result ≡ false =
    sym c.is_err.ensures.value ∙ c.if-is_err.false in
    let kept : HoldsRow g.D.Disk.seen g.D.Disk.may_leave a c.write_block.new.disk
    (bodies ++ body ∷ []) = use_ok _ c.write_block.result fine
    (c.write_block.ensures.kept bodies body is ready) in
    record {
      holds = kept.holds;
      offset = omega (
        arith,
        ready.offset,
        ap length is.is,
        length-row_push bodies body c.args.block.now is,
      );
      at_rest = λ d left. ap (λ (l : List ℕ). bytes_of a l) (kept.at_rest d left);
    }

pub returns-clause-counts : goal.returns-clause-counts
returns-clause-counts g c = λ bodies body is holds here.
    let fine : is_err c.write_block.result ≡ false =
    sym c.is_err.ensures.value ∙ c.if-is_err.false in
    use_ok _ c.write_block.result fine (c.write_block.ensures.counts bodies body is holds here)

pub returns-then-is_err-clause-any_moment : goal.returns-then-is_err-clause-any_moment
returns-then-is_err-clause-any_moment g c = search rules

pub returns-then-is_err-clause-any_moment_elsewhere : goal.returns-then-is_err-clause-any_moment_elsewhere
returns-then-is_err-clause-any_moment_elsewhere g c = search rules

pub returns-then-is_err-clause-elsewhere : goal.returns-then-is_err-clause-elsewhere
returns-then-is_err-clause-elsewhere g c = search rules

pub returns-clause-any_moment : goal.returns-clause-any_moment
returns-clause-any_moment g c = search rules

pub returns-clause-any_moment_elsewhere : goal.returns-clause-any_moment_elsewhere
returns-clause-any_moment_elsewhere g c = search rules

pub returns-clause-elsewhere : goal.returns-clause-elsewhere
returns-clause-elsewhere g c = search rules

pub returns-then-is_err-clause-answer : goal.returns-then-is_err-clause-answer
returns-then-is_err-clause-answer g c =
    let e = c.in_ok-check_place.ensures in (
      e.0,
      refl,
      e.1,
      c.write_block.ensures.cause.risen
          (sym c.is_err.ensures.value ∙ c.if-is_err.true),
    )

pub returns-in_err-check_place-clause-answer : goal.returns-in_err-check_place-clause-answer
returns-in_err-check_place-clause-answer g c =
    let p = err_from_is_err_and c.from_residual.result c.from_residual.ensures.1 in
    rw (p.1, p.2) (place_on _ _ _ _ c.in_err-check_place.ensures)

pub returns-in_err-check_place-clause-any_moment : goal.returns-in_err-check_place-clause-any_moment
returns-in_err-check_place-clause-any_moment g c =
    λ bodies body is ready.
    leaves_blocks_none g.D.Disk.seen g.D.Disk.may_leave g.D.Disk.moment g.D.Disk.left_since
    c.args.disk.now (g.met.D.Disk.only_now c.args.disk.now) c.args.self.now
    bodies body ready

pub returns-in_err-check_place-clause-any_moment_elsewhere : goal.returns-in_err-check_place-clause-any_moment_elsewhere
returns-in_err-check_place-clause-any_moment_elsewhere g c =
    leaves_elsewhere_none g.D.Disk.seen g.D.Disk.may_leave g.D.Disk.moment g.D.Disk.left_since
    c.args.disk.now (g.met.D.Disk.only_now c.args.disk.now) c.args.self.now
