use Rattle.std.proofs.Common.{◌∙◌, ℕ, ap, refl, arith, length, take, drop}
use Rattle.std.proofs.lemmas.List.{take_at}
use Rattle.std.proofs.lemmas.Result.{err_from_is_err_and}
use Rattle.gate_block.proofs.Exits.{reads_none}
use Rattle.gate_block.proofs.bytes.read_bytes.Goals as goal

pub returns-in_err-bytes-clause-error : goal.returns-in_err-bytes-clause-error
returns-in_err-bytes-clause-error g c =
    let p = err_from_is_err_and c.from_residual.result c.from_residual.ensures.1 in
    rw (p.1, p.2) tt

pub returns-in_err-bytes-clause-reads : goal.returns-in_err-bytes-clause-reads
returns-in_err-bytes-clause-reads g c =
    reads_none g.D.Disk.seen g.D.Disk.may_leave g.D.Disk.moment g.D.Disk.left_since
    c.args.disk.now (g.met.D.Disk.only_now c.args.disk.now)

pub returns-in_err-read-clause-error : goal.returns-in_err-read-clause-error
returns-in_err-read-clause-error g c =
    let r = c.from_residual-in_err-read in
    let p = err_from_is_err_and r.result r.ensures.1 in
    rw (p.1, p.2) (c.in_err-read.ensures.cause.risen refl)

pub returns-in_err-read-clause-reads : goal.returns-in_err-read-clause-reads
returns-in_err-read-clause-reads g c = c.read.ensures.reads

pub returns-clause-reads : goal.returns-clause-reads
returns-clause-reads g c = c.read.ensures.reads

pub returns-clause-bytes : goal.returns-clause-bytes
returns-clause-bytes g c = λ honest.
    take_at c.read.new.out _ c.in_ok-bytes.bytes.len (omega arith) ∙
    c.in_ok-read.ensures.bytes honest ∙
    ap (λ (m : ℕ). take m (drop c.args.at (g.D.Disk.seen c.args.disk.now)))
    (omega (arith, c.in_ok-bytes.ensures.len))

pub returns-clause-length : goal.returns-clause-length
returns-clause-length g c =
    ap length (take_at c.read.new.out _ c.in_ok-bytes.bytes.len (omega arith)) ∙
    omega (arith, c.in_ok-bytes.ensures.len)
