use Rattle.std.proofs.Common.{◌≡◌, ◌+◌, List, ℕ, take, drop, refl, sym, ◌∙◌, ap, arith}
use Rattle.std.proofs.lemmas.Result.{err_from_is_err_and}
use Rattle.disk_model.proofs.Walk.{reads_on}
use Rattle.gate_block.proofs.Reading.{gate_is, stands, broken, cramped}
use Rattle.gate_block.proofs.Exits.{rises_on, error_on}
use Rattle.gate_block.proofs.area.Area.read_block.Goals as goal
use Rattle.gate_block.proofs.area.Area.read_block.Goals.{then-n-eq0-via-then-n-eq0}
use Rattle.gate_block.proofs.area.Area.read_block.Goals.{then-n-eq0-via-else-n-eq0+then-n}
use Rattle.gate_block.proofs.area.Area.read_block.Goals.{then-n-eq0-via-else-n-eq0+else-n+then-n-room}

pub returns-then-n-eq0-clause-error : goal.returns-then-n-eq0-clause-error
returns-then-n-eq0-clause-error g c = record {
  here = refl;
  broken = λ honest.
      let a = c.args.self.now in
      let s = g.D.Disk.seen c.args.disk.now in
      let gate = a.base + a.offset in
      let one_is = c.in_ok-read.ensures.bytes (c.read-2.ensures.honest honest) in
      let four_is = c.in_ok-read-2.ensures.bytes honest ∙
      ap (λ (l : List ℕ). take 4 (drop (gate + 1) l)) c.read.ensures.reads.same in
      broken a.base a.size a.offset s c.requires gate (gate + 1) c.read.new.out c.read-2.new.out
      refl refl (omega arith) one_is four_is c.if-open.false
      (λ n is low high room.
      let n_is : n ≡ c.number-n.result = is ∙ sym c.number-n.ensures.is in
      elim c.then-n-eq0.branch [
        | then-n-eq0-via-then-n-eq0 w ↦ omega arith
        | then-n-eq0-via-else-n-eq0+then-n w ↦ omega arith
        | then-n-eq0-via-else-n-eq0+else-n+then-n-room w ↦ omega arith
      ]);
}

pub returns-clause-found : goal.returns-clause-found
returns-clause-found g c = λ honest.
    let a = c.args.self.now in
    let s = g.D.Disk.seen c.args.disk.now in
    let gate = a.base + a.offset in
    let honest2 = c.read_bytes.ensures.honest honest in
    let one_is = c.in_ok-read.ensures.bytes (c.read-2.ensures.honest honest2) in
    let four_is = c.in_ok-read-2.ensures.bytes honest2 ∙
    ap (λ (l : List ℕ). take 4 (drop (gate + 1) l)) c.read.ensures.reads.same in
    let body_is = c.in_ok-read_bytes.ensures.bytes honest ∙
    ap (λ (l : List ℕ). take c.number-n.result (drop (gate + 5) l))
    (c.read-2.ensures.reads.same ∙ c.read.ensures.reads.same) in
    stands a.base a.size a.offset s c.requires gate (gate + 1) (gate + 5) c.number-n.result
    c.read.new.out c.read-2.new.out c.in_ok-read_bytes.field-0.items refl refl refl one_is
    four_is body_is c.if-open.false c.number-n.ensures.spelled (omega arith) (omega arith)
    (omega arith)

pub returns-in_err-read-clause-reads : goal.returns-in_err-read-clause-reads
returns-in_err-read-clause-reads g c =
    c.read.ensures.reads

pub returns-then-open-clause-reads : goal.returns-then-open-clause-reads
returns-then-open-clause-reads g c =
    c.read.ensures.reads

pub returns-then-room-lt6-clause-reads : goal.returns-then-room-lt6-clause-reads
returns-then-room-lt6-clause-reads g c =
    c.read.ensures.reads

pub returns-in_err-read-2-clause-reads : goal.returns-in_err-read-2-clause-reads
returns-in_err-read-2-clause-reads g c =
    reads_on g.D.Disk.seen g.D.Disk.may_leave g.D.Disk.moment g.D.Disk.left_since c.args.disk.now
    c.read.new.disk c.read-2.new.disk c.read.ensures.reads c.read-2.ensures.reads

pub returns-then-n-eq0-clause-reads : goal.returns-then-n-eq0-clause-reads
returns-then-n-eq0-clause-reads g c =
    reads_on g.D.Disk.seen g.D.Disk.may_leave g.D.Disk.moment g.D.Disk.left_since c.args.disk.now
    c.read.new.disk c.read-2.new.disk c.read.ensures.reads c.read-2.ensures.reads

pub returns-in_err-read_bytes-clause-reads : goal.returns-in_err-read_bytes-clause-reads
returns-in_err-read_bytes-clause-reads g c =
    reads_on g.D.Disk.seen g.D.Disk.may_leave g.D.Disk.moment g.D.Disk.left_since c.args.disk.now
    c.read-2.new.disk c.read_bytes.new.disk
    (reads_on g.D.Disk.seen g.D.Disk.may_leave g.D.Disk.moment g.D.Disk.left_since c.args.disk.now
    c.read.new.disk c.read-2.new.disk c.read.ensures.reads c.read-2.ensures.reads)
    c.read_bytes.ensures.reads

pub returns-clause-reads : goal.returns-clause-reads
returns-clause-reads g c =
    reads_on g.D.Disk.seen g.D.Disk.may_leave g.D.Disk.moment g.D.Disk.left_since c.args.disk.now
    c.read-2.new.disk c.read_bytes.new.disk
    (reads_on g.D.Disk.seen g.D.Disk.may_leave g.D.Disk.moment g.D.Disk.left_since c.args.disk.now
    c.read.new.disk c.read-2.new.disk c.read.ensures.reads c.read-2.ensures.reads)
    c.read_bytes.ensures.reads

pub returns-in_err-read-clause-error : goal.returns-in_err-read-clause-error
returns-in_err-read-clause-error g c =
    let p = err_from_is_err_and c.from_residual.result c.from_residual.ensures.1 in
    rw (p.1, p.2) (c.in_err-read.ensures.cause.risen refl)

pub returns-in_err-read-2-clause-error : goal.returns-in_err-read-2-clause-error
returns-in_err-read-2-clause-error g c =
    let r = c.from_residual-in_err-read-2 in
    let p = err_from_is_err_and r.result r.ensures.1 in
    rw (p.1, p.2)
    (rises_on _ _ _ c.read.ensures.cause.later c.read-2.ensures.cause.later
    (c.in_err-read-2.ensures.cause.risen refl))

pub returns-in_err-read_bytes-clause-error : goal.returns-in_err-read_bytes-clause-error
returns-in_err-read_bytes-clause-error g c =
    let r = c.from_residual-in_err-read_bytes in
    let p = err_from_is_err_and r.result r.ensures.1 in
    rw (p.1, p.2)
    (error_on _ _ _ (rises_on _ _ _
    (omega (arith, c.read.ensures.cause.later, c.read-2.ensures.cause.later))
    c.read_bytes.ensures.faults)
    _ c.in_err-read_bytes.ensures.error)

pub returns-then-open-clause-found : goal.returns-then-open-clause-found
returns-then-open-clause-found g c = λ honest opened.
    let a = c.args.self.now in
    let gate = gate_is a.base a.size a.offset (g.D.Disk.seen c.args.disk.now) c.requires
    (a.base + a.offset) c.read.new.out refl (omega arith) (c.in_ok-read.ensures.bytes honest) in
    c.if-open.true (sym gate.1 ∙ opened)

pub returns-then-room-lt6-clause-error : goal.returns-then-room-lt6-clause-error
returns-then-room-lt6-clause-error g c = record {
  here = refl;
  broken = λ honest.
      let a = c.args.self.now in
      cramped a.base a.size a.offset (g.D.Disk.seen c.args.disk.now) c.requires
      (a.base + a.offset) c.read.new.out refl (omega arith) (omega arith)
      (c.in_ok-read.ensures.bytes honest) c.if-open.false;
}
