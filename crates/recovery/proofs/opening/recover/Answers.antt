use Rattle.std.proofs.Common.{◌≡◌, ◌+◌, ◌<◌, ◌≤◌, ⊎_elim, ℕ, List, length, sym, ◌∙◌, ap, subst}
use Rattle.std.proofs.Common.{arith, true≢false, refl}
use Rattle.std.proofs.lemmas.Result.{err_from_is_err_and}
use Rattle.disk_model.specs.Disk.{ReadsOnly}
use Rattle.gate_block.specs.Area.{base_of, size_of, offset_of}
use Rattle.records.specs.declared.record.Record.{Record}
use Rattle.recovery.specs.Openings.{book_of}
use Rattle.checkpoint.proofs.Apart.{inside}
use Rattle.replay.specs.Undoing.{blocks_len}
use Rattle.replay.specs.Appending.{IsAppended}
use Rattle.replay.proofs.Lists.{upto_or}
use Rattle.replay.proofs.Walks.{rises_before}
use Rattle.recovery.proofs.OpenLemmas.{keeps_content, keeps_on, opens, content_is, has_no_room}
use Rattle.recovery.proofs.OpenLemmas.{where_it_stands, nothing_undone}
use Rattle.recovery.proofs.FindLemmas.{find_open_refusal, one_of_two}
use Rattle.recovery.proofs.opening.recover.Goals as goal

pub returns-in_err-machine-clause-refused : goal.returns-in_err-machine-clause-refused
returns-in_err-machine-clause-refused g c =
    let p = err_from_is_err_and c.from_residual.result c.from_residual.ensures.1 in
    rw (p.1, p.2)
    (find_open_refusal _ _ _ _ c.in_err-machine.field-0.0 c.in_err-machine.ensures.refused)

pub returns-then-not-fits-clause-kept : goal.returns-then-not-fits-clause-kept
returns-then-not-fits-clause-kept g c =
    λ true_read. keeps_content g.D.Disk.seen g.D.Disk.may_leave g.D.Disk.moment g.D.Disk.left_since
    c.args.disk.now c.find.new.disk c.find.ensures.reads

pub returns-then-not-fits-clause-refused : goal.returns-then-not-fits-clause-refused
returns-then-not-fits-clause-refused g c = λ true_read.
    let x = c.in_ok-machine.field-0 in
    let found = c.in_ok-machine.ensures.found in
    let records : List Record = x.records.items in
    let count : length records ≡ c.len.result = omega (arith, c.len.ensures, x.records.ok.0) in
    let over : size_of x.area ≤ offset_of x.area + blocks_len (length records) =
    ⊎_elim
    (λ (full : x.room ≤ blocks_len (length records)). omega (arith, full, found.placed.behind))
    (λ (room : blocks_len (length records) < x.room). absurd
    (true≢false (sym (c.fits.ensures.1 (subst (λ n. blocks_len n < x.room) count room)) ∙
    c.if-not-fits.true)))
    (upto_or x.room (blocks_len (length records))) in
    has_no_room (g.D.Disk.seen c.args.disk.now) x.area found.state x.next x.report.records
    (found.stored true_read) records x.machine found.undo found.marks over

pub returns-in_err-buffer-clause-kept : goal.returns-in_err-buffer-clause-kept
returns-in_err-buffer-clause-kept g c =
    λ true_read. keeps_content g.D.Disk.seen g.D.Disk.may_leave g.D.Disk.moment g.D.Disk.left_since
    c.args.disk.now c.find.new.disk c.find.ensures.reads

pub returns-in_err-append_all-clause-kept : goal.returns-in_err-append_all-clause-kept
returns-in_err-append_all-clause-kept g c = λ true_read.
    let x = c.in_ok-machine.field-0 in
    let found = c.in_ok-machine.ensures.found in
    keeps_on g.D.Disk.seen g.D.Disk.may_leave g.D.Disk.moment g.D.Disk.left_since c.args.disk.now
    c.find.new.disk c.append_all.new.disk x.area found.state x.machine x.next x.report.records
    x.records.items
    c.find.ensures.reads (found.stored (c.append_all.ensures.honest true_read)) found.undo
    found.marks (rw c.as_slice.ensures.value at c.append_all.ensures.stop)

pub returns-clause-kept : goal.returns-clause-kept
returns-clause-kept g c = λ true_read.
    let x = c.in_ok-machine.field-0 in
    let found = c.in_ok-machine.ensures.found in
    keeps_on g.D.Disk.seen g.D.Disk.may_leave g.D.Disk.moment g.D.Disk.left_since c.args.disk.now
    c.find.new.disk c.append_all.new.disk x.area found.state x.machine x.next x.report.records
    x.records.items
    c.find.ensures.reads (found.stored (c.append_all.ensures.honest true_read)) found.undo
    found.marks (rw c.as_slice.ensures.value at c.append_all.ensures.stop)

pub returns-clause-opened : goal.returns-clause-opened
returns-clause-opened g c = λ true_read.
    let x = c.in_ok-machine.field-0 in
    let found = c.in_ok-machine.ensures.found in
    let records : List Record = x.records.items in
    let old : List ℕ = g.D.Disk.seen c.args.disk.now in
    let new : List ℕ = g.D.Disk.seen c.append_all.new.disk in
    let appended : IsAppended records x.area c.append_all.new.area old new =
    subst (λ b. IsAppended records x.area c.append_all.new.area b new) c.find.ensures.reads.same
    (subst (λ r. IsAppended r x.area c.append_all.new.area (g.D.Disk.seen c.find.new.disk) new)
    c.as_slice.ensures.value c.in_ok-append_all.ensures.appended) in
    opens old x.area found.state x.next x.report.records
    (found.stored (c.append_all.ensures.honest true_read)) records x.machine found.undo
    found.marks c.append_all.new.area new (book_of x.machine x.next) appended refl

pub returns-clause-content : goal.returns-clause-content
returns-clause-content g c = λ content stands true_read.
    let x = c.in_ok-machine.field-0 in
    let found = c.in_ok-machine.ensures.found in
    content_is (g.D.Disk.seen c.args.disk.now) x.area found.state x.next x.report.records
    (found.stored (c.append_all.ensures.honest true_read)) x.records.items x.machine found.undo
    found.marks content stands

pub returns-clause-durable : goal.returns-clause-durable
returns-clause-durable g c = λ true_read rest.
    let x = c.in_ok-machine.field-0 in
    let found = c.in_ok-machine.ensures.found in
    where_it_stands g.D.Disk.seen g.D.Disk.may_leave g.D.Disk.moment g.D.Disk.left_since
    c.args.disk.now c.find.new.disk x.area found.state x.machine x.next x.report.records
    x.records.items
    c.find.ensures.reads (found.stored (c.append_all.ensures.honest true_read)) found.undo
    found.marks rest _ c.in_ok-append_all.ensures.durable

pub returns-clause-untouched : goal.returns-clause-untouched
returns-clause-untouched g c = λ true_read o none.
    let x = c.in_ok-machine.field-0 in
    let found = c.in_ok-machine.ensures.found in
    let records : List Record = x.records.items in
    let old : List ℕ = g.D.Disk.seen c.args.disk.now in
    let new : List ℕ = g.D.Disk.seen c.append_all.new.disk in
    let appended : IsAppended records x.area c.append_all.new.area old new =
    subst (λ b. IsAppended records x.area c.append_all.new.area b new) c.find.ensures.reads.same
    (subst (λ r. IsAppended r x.area c.append_all.new.area (g.D.Disk.seen c.find.new.disk) new)
    c.as_slice.ensures.value c.in_ok-append_all.ensures.appended) in
    let nothing : length records ≡ 0 =
    nothing_undone old x.area c.append_all.new.area found.state x.machine x.next
    x.report.records records (book_of x.machine x.next) new
    (found.stored (c.append_all.ensures.honest true_read)) found.marks appended o none in
    let same : c.append_all.new.disk ≡ c.find.new.disk =
    c.in_ok-append_all.ensures.untouched (ap length c.as_slice.ensures.value ∙ nothing) in
    subst (λ d. ReadsOnly g.D.Disk.seen g.D.Disk.may_leave g.D.Disk.moment g.D.Disk.left_since
    c.args.disk.now d) (sym same) c.find.ensures.reads

pub append_all-requires-clause-undo : goal.append_all-requires-clause-undo
append_all-requires-clause-undo g c =
    rw c.as_slice.ensures.value c.in_ok-machine.ensures.found.marks

pub append_all-requires-clause-fits : goal.append_all-requires-clause-fits
append_all-requires-clause-fits g c =
    let x = c.in_ok-machine.field-0 in
    let records : List Record = x.records.items in
    let count : length records ≡ c.len.result = omega (arith, c.len.ensures, x.records.ok.0) in
    let room : blocks_len c.len.result < x.room = c.fits.ensures.0 c.if-not-fits.false in
    rw (c.as_slice.ensures.value, count)
    (omega (arith, room, c.in_ok-machine.ensures.found.placed.behind))

pub append_all-requires-clause-disk : goal.append_all-requires-clause-disk
append_all-requires-clause-disk g c =
    rw c.find.ensures.reads.same (inside _ _ c.in_ok-machine.ensures.found.placed.one).0

pub returns-in_err-append_all-clause-refused : goal.returns-in_err-append_all-clause-refused
returns-in_err-append_all-clause-refused g c =
    let p = err_from_is_err_and c.from_residual-in_err-append_all.result
    c.from_residual-in_err-append_all.ensures.1 in
    let refused = c.in_err-append_all.ensures.refused in
    rw (p.1, p.2, refused.0)
    (rises_before _ _ _ c.find.ensures.faults c.append_all.ensures.faults refused.1)

pub returns-in_err-append_all-clause-unchanged : goal.returns-in_err-append_all-clause-unchanged
returns-in_err-append_all-clause-unchanged g c =
    let p = err_from_is_err_and c.from_residual-in_err-append_all.result
    c.from_residual-in_err-append_all.ensures.1 in
    rw (p.1, p.2, c.in_err-append_all.ensures.refused.0) (λ no_fault. absurd (no_fault refl))

pub returns-clause-area : goal.returns-clause-area
returns-clause-area g c =
    let area = c.in_ok-machine.field-0.area in
    let appended = c.in_ok-append_all.ensures.appended in
    let one = c.in_ok-machine.ensures.found.placed.one in (
      appended.fine,
      one_of_two c.append_all.new.area (base_of area) (size_of area) _ appended.same_base
          appended.same_size
          (c.append_all.ensures.size ∙ ap length c.find.ensures.reads.same ∙ one.whole) one.base,
    )

pub returns-in_err-machine-clause-unchanged : goal.returns-in_err-machine-clause-unchanged
returns-in_err-machine-clause-unchanged g c =
    let r = c.from_residual in
    let p = err_from_is_err_and r.result r.ensures.1 in
    rw p.1 (λ no_fault. c.find.ensures.reads)

pub returns-then-not-fits-clause-unchanged : goal.returns-then-not-fits-clause-unchanged
returns-then-not-fits-clause-unchanged g c =
    λ no_fault. c.find.ensures.reads

pub returns-in_err-buffer-clause-unchanged : goal.returns-in_err-buffer-clause-unchanged
returns-in_err-buffer-clause-unchanged g c =
    let r = c.from_residual-in_err-buffer in
    let p = err_from_is_err_and r.result r.ensures.1 in
    rw p.1 (λ no_fault. c.find.ensures.reads)

pub returns-in_err-machine-clause-kept : goal.returns-in_err-machine-clause-kept
returns-in_err-machine-clause-kept g c =
    λ true_read.
    keeps_content g.D.Disk.seen g.D.Disk.may_leave g.D.Disk.moment g.D.Disk.left_since
    c.args.disk.now c.find.new.disk c.find.ensures.reads

pub returns-in_err-buffer-clause-refused : goal.returns-in_err-buffer-clause-refused
returns-in_err-buffer-clause-refused g c =
    let r = c.from_residual-in_err-buffer in
    let p = err_from_is_err_and r.result r.ensures.1 in
    rw (p.1, p.2, c.in_err-buffer.ensures.only) tt

pub returns-in_err-machine-clause-size : goal.returns-in_err-machine-clause-size
returns-in_err-machine-clause-size g c =
    ap length c.find.ensures.reads.same

pub returns-then-not-fits-clause-size : goal.returns-then-not-fits-clause-size
returns-then-not-fits-clause-size g c =
    ap length c.find.ensures.reads.same

pub returns-in_err-buffer-clause-size : goal.returns-in_err-buffer-clause-size
returns-in_err-buffer-clause-size g c =
    ap length c.find.ensures.reads.same

pub returns-in_err-append_all-clause-size : goal.returns-in_err-append_all-clause-size
returns-in_err-append_all-clause-size g c =
    c.append_all.ensures.size ∙ ap length c.find.ensures.reads.same

pub returns-clause-size : goal.returns-clause-size
returns-clause-size g c =
    c.append_all.ensures.size ∙ ap length c.find.ensures.reads.same

pub returns-in_err-machine-clause-starved : goal.returns-in_err-machine-clause-starved
returns-in_err-machine-clause-starved g c =
    let p = err_from_is_err_and c.from_residual.result c.from_residual.ensures.1 in
    rw (p.1, p.2) c.in_err-machine.ensures.starved

pub returns-in_err-buffer-clause-starved : goal.returns-in_err-buffer-clause-starved
returns-in_err-buffer-clause-starved g c =
    let p = err_from_is_err_and c.from_residual-in_err-buffer.result
    c.from_residual-in_err-buffer.ensures.1 in
    rw p.1 (λ starved true_read.
    let stored = c.in_ok-machine.ensures.found.stored true_read in
    (stored.version, size_of c.in_ok-machine.field-0.area, stored.header))
