use Rattle.std.proofs.Common.{◌≡◌, ◌<◌, ◌==◌, ℕ, Bool, true, false, length, vec_capacity, arith}
use Rattle.std.proofs.Common.{sym, ◌∙◌, subst}
use Rattle.std.proofs.lemmas.Bool.{eqb-true, eqb-false}
use Rattle.std.proofs.lemmas.Result.{err_from_is_err_and}
use Rattle.gate_block.specs.Row.{IsBlockOf}
use Rattle.records.specs.Records.{spelling}
use Rattle.replay.proofs.Walks.{IsAppending, appending_starts, fault_alone, stop_on, appends_on}
use Rattle.replay.proofs.Walks.{appended, nothing_written, grouped, block_len}
use Rattle.replay.proofs.appending.append_all.Goals as goal

some_left : (n : ℕ) (empty : Bool) → empty ≡ (n == 0) → empty ≡ false → 0 < n
some_left n empty is none = let other : n ≡ 0 → ⊥ = eqb-false n 0 (sym is ∙ none) in
    omega (arith, other)

none_left : (n : ℕ) (empty : Bool) → empty ≡ (n == 0) → empty ≡ true → n ≡ 0
none_left n empty is all = eqb-true n 0 (sym is ∙ all)

pub loop-rest-init : goal.loop-rest-init
loop-rest-init g c =
    appending_starts g.D.Disk.seen g.D.Disk.may_leave g.D.Disk.moment g.D.Disk.left_since
    g.D.Disk.is_honest g.D.Disk.fault_count c.args.records.now c.args.area.now c.args.disk.now
    c.args.bytes.items _
    (g.met.D.Disk.only_now c.args.disk.now) c.requires.undo c.requires.fine c.requires.fits
    c.requires.disk c.requires.head c.requires.room

pub returns-in_err-append-clause-stop : goal.returns-in_err-append-clause-stop
returns-in_err-append-clause-stop g c =
    let some = some_left (length c.loop-rest.rest.now) c.is_empty.result c.is_empty.ensures
    c.loop-rest-test.true in
    let same = grouped c.loop-rest.rest.now c.split_at.result.0.now c.split_at.result.1.now
    c.min.result c.split_at.ensures.front c.split_at.ensures.back (λ few. omega arith)
    (λ many. omega arith) in
    let is_block : IsBlockOf (spelling c.split_at.result.0.now) c.as_slice.result.now =
    subst (λ b. IsBlockOf (spelling c.split_at.result.0.now) b) (sym c.as_slice.ensures.value)
    c.pack.ensures.block in
    stop_on g.D.Disk.seen g.D.Disk.may_leave g.D.Disk.moment g.D.Disk.left_since g.D.Disk.is_honest
    g.D.Disk.fault_count c.loop-rest.invariant some c.split_at.result.0.now
    c.split_at.result.1.now
    same.0 same.1 c.as_slice.result.now is_block c.append.new.self c.append.new.disk
    c.append.ensures.any_moment

pub returns-in_err-append-clause-refused : goal.returns-in_err-append-clause-refused
returns-in_err-append-clause-refused g c =
    let some = some_left (length c.loop-rest.rest.now) c.is_empty.result c.is_empty.ensures
    c.loop-rest-test.true in
    let same = grouped c.loop-rest.rest.now c.split_at.result.0.now c.split_at.result.1.now
    c.min.result c.split_at.ensures.front c.split_at.ensures.back (λ few. omega arith)
    (λ many. omega arith) in
    let is_block : IsBlockOf (spelling c.split_at.result.0.now) c.as_slice.result.now =
    subst (λ b. IsBlockOf (spelling c.split_at.result.0.now) b) (sym c.as_slice.ensures.value)
    c.pack.ensures.block in
    let p = err_from_is_err_and c.from_residual.result c.from_residual.ensures.1 in
    rw (p.1, p.2)
    (fault_alone g.D.Disk.seen g.D.Disk.may_leave g.D.Disk.moment g.D.Disk.left_since
    g.D.Disk.is_honest g.D.Disk.fault_count c.loop-rest.invariant some c.split_at.result.0.now
    c.split_at.result.1.now
    same.0 same.1 c.as_slice.result.now is_block c.append.new.self c.append.new.disk
    c.in_err-append.field-0.0 c.append.ensures.faults c.in_err-append.ensures.answer)

pub loop-rest-preserved : goal.loop-rest-preserved
loop-rest-preserved g c =
    let some = some_left (length c.loop-rest.rest.now) c.is_empty.result c.is_empty.ensures
    c.loop-rest-test.true in
    let same = grouped c.loop-rest.rest.now c.split_at.result.0.now c.split_at.result.1.now
    c.min.result c.split_at.ensures.front c.split_at.ensures.back (λ few. omega arith)
    (λ many. omega arith) in
    let is_block : IsBlockOf (spelling c.split_at.result.0.now) c.as_slice.result.now =
    subst (λ b. IsBlockOf (spelling c.split_at.result.0.now) b) (sym c.as_slice.ensures.value)
    c.pack.ensures.block in
    let done = c.in_ok-append.ensures in
    subst (λ b. IsAppending g.D.Disk.seen g.D.Disk.may_leave g.D.Disk.moment g.D.Disk.left_since
    g.D.Disk.is_honest g.D.Disk.fault_count c.args.records.now c.split_at.result.1.now
    c.args.area.now c.append.new.self c.args.disk.now c.append.new.disk b
    (vec_capacity c.pack.new.bytes)) c.as_slice.ensures.value
    (appends_on g.D.Disk.seen g.D.Disk.may_leave g.D.Disk.moment g.D.Disk.left_since
    g.D.Disk.is_honest g.D.Disk.fault_count c.loop-rest.invariant some c.split_at.result.0.now
    c.split_at.result.1.now
    same.0 same.1 c.as_slice.result.now is_block c.append.new.self c.append.new.disk
    c.append.ensures.any_moment
    done.answer.1 c.append.ensures.base c.append.ensures.size done.offset done.kept done.counts
    c.append.ensures.any_moment_elsewhere (g.met.D.Disk.counts_now c.append.new.disk)
    c.append.ensures.elsewhere c.append.ensures.honest c.append.ensures.faults
    (omega (arith, block_len (spelling c.split_at.result.0.now) c.as_slice.result.now is_block))
    (vec_capacity c.pack.new.bytes) c.pack.ensures.room)

pub returns-clause-appended : goal.returns-clause-appended
returns-clause-appended g c =
    appended g.D.Disk.seen g.D.Disk.may_leave g.D.Disk.moment g.D.Disk.left_since g.D.Disk.is_honest
    g.D.Disk.fault_count c.loop-rest.invariant
    (none_left (length c.loop-rest.rest.now) c.is_empty.result c.is_empty.ensures
    c.loop-rest-test.false)

pub returns-clause-untouched : goal.returns-clause-untouched
returns-clause-untouched g c = λ none. nothing_written g.D.Disk.seen g.D.Disk.may_leave
    g.D.Disk.moment g.D.Disk.left_since g.D.Disk.is_honest g.D.Disk.fault_count
    c.loop-rest.invariant none
