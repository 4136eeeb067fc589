use Rattle.std.proofs.Common.{length, drop, refl, ap, subst, sym, arith, Err, ◌≡◌}
use Rattle.recovery.proofs.FormatLemmas.{past_root, past_letters, past_area, shut_past_sync}
use Rattle.recovery.proofs.FormatLemmas.{head_written, behind_kept, letters_long, letters_short}
use Rattle.recovery.proofs.FormatLemmas.{on_any, caused}
use Rattle.recovery.specs.Formatting.{IsHeadOf}
use Rattle.recovery.proofs.formatting.write_head.Goals as goal

pub returns-in_err-write_at-clause-stop : goal.returns-in_err-write_at-clause-stop
returns-in_err-write_at-clause-stop g c = λ shut.
    (past_root g.D.Disk.may_leave g.D.Disk.moment g.D.Disk.left_since c.args.disk.now
    (g.met.D.Disk.only_now c.args.disk.now) shut
    _ (c.write_at.ensures.stop, c.write_at.ensures.time)).since

pub returns-in_err-write_at-2-clause-stop : goal.returns-in_err-write_at-2-clause-stop
returns-in_err-write_at-2-clause-stop g c = λ shut.
    (past_letters g.D.Disk.may_leave g.D.Disk.moment g.D.Disk.left_since c.args.disk.now
    (g.met.D.Disk.only_now c.args.disk.now) shut
    _ (c.write_at.ensures.stop, c.write_at.ensures.time)
    _ _ (letters_short c.args.version _ c.letters.ensures)
    (c.write_at-2.ensures.stop, c.write_at-2.ensures.time)).since

pub returns-in_err-write_at-3-clause-stop : goal.returns-in_err-write_at-3-clause-stop
returns-in_err-write_at-3-clause-stop g c = λ shut.
    (past_area g.D.Disk.may_leave g.D.Disk.moment g.D.Disk.left_since c.args.disk.now
    (g.met.D.Disk.only_now c.args.disk.now) shut
    _ (c.write_at.ensures.stop, c.write_at.ensures.time)
    _ _ (letters_short c.args.version _ c.letters.ensures)
    (c.write_at-2.ensures.stop, c.write_at-2.ensures.time)
    _ _ (c.write_at-3.ensures.stop, c.write_at-3.ensures.time)).since

pub returns-clause-head : goal.returns-clause-head
returns-clause-head g c =
    let done = head_written c.args.version c.args.area _ c.to_be_bytes.result _ _ _ _ _ c.requires
    (letters_long c.args.version _ c.letters.ensures)
    (ap length c.to_be_bytes.ensures) refl c.in_ok-write_at.ensures.written
    c.in_ok-write_at-2.ensures.written c.in_ok-write_at-3.ensures.written c.letters.ensures
    c.to_be_bytes.ensures in
    on_any c.sync.result (subst (IsHeadOf c.args.version c.args.area) (sym c.sync.ensures.seen)
    done)

pub returns-clause-behind : goal.returns-clause-behind
returns-clause-behind g c =
    let done = behind_kept c.args.version c.args.area _ c.to_be_bytes.result _ _ _ _ _ c.requires
    (letters_long c.args.version _ c.letters.ensures)
    (ap length c.to_be_bytes.ensures) refl c.in_ok-write_at.ensures.written
    c.in_ok-write_at-2.ensures.written c.in_ok-write_at-3.ensures.written in
    on_any c.sync.result
    (subst (λ l. drop 4096 l ≡ drop 4096 (g.D.Disk.seen c.args.disk.now))
    (sym c.sync.ensures.seen) done)

pub returns-clause-stop : goal.returns-clause-stop
returns-clause-stop g c = λ shut.
    (shut_past_sync g.D.Disk.may_leave g.D.Disk.moment g.D.Disk.left_since c.args.disk.now
    c.write_at-3.new.self c.sync.new.self
    (past_area g.D.Disk.may_leave g.D.Disk.moment g.D.Disk.left_since c.args.disk.now
    (g.met.D.Disk.only_now c.args.disk.now) shut
    _ (c.write_at.ensures.stop, c.write_at.ensures.time)
    _ _ (letters_short c.args.version _ c.letters.ensures)
    (c.write_at-2.ensures.stop, c.write_at-2.ensures.time)
    _ _ (c.write_at-3.ensures.stop, c.write_at-3.ensures.time))
    c.sync.ensures.stop c.sync.ensures.time).since

pub write_at-requires-3 : goal.write_at-requires-3
write_at-requires-3 g c =
    omega (
      arith,
      c.requires,
      c.write_at.ensures.seen.size,
      c.write_at-2.ensures.seen.size,
      ap length c.to_be_bytes.ensures,
    )

pub returns-in_err-write_at-3-clause-cause : goal.returns-in_err-write_at-3-clause-cause
returns-in_err-write_at-3-clause-cause g c =
    caused (g.D.Disk.fault_count c.args.disk.now) (g.D.Disk.fault_count c.write_at-2.new.self) _
    (Err c.in_err-write_at-3.field-0.0) c.from_residual-in_err-write_at-3.result
    (omega (arith, c.write_at.ensures.cause.later, c.write_at-2.ensures.cause.later)) (λ _. refl)
    c.in_err-write_at-3.ensures.cause

pub returns-clause-cause : goal.returns-clause-cause
returns-clause-cause g c =
    caused (g.D.Disk.fault_count c.args.disk.now) (g.D.Disk.fault_count c.write_at-3.new.self) _ _
    c.sync.result (omega (
      arith,
      c.write_at.ensures.cause.later,
      c.write_at-2.ensures.cause.later,
      c.write_at-3.ensures.cause.later,
    )) (λ e. e) c.sync.ensures.cause
