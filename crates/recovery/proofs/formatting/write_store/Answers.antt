use Rattle.std.proofs.Common.{arith, rules}
use Rattle.recovery.proofs.FormatLemmas.{byte_written, shut_at_rest, still_room, empty_store}
use Rattle.recovery.proofs.FormatLemmas.{filling, opening, ok_then, store_or_none}
use Rattle.recovery.specs.Formatting.{IsEmptyStore}
use Rattle.recovery.proofs.formatting.write_store.Goals as goal

pub returns-in_err-fill-clause-stop : goal.returns-in_err-fill-clause-stop
returns-in_err-fill-clause-stop g c =
    λ rest.
    let closed = byte_written 8 0 (g.D.Disk.seen c.args.disk.now)
    (g.D.Disk.seen c.write_and_sync.new.disk) (omega (arith, c.requires.whole))
    c.in_ok-write_and_sync.ensures.written in
    let shut = shut_at_rest g.D.Disk.seen g.D.Disk.may_leave c.write_and_sync.new.disk
    c.in_ok-write_and_sync.ensures.durable closed in
    filling g.D.Disk.seen g.D.Disk.may_leave g.D.Disk.moment g.D.Disk.left_since
    c.args.disk.now c.write_and_sync.new.disk c.fill.new.disk (IsEmptyStore c.args.version)
    rest
    c.write_and_sync.ensures.any_moment (c.fill.ensures.stop shut)

pub returns-clause-empty : goal.returns-clause-empty
returns-clause-empty g c =
    let room = still_room c.args.version c.args.area _ _ _ c.requires
    c.write_and_sync.ensures.seen.size
    c.fill.ensures.size in
    ok_then c.write_and_sync-2.result c.write_and_sync-2.ensures.written
    (λ written. empty_store c.args.version c.args.area (g.D.Disk.seen c.fill.new.disk)
    (g.D.Disk.seen c.write_and_sync-2.new.disk) room c.in_ok-fill.ensures.filled
    c.write_and_sync-2.ensures.seen
    (byte_written 8 167 (g.D.Disk.seen c.fill.new.disk) (g.D.Disk.seen c.write_and_sync-2.new.disk)
    (omega (arith, room.whole)) written))

pub returns-clause-stop : goal.returns-clause-stop
returns-clause-stop g c =
    λ rest.
    let closed = byte_written 8 0 (g.D.Disk.seen c.args.disk.now)
    (g.D.Disk.seen c.write_and_sync.new.disk) (omega (arith, c.requires.whole))
    c.in_ok-write_and_sync.ensures.written in
    let shut = shut_at_rest g.D.Disk.seen g.D.Disk.may_leave c.write_and_sync.new.disk
    c.in_ok-write_and_sync.ensures.durable closed in
    let room = still_room c.args.version c.args.area _ _ _ c.requires
    c.write_and_sync.ensures.seen.size
    c.fill.ensures.size in
    opening g.D.Disk.seen g.D.Disk.may_leave g.D.Disk.moment g.D.Disk.left_since
    c.args.disk.now c.write_and_sync.new.disk c.fill.new.disk (IsEmptyStore c.args.version)
    rest
    c.write_and_sync.ensures.any_moment
    c.write_and_sync-2.new.disk (c.fill.ensures.stop shut) c.in_ok-fill.ensures.durable
    (λ bytes. store_or_none c.args.version c.args.area _ bytes room c.in_ok-fill.ensures.filled)
    c.write_and_sync-2.ensures.any_moment

pub returns-clause-durable : goal.returns-clause-durable
returns-clause-durable g c = search rules
