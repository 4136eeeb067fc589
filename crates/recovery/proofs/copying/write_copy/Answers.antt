use Rattle.std.proofs.Common.{arith, rules}
use Rattle.checkpoint.specs.Imaging.{bodies_of}
use Rattle.recovery.specs.Copies.{IsStoreOf}
use Rattle.recovery.proofs.FormatLemmas.{byte_written, shut_at_rest, still_room, filling, opening}
use Rattle.recovery.proofs.FormatLemmas.{ok_then}
use Rattle.recovery.proofs.CopyLemmas.{store_there, store_or_no_store}
use Rattle.recovery.proofs.copying.write_copy.Goals as goal

pub returns-in_err-fill_with-clause-stop : goal.returns-in_err-fill_with-clause-stop
returns-in_err-fill_with-clause-stop g c =
    λ rest.
    let closed = byte_written 8 0 (g.D.Disk.seen c.args.disk.now)
    (g.D.Disk.seen c.write_and_sync.new.disk) (omega (arith, c.requires.room.whole))
    c.in_ok-write_and_sync.ensures.written in
    let shut = shut_at_rest g.D.Disk.seen g.D.Disk.may_leave c.write_and_sync.new.disk
    c.in_ok-write_and_sync.ensures.durable closed in
    filling g.D.Disk.seen g.D.Disk.may_leave g.D.Disk.moment g.D.Disk.left_since
    c.args.disk.now c.write_and_sync.new.disk c.fill_with.new.disk
    (IsStoreOf c.args.version c.args.area (bodies_of c.args.image.blocks.items)) rest
    c.write_and_sync.ensures.any_moment (c.fill_with.ensures.stop shut)

pub returns-clause-written : goal.returns-clause-written
returns-clause-written g c =
    let room = still_room c.args.version c.args.area _ _ _ c.requires.room
    c.write_and_sync.ensures.seen.size
    c.fill_with.ensures.size in
    ok_then c.write_and_sync-2.result c.write_and_sync-2.ensures.written
    (λ written. store_there c.args.version c.args.area (bodies_of c.args.image.blocks.items)
    (g.D.Disk.seen c.fill_with.new.disk)
    (g.D.Disk.seen c.write_and_sync-2.new.disk) room c.in_ok-fill_with.ensures.filled
    c.write_and_sync-2.ensures.seen
    (byte_written 8 167 (g.D.Disk.seen c.fill_with.new.disk)
    (g.D.Disk.seen c.write_and_sync-2.new.disk) (omega (arith, room.whole)) written))

pub returns-clause-stop : goal.returns-clause-stop
returns-clause-stop g c =
    λ rest.
    let closed = byte_written 8 0 (g.D.Disk.seen c.args.disk.now)
    (g.D.Disk.seen c.write_and_sync.new.disk) (omega (arith, c.requires.room.whole))
    c.in_ok-write_and_sync.ensures.written in
    let shut = shut_at_rest g.D.Disk.seen g.D.Disk.may_leave c.write_and_sync.new.disk
    c.in_ok-write_and_sync.ensures.durable closed in
    let room = still_room c.args.version c.args.area _ _ _ c.requires.room
    c.write_and_sync.ensures.seen.size
    c.fill_with.ensures.size in
    opening g.D.Disk.seen g.D.Disk.may_leave g.D.Disk.moment g.D.Disk.left_since
    c.args.disk.now c.write_and_sync.new.disk c.fill_with.new.disk
    (IsStoreOf c.args.version c.args.area (bodies_of c.args.image.blocks.items)) rest
    c.write_and_sync.ensures.any_moment
    c.write_and_sync-2.new.disk (c.fill_with.ensures.stop shut) c.in_ok-fill_with.ensures.durable
    (λ bytes. store_or_no_store c.args.version c.args.area (bodies_of c.args.image.blocks.items) _
    bytes room
    c.in_ok-fill_with.ensures.filled) c.write_and_sync-2.ensures.any_moment

pub returns-clause-durable : goal.returns-clause-durable
returns-clause-durable g c = search rules
