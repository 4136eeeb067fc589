use Rattle.std.proofs.Common.{◌≡◌, [], List, sym, ap, subst, ◌∙◌}
use Rattle.calls.specs.Contents.{Collection}
use Rattle.disk_model.specs.Disk.{ReadsOnly}
use Rattle.checkpoint.specs.Keepers.{KeeperState}
use Rattle.gate_block.specs.Area.{bytes_of}
use Rattle.txn.specs.Books.{BookState}
use Rattle.recovery.specs.Openings.{IsOpened, IsReadyStore, KeepsContent}
use Rattle.recovery.proofs.opening.open.Goals as goal

pub returns-in-Ok-clause-content : goal.returns-in-Ok-clause-content
returns-in-Ok-clause-content g c = λ content stands true_read.
    let disk = ap (λ (k : KeeperState g.row.D.Denot). k.disk) c.new.ensures in
    ap (λ (b : BookState (List Collection)). b.state.now) c.book_of.ensures ∙
    c.in-Ok.ensures.content content stands (subst g.D.Disk.is_honest disk true_read)

pub returns-in-Ok-clause-kept : goal.returns-in-Ok-clause-kept
returns-in-Ok-clause-kept g c = λ true_read.
    let disk = ap (λ (k : KeeperState g.row.D.Denot). k.disk) c.new.ensures in
    subst (KeepsContent g.D.Disk.seen g.D.Disk.may_leave g.D.Disk.moment g.D.Disk.left_since
    c.args.disk) (sym disk) (c.in-Ok.ensures.kept (subst g.D.Disk.is_honest disk true_read))

pub returns-in-Ok-clause-untouched : goal.returns-in-Ok-clause-untouched
returns-in-Ok-clause-untouched g c =
    subst
    (λ (k : KeeperState g.row.D.Denot). g.D.Disk.is_honest k.disk →
    (o : IsOpened (g.D.Disk.seen c.args.disk) c.book_of.result k.area (g.D.Disk.seen k.disk)) →
    o.undoing ≡ [] → ReadsOnly g.D.Disk.seen g.D.Disk.may_leave g.D.Disk.moment
    g.D.Disk.left_since c.args.disk k.disk)
    (sym c.new.ensures)
    (subst
    (λ (b : BookState (List Collection)). g.D.Disk.is_honest c.recover.new.disk →
    (o : IsOpened (g.D.Disk.seen c.args.disk) b c.in-Ok.field-0.area
    (g.D.Disk.seen c.recover.new.disk)) → o.undoing ≡ [] →
    ReadsOnly g.D.Disk.seen g.D.Disk.may_leave g.D.Disk.moment g.D.Disk.left_since c.args.disk
    c.recover.new.disk)
    (sym c.book_of.ensures) c.in-Ok.ensures.untouched)

pub new-requires : goal.new-requires
new-requires g c = record { fine = c.in-Ok.ensures.area.0; one = c.in-Ok.ensures.area.1 }

pub returns-in-Ok-clause-opened : goal.returns-in-Ok-clause-opened
returns-in-Ok-clause-opened g c =
    subst
    (λ (k : KeeperState g.row.D.Denot). g.D.Disk.is_honest k.disk →
    IsOpened (g.D.Disk.seen c.args.disk) c.book_of.result k.area (g.D.Disk.seen k.disk))
    (sym c.new.ensures)
    (subst
    (λ (b : BookState (List Collection)). g.D.Disk.is_honest c.recover.new.disk →
    IsOpened (g.D.Disk.seen c.args.disk) b c.in-Ok.field-0.area (g.D.Disk.seen c.recover.new.disk))
    (sym c.book_of.ensures) c.in-Ok.ensures.opened)

pub returns-in-Ok-clause-ready : goal.returns-in-Ok-clause-ready
returns-in-Ok-clause-ready g c = λ true_read before.
    let disk = ap (λ (k : KeeperState g.row.D.Denot). k.disk) c.new.ensures in
    let rests = c.in-Ok.ensures.durable (subst g.D.Disk.is_honest disk true_read) before in
    subst
    (λ (k : KeeperState g.row.D.Denot). IsReadyStore g.D.Disk.seen g.D.Disk.may_leave
    (g.D.Disk.seen c.args.disk) c.book_of.result k.area k.disk)
    (sym c.new.ensures) (record {
      at_rest = rests;
      ready = λ o. record {
        holds = o.row_is;
        offset = o.offset;
        at_rest = λ bytes left. ap (bytes_of c.in-Ok.field-0.area) (rests bytes left);
      };
    })
