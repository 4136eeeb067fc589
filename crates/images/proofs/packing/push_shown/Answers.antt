use Rattle.std.proofs.lemmas.Result.{on_ok_weaker}
use Rattle.records.specs.Packings.{joined}
use Rattle.images.proofs.ImageRecords.{each_short, shown_writes}
use Rattle.images.proofs.packing.push_shown.Goals as goal

pub push_items-requires : goal.push_items-requires
push_items-requires c = each_short c.args.shown.kind c.args.shown.items.items c.requires.items

pub returns-in-Ok-clause-told : goal.returns-in-Ok-clause-told
returns-in-Ok-clause-told c =
    on_ok_weaker c.push_items.result
    (λ told. shown_writes c.args.shown (joined c.args.packer.now) (joined c.push.new.self)
    (joined c.push_items.new.packer) c.requires.name c.requires.items told.1
    c.in-Ok.ensures.written told.0)
    c.push_items.ensures.told
