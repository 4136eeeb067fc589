use Rattle.std.proofs.Common.{None, subst, sym, ◌∙◌, ap, ◌++◌}
use Rattle.std.specs.List.{AllByRecursion}
use Rattle.std.proofs.lemmas.Result.{on_ok_weaker}
use Rattle.records.specs.Records.{Fits}
use Rattle.records.specs.Packings.{joined}
use Rattle.images.specs.Gathers.{gathered}
use Rattle.images.specs.Views.{copies_of}
use Rattle.images.proofs.ImageRecords.{each_fits, whole_writes}
use Rattle.images.proofs.packing.push_gathered.Goals as goal

pub push_records-requires : goal.push_records-requires
push_records-requires g c = subst (AllByRecursion Fits) (sym c.deref.ensures.value)
    (each_fits None c.args.frozen.now.live.items (c.requires.can_stand.good None))

pub returns-clause-told : goal.returns-clause-told
returns-clause-told g c =
    let f = c.args.frozen.now in
    on_ok_weaker c.push-2.result
    (λ end. whole_writes f.image_head.format f.image_head.next f.image_head.wear
    (gathered (copies_of g.P.Part.collection c.args.copies.now)) f.live.items
    (joined c.args.packer.now) (joined c.push.new.self) (joined c.push_copies.new.packer)
    (joined c.push_records.new.packer) (joined c.push-2.new.self) c.requires.can_stand
    c.in_ok-push.ensures.written c.in_ok-push_copies.ensures.told
    (c.in_ok-push_records.ensures.told ∙
    ap (λ l. joined c.push_copies.new.packer ++ l) c.deref.ensures.value) end)
    c.push-2.ensures.written
