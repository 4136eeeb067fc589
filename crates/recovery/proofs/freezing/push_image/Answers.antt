use Rattle.std.proofs.Common.{◌++◌, ◌∷◌, [], None, ◌∙◌, ap, subst}
use Rattle.std.proofs.lemmas.Result.{on_ok_weaker}
use Rattle.records.specs.declared.record.Record.{Record}
use Rattle.records.specs.Images.{TellOf}
use Rattle.records.specs.Packings.{joined, Writes}
use Rattle.images.proofs.ImageRecords.{each_fits, whole_writes}
use Rattle.recovery.proofs.freezing.push_image.Goals as goal

pub push_records-requires : goal.push_records-requires
push_records-requires g c = each_fits None c.args.live.now (c.requires.good None)

pub returns-clause-told : goal.returns-clause-told
returns-clause-told g c =
    let s = c.args.machine.now in
    let a = c.args.packer.now in
    let marks = c.in_ok-push.ensures.written ∙
    ap (λ f. joined a ++ Record.Marks f c.args.next c.wear.result ∷ []) c.format.ensures ∙
    ap (λ w. joined a ++ Record.Marks s.format c.args.next w ∷ []) c.wear.ensures in
    let told = subst (λ v. Writes (joined c.push.new.self) (joined c.push_collections.new.packer)
    (TellOf (g.B.Parts.collections v))) c.parts.ensures c.in_ok-push_collections.ensures.told in
    on_ok_weaker c.push-2.result
    (λ end. whole_writes s.format c.args.next s.wear (g.B.Parts.collections s.now) c.args.live.now
    (joined a)
    (joined c.push.new.self) (joined c.push_collections.new.packer)
    (joined c.push_records.new.packer) (joined c.push-2.new.self) c.requires marks told
    c.in_ok-push_records.ensures.told end)
    c.push-2.ensures.written
