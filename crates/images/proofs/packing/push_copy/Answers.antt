use Rattle.std.proofs.lemmas.Result.{on_ok_weaker}
use Rattle.records.specs.Packings.{joined}
use Rattle.records.specs.Images.{TellsOf}
use Rattle.images.specs.Images.{AreOf}
use Rattle.images.proofs.ImageRecords.{can_show, tells_of, writes_as}
use Rattle.images.proofs.packing.push_copy.Goals as goal

pub push_shown-requires-clause-items : goal.push_shown-requires-clause-items
push_shown-requires-clause-items g c =
    (can_show (g.P.Part.collection c.args.part.now) c.in_ok-shown.field-0
    c.in_ok-shown.ensures.ok c.requires).1

pub returns-clause-told : goal.returns-clause-told
returns-clause-told g c =
    let x = g.P.Part.collection c.args.part.now in
    let shown = c.in_ok-shown.field-0 in
    on_ok_weaker c.push_shown.result
    (λ writes. writes_as (AreOf shown) (TellsOf x) (joined c.args.packer.now)
    (joined c.push_shown.new.packer) writes
    (λ rs is. tells_of x shown rs c.in_ok-shown.ensures.ok is))
    c.push_shown.ensures.told
