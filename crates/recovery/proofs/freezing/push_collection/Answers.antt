use Rattle.records.specs.Packings.{joined}
use Rattle.images.proofs.ImageRecords.{at_shown, at_writes}
use Rattle.recovery.proofs.freezing.push_collection.Goals as goal

pub push_shown-requires-clause-name : goal.push_shown-requires-clause-name
push_shown-requires-clause-name g c =
    (at_shown (g.B.Parts.collections c.args.parts.now) c.args.at c.in-Ok.shown c.in-Ok.ensures.ok
    c.requires).0

pub push_shown-requires-clause-items : goal.push_shown-requires-clause-items
push_shown-requires-clause-items g c =
    (at_shown (g.B.Parts.collections c.args.parts.now) c.args.at c.in-Ok.shown c.in-Ok.ensures.ok
    c.requires).1

pub returns-in_ok-push_shown-in-Ok-clause-there : goal.returns-in_ok-push_shown-in-Ok-clause-there
returns-in_ok-push_shown-in-Ok-clause-there g c there =
    at_writes (g.B.Parts.collections c.args.parts.now) c.args.at c.in-Ok.shown
    (joined c.args.packer.now)
    (joined c.push_shown.new.packer) c.in-Ok.ensures.ok c.in_ok-push_shown-in-Ok.ensures.told
