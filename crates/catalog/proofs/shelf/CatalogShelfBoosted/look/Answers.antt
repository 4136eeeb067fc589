use Rattle.std.proofs.lemmas.Result.{IfOk-weaker}
use Rattle.calls.specs.Contents.{Answers, kind_of_content}
use Rattle.boosted.specs.Kinds.{IsOf}
use Rattle.catalog.specs.Holdings.{content_of}
use Rattle.catalog.proofs.Places.{of_it, on_it, reply_there, nothing_on}
use Rattle.catalog.proofs.shelf.CatalogShelfBoosted.look.Goals as goal

pub look-requires-clause-kind : goal.look-requires-clause-kind
look-requires-clause-kind c = of_it c.args.self.now c.args.at (content_of c.in-Some.holding.now)
    c.in-Some.ensures (λ x. IsOf (kind_of_content x) c.args.call.now) c.requires.place

pub look-requires-clause-reply : goal.look-requires-clause-reply
look-requires-clause-reply c = reply_there c.args.self.now c.args.at
    (content_of c.in-Some.holding.now) c.in-Some.ensures c.args.call.now c.requires.reply

pub unreachable-requires : goal.unreachable-requires
unreachable-requires c = nothing_on (λ x. IsOf (kind_of_content x) c.args.call.now)
    c.args.self.now c.args.at c.in-None.ensures c.requires.place

pub returns-clause-ok : goal.returns-clause-ok
returns-clause-ok c = IfOk-weaker c.look.result _ _
    (λ r. on_it c.args.self.now c.args.at (content_of c.in-Some.holding.now) c.in-Some.ensures
    (λ x. Answers x c.args.call.now r)) c.look.ensures.ok
