use Rattle.std.proofs.lemmas.Result.{IfOk-weaker}
use Rattle.catalog.proofs.Whole.{belongs_shelf, reply_shelf, answers_whole}
use Rattle.catalog.proofs.catalog.CatalogBoosted.look.Goals as goal

pub look-requires-clause-place : goal.look-requires-clause-place
look-requires-clause-place c = belongs_shelf c.self.inside.names c.self.inside.shelves
    c.self.invariant c.args.self.now c.self.view_is c.args.at c.of.result.now c.of.ensures
    c.args.call.now c.requires.place

pub look-requires-clause-reply : goal.look-requires-clause-reply
look-requires-clause-reply c = reply_shelf c.self.inside.names c.self.inside.shelves
    c.self.invariant c.args.self.now c.self.view_is c.args.at c.of.result.now c.of.ensures
    c.args.call.now c.requires.reply

pub returns-clause-ok : goal.returns-clause-ok
returns-clause-ok c = IfOk-weaker c.look.result _ _
    (answers_whole c.self.inside.names c.self.inside.shelves c.self.invariant c.args.self.now
    c.self.view_is c.args.at c.of.result.now c.of.ensures c.args.call.now)
    c.look.ensures.ok
