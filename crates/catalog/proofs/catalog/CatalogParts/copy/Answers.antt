use Rattle.std.specs.Prelude.{string_bytes}
use Rattle.std.proofs.lemmas.Result.{IfErr-weaker}
use Rattle.catalog.proofs.Whole.{copied_whole, refused_whole, none_whole}
use Rattle.catalog.proofs.catalog.CatalogParts.copy.Goals as goal

pub returns-in-Some-clause-ok : goal.returns-in-Some-clause-ok
returns-in-Some-clause-ok c = copied_whole c.self.inside.names c.self.inside.shelves
    c.self.invariant c.args.self.now c.self.view_is c.args.at c.of.result.now c.of.ensures
    (string_bytes c.in-Some.name.now) c.in-Some.ensures.there c.copy.result c.copy.ensures.ok
    c.copy.ensures.name

pub returns-in-Some-clause-err : goal.returns-in-Some-clause-err
returns-in-Some-clause-err c = IfErr-weaker c.copy.result _ _
    (refused_whole c.self.inside.names c.self.inside.shelves c.self.invariant c.args.self.now
    c.self.view_is c.args.at c.of.result.now c.of.ensures (string_bytes c.in-Some.name.now)
    c.in-Some.ensures.there) c.copy.ensures.err

pub returns-in-None-clause-err : goal.returns-in-None-clause-err
returns-in-None-clause-err c = none_whole c.self.inside.names c.self.inside.shelves
    c.self.invariant c.args.self.now c.self.view_is c.args.at
    c.in-None.ensures.there
