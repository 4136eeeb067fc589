use Rattle.std.specs.Prelude.{string_bytes}
use Rattle.std.proofs.lemmas.Result.{IfOk-weaker, IfErr-weaker}
use Rattle.catalog.specs.Holdings.{Shows}
use Rattle.catalog.proofs.Places.{at_get}
use Rattle.catalog.proofs.Whole.{collected, held_whole, refused_whole, none_whole}
use Rattle.catalog.proofs.catalog.Catalog.show.Goals as goal

pub returns-in-Some-clause-ok : goal.returns-in-Some-clause-ok
returns-in-Some-clause-ok c = IfOk-weaker c.shown.result _ _
    (λ shown h. at_get (λ x. Shows x shown) (collected (string_bytes c.in-Some.name.now) h.0)
    c.args.self.now c.args.at
    (held_whole c.self.inside.names c.self.inside.shelves c.self.invariant c.args.self.now
    c.self.view_is c.args.at c.of.result.now c.of.ensures (string_bytes c.in-Some.name.now) h.0
    c.in-Some.ensures.there h.1) h.2)
    c.shown.ensures.ok

pub returns-in-Some-clause-err : goal.returns-in-Some-clause-err
returns-in-Some-clause-err c = IfErr-weaker c.shown.result _ _
    (refused_whole c.self.inside.names c.self.inside.shelves c.self.invariant c.args.self.now
    c.self.view_is c.args.at c.of.result.now c.of.ensures (string_bytes c.in-Some.name.now)
    c.in-Some.ensures.there) c.shown.ensures.err

pub returns-in-None-clause-err : goal.returns-in-None-clause-err
returns-in-None-clause-err c = none_whole c.self.inside.names c.self.inside.shelves
    c.self.invariant c.args.self.now c.self.view_is c.args.at
    c.in-None.ensures.there
