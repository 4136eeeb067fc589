use Rattle.std.proofs.Common.{subst}
use Rattle.std.specs.Prelude.{IfOk, IfErr}
use Rattle.calls.specs.Names.{IsName}
use Rattle.catalog.specs.Making.{IsPlaceOf, FindRefused}
use Rattle.catalog.proofs.Whole.{names_seen}
use Rattle.catalog.proofs.catalog.CatalogParts.find.Goals as goal

pub returns-clause-ok : goal.returns-clause-ok
returns-clause-ok c =
    subst (λ l. IfOk c.find.result (λ at. IsName c.args.name.now × IsPlaceOf l c.args.name.now at))
    (names_seen c.self.inside.names c.self.inside.shelves c.self.invariant c.args.self.now
    c.self.view_is) c.find.ensures.ok

pub returns-clause-err : goal.returns-clause-err
returns-clause-err c = subst (λ l. IfErr c.find.result (FindRefused l c.args.name.now))
    (names_seen c.self.inside.names c.self.inside.shelves c.self.invariant c.args.self.now
    c.self.view_is) c.find.ensures.err
