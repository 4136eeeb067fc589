use Rattle.std.proofs.Common.{subst}
use Rattle.std.specs.Prelude.{OnOk, IfErr}
use Rattle.catalog.specs.Making.{IsNew, NewRefused}
use Rattle.catalog.proofs.Whole.{names_seen}
use Rattle.catalog.proofs.catalog.CatalogParts.check_new.Goals as goal

pub returns-clause-ok : goal.returns-clause-ok
returns-clause-ok c = subst (λ l. OnOk c.check_new.result (IsNew l c.args.name.now))
    (names_seen c.self.inside.names c.self.inside.shelves c.self.invariant c.args.self.now
    c.self.view_is) c.check_new.ensures.ok

pub returns-clause-err : goal.returns-clause-err
returns-clause-err c = subst (λ l. IfErr c.check_new.result (NewRefused l c.args.name.now))
    (names_seen c.self.inside.names c.self.inside.shelves c.self.invariant c.args.self.now
    c.self.view_is) c.check_new.ensures.err
