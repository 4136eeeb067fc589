use Rattle.std.proofs.Common.{subst, ◌∙◌}
use Rattle.std.specs.Prelude.{IfErr}
use Rattle.catalog.specs.Making.{MakeRefused}
use Rattle.catalog.proofs.Whole.{names_seen, turned, placed_at, made_end, made_fits}
use Rattle.catalog.proofs.catalog.CatalogParts.make.Goals as goal

pub make_on-requires : goal.make_on-requires
make_on-requires c = placed_at c.self.inside.names c.self.inside.shelves c.self.invariant _
    c.of_mut.result.now c.of_mut.ensures.value ∙
    turned c.self.inside.names c.count.result c.count.ensures.len

pub invariant_of-self : goal.invariant_of-self
invariant_of-self c = made_fits c.self.inside.names c.self.inside.shelves c.self.invariant
    c.args.self.now c.self.view_is _ (turned c.self.inside.names c.count.result c.count.ensures.len)
    c.of_mut.result.now c.make_on.new.shelf c.of_mut.ensures.value c.args.name.now c.args.kind
    c.make_on.new.names c.make_on.result c.make_on.ensures.makes c.make_on.ensures.names_as_before
    c.make_on.ensures.as_before

pub returns-clause-ok : goal.returns-clause-ok
returns-clause-ok c = made_end c.self.inside.names c.self.inside.shelves c.self.invariant
    c.args.self.now c.self.view_is _ (turned c.self.inside.names c.count.result c.count.ensures.len)
    c.of_mut.result.now c.make_on.new.shelf c.of_mut.ensures.value c.args.name.now c.args.kind
    c.make_on.new.names c.make_on.result c.make_on.ensures.makes c.make_on.ensures.ok

pub returns-clause-err : goal.returns-clause-err
returns-clause-err c = subst (λ l. IfErr c.make_on.result (MakeRefused l c.args.name.now))
    (names_seen c.self.inside.names c.self.inside.shelves c.self.invariant c.args.self.now
    c.self.view_is) c.make_on.ensures.err
