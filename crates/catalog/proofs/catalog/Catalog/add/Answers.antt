use Rattle.std.proofs.Common.{subst, sym}
use Rattle.catalog.specs.Holdings.{content_of}
use Rattle.catalog.specs.Making.{IsNew}
use Rattle.catalog.proofs.Whole.{names_seen, turned, put_end, put_fits}
use Rattle.catalog.proofs.catalog.Catalog.add.Goals as goal

pub put-requires : goal.put-requires
put-requires c = subst (λ l. IsNew l c.args.name.now)
    (sym (names_seen c.self.inside.names c.self.inside.shelves c.self.invariant c.args.self.now
    c.self.view_is)) c.requires

pub invariant_of-self : goal.invariant_of-self
invariant_of-self c = put_fits c.self.inside.names c.self.inside.shelves c.self.invariant
    c.args.self.now c.self.view_is _ (turned c.self.inside.names c.count.result c.count.ensures.len)
    c.of_mut.result.now c.put.new.self c.of_mut.ensures.value c.args.name.now
    (content_of c.args.holding) c.put.new.names c.put.result c.put.ensures.names
    c.put.ensures.held c.put.ensures.names_as_before c.put.ensures.as_before

pub returns-clause-ok : goal.returns-clause-ok
returns-clause-ok c = put_end c.self.inside.names c.self.inside.shelves c.self.invariant
    c.args.self.now c.self.view_is _ (turned c.self.inside.names c.count.result c.count.ensures.len)
    c.of_mut.result.now c.put.new.self c.of_mut.ensures.value c.args.name.now
    (content_of c.args.holding) c.put.new.names c.put.result c.put.ensures.names
    c.put.ensures.held
