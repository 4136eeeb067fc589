use Rattle.std.proofs.Common.{subst, ap, ◌∙◌}
use Rattle.std.specs.Slice.{IsItemAt}
use Rattle.catalog.specs.Laws.Numbers.{remainder_of, which_is}
use Rattle.catalog.specs.Woven.{ShelfContent, IsAbsent}
use Rattle.catalog.proofs.Places.{got}
use Rattle.catalog.proofs.shelf.CatalogShelf.holding.Goals as goal

pub returns-then-at-self : goal.returns-then-at-self
returns-then-at-self c = subst (λ s. IsAbsent s c.args.at) c.self.view_is
    (λ here. absurd (c.if-at-self.true
    (remainder_of c.args.at c.self.inside.index c.self.invariant here)))

pub returns : goal.returns
returns c = got c.self.inside.index c.self.inside.holdings.items c.args.self.now c.self.view_is
    c.args.at c.from.result c.from.ensures c.get.result
    (subst (λ l. IsItemAt l c.from.result c.get.result) c.deref.ensures.value c.get.ensures.lookup)
    (which_is c.args.at c.self.inside.index c.if-at-self.false ∙
    ap (λ (s : ShelfContent). s.index) c.self.view_is)
