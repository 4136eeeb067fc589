use Rattle.std.proofs.Common.{◌∙◌, Less, Equal, Greater, sym}
use Rattle.abstract_locks.proofs.Ordering.{by_low}
use Rattle.abstract_locks.proofs.segment.compare.Goals as goal

pub returns-in-Less : goal.returns-in-Less
returns-in-Less c = by_low c.args.one.now c.args.other.now Less (sym c.cmp.ensures ∙ c.in-Less.is)

pub returns-in-Equal : goal.returns-in-Equal
returns-in-Equal c =
    c.compare_rest.ensures ∙
    by_low c.args.one.now c.args.other.now Equal (sym c.cmp.ensures ∙ c.in-Equal.is)

pub returns-in-Greater : goal.returns-in-Greater
returns-in-Greater c =
    by_low c.args.one.now c.args.other.now Greater (sym c.cmp.ensures ∙ c.in-Greater.is)
