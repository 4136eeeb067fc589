use Rattle.std.proofs.Common.{sym, ap}
use Rattle.catalog.specs.Fours.{pick}
use Rattle.catalog.specs.Laws.Numbers.{which_is, which_last}
use Rattle.catalog.proofs.four.Four.of.Goals as goal

pub returns-then-number-eq0 : goal.returns-then-number-eq0
returns-then-number-eq0 g c =
    ap (pick c.args.self.now) (sym (which_is c.args.number 0 c.if-number-eq0.true))

pub returns-then-number-eq1 : goal.returns-then-number-eq1
returns-then-number-eq1 g c =
    ap (pick c.args.self.now) (sym (which_is c.args.number 1 c.if-number-eq1.true))

pub returns-then-number-eq2 : goal.returns-then-number-eq2
returns-then-number-eq2 g c =
    ap (pick c.args.self.now) (sym (which_is c.args.number 2 c.if-number-eq2.true))

pub returns : goal.returns
returns g c = ap (pick c.args.self.now)
    (sym (which_last c.args.number c.if-number-eq0.false c.if-number-eq1.false
    c.if-number-eq2.false))
