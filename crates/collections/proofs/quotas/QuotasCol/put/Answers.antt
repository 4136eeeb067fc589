use Rattle.std.proofs.Common.{◌≡◌, ◌^◌, sym, ◌∙◌, ap, subst, arith}
use Rattle.calls.specs.Quotas.{level, with_level, AreBelow}
use Rattle.collections.proofs.Tables.{table_of}
use Rattle.collections.proofs.Amounts.{put_below, put_none, put_some, nothing_there}
use Rattle.collections.proofs.quotas.QuotasCol.put.Goals as goal

-- what is left where nothing is put, and where something is
none_put : (c : goal.After-remove) → table_of c.remove.new.self ≡
    with_level (table_of c.self.inside.less_one) c.args.key c.args.amount
none_put c = put_none c.self.inside.less_one c.remove.new.self c.args.key c.args.amount
    c.if-amount-eq0.true c.remove.ensures.updates

some_put : (c : goal.In_ok-insert) → table_of c.insert.new.self ≡
    with_level (table_of c.self.inside.less_one) c.args.key c.args.amount
some_put c = put_some c.self.inside.less_one c.insert.new.self c.args.key c.args.amount
    c.if-amount-eq0.false c.in_ok-insert.ensures.updates

pub invariant_of-self : goal.invariant_of-self
invariant_of-self c = subst (AreBelow (2 ^ 127)) (sym (none_put c))
    (put_below (2 ^ 127) (table_of c.self.inside.less_one) c.args.key c.args.amount
    c.self.invariant c.requires)

pub invariant_of-self-in_ok-insert : goal.invariant_of-self-in_ok-insert
invariant_of-self-in_ok-insert c = subst (AreBelow (2 ^ 127)) (sym (some_put c))
    (put_below (2 ^ 127) (table_of c.self.inside.less_one) c.args.key c.args.amount
    c.self.invariant c.requires)

pub returns-in_err-insert-clause-no_memory : goal.returns-in_err-insert-clause-no_memory
returns-in_err-insert-clause-no_memory c few =
    let none = nothing_there c.self.inside.less_one c.args.key c.in_err-insert.ensures.absent in
    let same = ap (λ q. level q c.args.key) c.self.view_is in
    absurd (c.if-amount-eq0.false (omega (arith, few, none, same)))

pub returns-then-amount-eq0-clause-ok : goal.returns-then-amount-eq0-clause-ok
returns-then-amount-eq0-clause-ok c =
    none_put c ∙ ap (λ q. with_level q c.args.key c.args.amount) c.self.view_is

pub returns-in_ok-insert-clause-ok : goal.returns-in_ok-insert-clause-ok
returns-in_ok-insert-clause-ok c =
    some_put c ∙ ap (λ q. with_level q c.args.key c.args.amount) c.self.view_is
