use Rattle.std.proofs.Common.{◌∙◌, arith}
use Rattle.txn.proofs.UndoCounts.{told_first, told_more, told_last, told_few}
use Rattle.txn.proofs.undoing.count_journalled.Goals as goal

pub loop-number-init : goal.loop-number-init
loop-number-init c = told_first c.args.live.now.live c.requires.numbers c.args.live.now.entries
    c.requires.owned

pub loop-number-preserved : goal.loop-number-preserved
loop-number-preserved c =
    told_more c.args.live.now.live c.loop-number.last c.in-Some.number c.loop-number.count
    c.in-Some.ensures.found c.args.live.now.entries c.requires.owned c.loop-number.invariant
    c.entries_of.result.now c.entries_of.ensures c.count_calls.result c.count_calls.ensures

pub overflow_add-count : goal.overflow_add-count
overflow_add-count c = omega (
  arith,
  c.requires.few,
  told_few c.in-Some.number c.args.live.now.entries,
  told_more c.args.live.now.live c.loop-number.last c.in-Some.number c.loop-number.count
      c.in-Some.ensures.found c.args.live.now.entries c.requires.owned c.loop-number.invariant
      c.entries_of.result.now c.entries_of.ensures c.count_calls.result c.count_calls.ensures,
)

pub returns : goal.returns
returns c =
    let none = c.in_default.ensures.none in
    c.loop-number.invariant ∙ told_last c.args.live.now.live c.loop-number.last none
    c.args.live.now.entries c.requires.owned
