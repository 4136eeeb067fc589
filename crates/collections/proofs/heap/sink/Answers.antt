use Rattle.std.proofs.Common.{get_or, sym, ◌∙◌, arith}
use Rattle.std.proofs.lemmas.List.Sorted.{IsPermutation-trans}
use Rattle.collections.specs.Holders.{live}
use Rattle.collections.proofs.Sifts.{sinks, sinks_no_more, up_to, between}
use Rattle.collections.proofs.heap.sink.Goals as goal

pub returns-then-not-is_before-clause-order : goal.returns-then-not-is_before-clause-order
returns-then-not-is_before-clause-order c =
    let child = c.least_child-child in
    sinks_no_more c.loop-at.holders c.loop-at.at child.result
    (between c.loop-at.holders c.loop-at.at child.result (live 0 0) (omega arith) (omega arith)
    (sym c.is_before.ensures ∙ c.if-not-is_before.true))
    child.ensures.least c.loop-at.invariant.sinks

pub loop-at-preserved : goal.loop-at-preserved
loop-at-preserved c =
    let child = c.least_child-child in
    let swapped = c.swap.ensures in
    record {
      long = omega arith;
      same = IsPermutation-trans _ _ _ c.loop-at.invariant.same swapped.permutation;
      sinks = sinks c.loop-at.holders c.swap.new.self child.result c.loop-at.at (omega arith)
          (omega arith) (omega arith) (omega arith) swapped.by_index
          (between c.loop-at.holders child.result c.loop-at.at (live 0 0) (omega arith)
          (omega arith)
          (up_to (get_or c.loop-at.holders child.result (live 0 0))
          (get_or c.loop-at.holders c.loop-at.at (live 0 0))
          (sym c.is_before.ensures ∙ c.if-not-is_before.false)))
          child.ensures.least c.loop-at.invariant.sinks;
    }
