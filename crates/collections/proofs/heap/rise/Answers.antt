use Rattle.std.proofs.Common.{◌-◌, ◌/◌, get_or, sym, ◌∙◌}
use Rattle.std.proofs.Common.{ap, arith}
use Rattle.std.proofs.lemmas.List.Sorted.{IsPermutation-trans}
use Rattle.collections.specs.Holders.{live}
use Rattle.collections.proofs.Sifts.{rises, up_to, between}
use Rattle.collections.proofs.heap.rise.Goals as goal

pub loop-at-preserved : goal.loop-at-preserved
loop-at-preserved c =
    let swapped = c.swap.ensures in
    let before = c.loop-at.invariant in
    let above = (c.loop-at.at - 1) / 2 in
    record {
      within = omega arith;
      long = omega arith;
      same = IsPermutation-trans _ _ _ before.same swapped.permutation;
      rises = rises c.loop-at.holders c.swap.new.self c.loop-at.at above (omega arith)
          (omega arith) (omega arith) (omega arith) swapped.by_index
          (between c.loop-at.holders c.loop-at.at above (live 0 0) (omega arith) (omega arith)
          (up_to (get_or c.loop-at.holders c.loop-at.at (live 0 0))
          (get_or c.loop-at.holders above (live 0 0))
          (sym c.is_before.ensures ∙ c.if-not-is_before.false)))
          before.rises;
      live = λ d l. ap (λ h. h.marked) (swapped.by_index.1 d) ∙ before.live d before.within;
      root = λ root l d some. ap (λ h. h.marked)
          (swapped.by_index.2 0 d (omega arith) (omega arith))
          ∙ before.root root (omega arith) d (omega arith);
    }
