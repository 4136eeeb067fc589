use Rattle.std.proofs.Common.{◌≡◌, ◌+◌, length, subst, ◌∙◌, arith}
use Rattle.collections.specs.Holders.{live, bag_of, marks_of, HasMarkedRoot}
use Rattle.collections.proofs.Holders.{marked_out}
use Rattle.collections.proofs.heap.drop_marked_roots.Goals as goal

-- what the root leaves
left : (c : goal.After-remove_root) →
    (bag_of c.remove_root.new.holders.items ≡ bag_of c.loop-holders.holders.items)
    × (marks_of c.loop-holders.holders.items ≡ marks_of c.remove_root.new.holders.items + 1)
    × (length c.loop-holders.holders.items ≡ length c.remove_root.new.holders.items + 1)
left c = marked_out c.loop-holders.holders.items c.remove_root.new.holders.items (live 0 0)
    c.remove_root.ensures.others
    (subst HasMarkedRoot c.deref.ensures.value c.loop-holders-test.ensures)

pub loop-holders-smaller : goal.loop-holders-smaller
loop-holders-smaller c = let fewer = (left c).2 in omega arith

pub loop-holders-preserved : goal.loop-holders-preserved
loop-holders-preserved c =
    let out = left c in
    let before = c.loop-holders.invariant in
    record {
      order = c.remove_root.ensures.order;
      marks = omega (arith, out.1, before.marks);
      fewer = omega (arith, out.1, out.2, before.marks, before.fewer);
      bag = out.0 ∙ before.bag;
    }

pub overflow_sub-marked : goal.overflow_sub-marked
overflow_sub-marked c =
    let some = (left c).1 in let before = c.loop-holders.invariant.marks in omega arith
