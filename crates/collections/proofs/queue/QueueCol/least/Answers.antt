use Rattle.std.proofs.Common.{sym, ◌∙◌, ap, subst, get_or, arith}
use Rattle.calls.specs.Queues.{IsLeast, IsEmpty}
use Rattle.collections.specs.Holders.{live, bag_of, AreKept}
use Rattle.collections.proofs.Holders.{is_empty, root_is_least, copy_at}
use Rattle.collections.proofs.queue.QueueCol.least.Goals as goal

pub returns-in-empty : goal.returns-in-empty
returns-in-empty c = (
  (tt, tt),
  subst IsEmpty c.self.view_is (is_empty c.self.inside.holders.items (omega arith)),
)

pub returns-in-len1-up : goal.returns-in-len1-up
returns-in-len1-up c =
    let hs = c.as_slice.result.now in
    let is = c.as_slice.ensures.value in
    let root = get_or hs 0 (live 0 0) in
    let held = subst (λ l. AreKept l c.self.inside.marked) (sym is) c.self.invariant in
    let fits = c.pair-priority.type_inv in (
      (tt, (omega arith, omega arith)),
      subst (λ x. IsLeast c.args.self.now x.0 x.1) (sym c.pair-priority.ensures)
          (subst (λ b. IsLeast b root.priority root.tag) (ap bag_of is ∙ c.self.view_is)
          (root_is_least hs root.priority root.tag held.heap
          (copy_at hs 0 (live 0 0) (omega arith) held.root))),
    )
