use Rattle.std.proofs.Common.{◌≡◌, ◌∙◌, sym, ap, subst, get_or}
use Rattle.calls.specs.Bags.{take_out}
use Rattle.calls.specs.Queues.{IsLeast, IsEmpty}
use Rattle.calls.proofs.QueueLaws.{add_take_out}
use Rattle.collections.specs.Holders.{bag_of, pair_of, live}
use Rattle.collections.proofs.Holders.{not_empty, live_out, root_is_least, copy_at, one_least}
use Rattle.collections.proofs.queue.QueueCol.take.Goals as goal

pub remove_root-requires-clause-some : goal.remove_root-requires-clause-some
remove_root-requires-clause-some c =
    not_empty c.self.inside.holders.items (λ e. c.requires (subst IsEmpty c.self.view_is e))

pub sift-self-inside-requires-clause-marks : goal.sift-self-inside-requires-clause-marks
sift-self-inside-requires-clause-marks c = c.self.invariant.marks ∙
    (live_out c.self.inside.holders.items c.remove_root.new.holders.items (live 0 0)
    c.remove_root.ensures.others c.self.invariant.root).1

pub returns : goal.returns
returns c p g least =
    let hs = c.self.inside.holders.items in
    let ks = c.remove_root.new.holders.items in
    let root = get_or hs 0 (live 0 0) in
    let out = live_out hs ks (live 0 0) c.remove_root.ensures.others c.self.invariant.root in
    let some = not_empty hs (λ e. c.requires (subst IsEmpty c.self.view_is e)) in
    let same : pair_of root ≡ (p, g) = one_least (bag_of hs) root.priority root.tag p g
    (root_is_least hs root.priority root.tag c.self.invariant.heap
    (copy_at hs 0 (live 0 0) some c.self.invariant.root))
    (subst (λ b. IsLeast b p g) (sym c.self.view_is) least) in
    c.sift-self-inside.ensures.bag ∙ add_take_out (bag_of ks) (pair_of root) ∙
    (λ i. take_out (sym out.0 i) (same i)) ∙ ap (λ b. take_out b (p, g)) c.self.view_is
