use Rattle.std.proofs.Common.{◌≡◌, ◌∙◌, ◌++◌, ◌↔◌, IsTrue, length, sym, subst, arith, add-one}
use Rattle.std.proofs.Common.{vec_len}
use Rattle.std.proofs.lemmas.Bool.{eqb-false, eqb-true}
use Rattle.std.specs.List.{Contains}
use Rattle.abstract_locks.specs.Holds.{IsAdded}
use Rattle.abstract_locks.proofs.Splitting.{added_last, added_in_parts}
use Rattle.abstract_locks.proofs.Placing.{first_ordered, first_fresh, segment_split, segment_fresh}
use Rattle.abstract_locks.proofs.needs.add_with.Goals as goal

pub returns-then-is_empty : goal.returns-then-is_empty
returns-then-is_empty c =
    let items = c.args.segments.now.items in
    let new = c.add-fresh.new.self in
    let hold = c.args.hold in
    let count = eqb-true (vec_len c.args.segments.now) 0
    (sym c.is_empty.ensures ∙ c.if-is_empty.true) in
    let none : length items ≡ 0 = omega arith in
    rw c.push_reserved.ensures.items (record {
      held = added_last items new hold
          (subst (λ s. IsAdded s new hold) c.requires.spare c.add-fresh.ensures.held);
      fresh = first_fresh items hold none (subst
          (λ s. IsTrue c.add-fresh.result ↔ (Contains s hold → ⊥)) c.requires.spare
          c.add-fresh.ensures.fresh);
      order = first_ordered items new none c.add-fresh.ensures.order;
    })

pub returns : goal.returns
returns c =
    let items = c.args.segments.now.items in
    let place = c.args.place in
    let hold = c.args.hold in
    let lower = c.split-fresh.new.self in
    let upper = c.split-fresh.new.spare in
    let x = c.index_mut.result.now in
    let none = eqb-false (vec_len c.args.segments.now) 0
    (sym c.is_empty.ensures ∙ c.if-is_empty.false) in
    let lt = (c.requires.full (omega arith)).0 in
    let added = subst (λ s. IsAdded s (lower ++ upper) hold) c.index_mut.ensures.value
    c.split-fresh.ensures.held in
    rw (c.in-Ok.ensures.items, add-one) (record {
      held = added_in_parts items place x lower upper hold lt added;
      fresh = segment_fresh items place hold x lt c.requires.order c.requires.place
          (subst (λ s. IsTrue c.split-fresh.result ↔ (Contains s hold → ⊥))
          c.index_mut.ensures.value c.split-fresh.ensures.fresh);
      order = segment_split items place hold x lt c.requires.order c.requires.place lower upper
          added c.split-fresh.ensures.order c.split-fresh.ensures.filled.0
          c.split-fresh.ensures.filled.1;
    })
