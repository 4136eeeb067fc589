use Rattle.std.proofs.Common.{◌≡◌, ◌<◌, ◌^◌, ◌∷◌, length, sym, ◌∙◌, ap, subst, arith}
use Rattle.std.specs.FinSet as set
use Rattle.std.specs.Ordering.{nat_cmp}
use Rattle.std.specs.List.Sorted.{IsStrictlySortedBy}
use Rattle.collections.proofs.Rising.{is_among, rises-sorted, gap_at, rises_next, among_next}
use Rattle.collections.proofs.pool.PoolCol.first_gap.Goals as goal

pub loop-x-init : goal.loop-x-init
loop-x-init c =
    let gives = c.into_iter-x-iterator.ensures.into_iter_gives in
    let ks = c.into_iter-x-iterator.result in
    record {
      rises = rises-sorted ks (subst (IsStrictlySortedBy nat_cmp) (sym gives.0) gives.4);
      members = λ q l.
          ap (λ s. set.contains s q) (sym c.self.view_is)
          ∙ set.contains-from_list_nat c.self.inside.taken.keys q
          ∙ ap (λ l. is_among l q) (sym gives.0);
      room = let e : length ks ≡ length c.self.inside.taken.keys = ap length gives.0 in
          let l : length c.self.inside.taken.keys < 2 ^ 63 = gives.1 in omega arith;
    }

pub returns-then-x-gap : goal.returns-then-x-gap
returns-then-x-gap c =
    c.loop-x.invariant.members c.loop-x.gap (omega arith)
    ∙ gap_at c.loop-x.x-iterator c.in-Some.x.now c.loop-x.gap c.next.new.self
    c.in-Some.ensures.steps c.loop-x.invariant.rises c.if-x-gap.true

pub overflow_add-gap : goal.overflow_add-gap
overflow_add-gap c = let l = c.loop-x.invariant.room in omega arith

pub loop-x-preserved : goal.loop-x-preserved
loop-x-preserved c =
    let is = c.in-Some.ensures.steps in
    let ks = c.loop-x.x-iterator in
    let rest = c.next.new.self in
    let e : length ks ≡ length (c.in-Some.x.now ∷ rest) = ap length is in
    record {
      rises = rises_next ks c.in-Some.x.now c.loop-x.gap rest is c.loop-x.invariant.rises
          c.if-x-gap.false;
      members = λ q l.
          c.loop-x.invariant.members q (omega arith)
          ∙ among_next ks c.in-Some.x.now c.loop-x.gap rest is c.loop-x.invariant.rises q
          c.if-x-gap.false l;
      room = let l = c.loop-x.invariant.room in omega arith;
    }

pub returns : goal.returns
returns c =
    c.loop-x.invariant.members c.loop-x.gap (omega arith)
    ∙ ap (λ l. is_among l c.loop-x.gap) c.in-None.ensures.steps.0
