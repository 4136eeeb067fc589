use Rattle.std.proofs.lemmas.Grind.{common_steps}
use Rattle.std.proofs.Common.{◌≡◌, ◌<◌, [], length, arith, ap, ◌∙◌, subst, rules}
use Rattle.records.specs.Acts.{places}
use Rattle.records.specs.Offers.{IsOffered}
use Rattle.records.specs.Waits.{waiting}
use Rattle.records.proofs.PendingLemmas.{first_places, first_over, last_over, none_long, some_told}
use Rattle.records.proofs.PendingLemmas.{first_long, waits_again}
use Rattle.records.proofs.pending.Pending.cut.Goals as goal

pub offer-requires-clause-place : goal.offer-requires-clause-place
offer-requires-clause-place g c =
    let seen = c.self.view_is in
    omega (
      arith,
      c.requires.place,
      ap (λ w. places (waiting w)) seen,
      ap (λ w. w.handed.place) seen,
      first_places c.self.inside.full.items
          c.pop_front.new.self.items c.in-Some.first c.self.inside.last.records
          c.in-Some.ensures.items,
    )

pub returns-in-Some : goal.returns-in-Some
returns-in-Some g c = rw (← c.self.view_is)
    (first_over _ c.in-Some.first _ c.self.inside.count _
    (λ bs. g.O.Outbox.sends c.args.out.now bs c.offer.new.out) c.self.invariant
    c.in-Some.ensures.items c.in_default-offer.ensures.handed)

pub returns : goal.returns
returns g c =
    let last = c.self.inside.last in
    let after = c.pop_front.new.self.items in
    let same : c.replace-last.result.records ≡ last.records =
    ap (λ d. d.records) c.replace-last.ensures.value in
    let left : after ≡ [] = none_long after
    (omega (arith, c.in_default.ensures.cases.1, c.pop_front.new.self.ok.0)) in
    let none : c.self.inside.full.items ≡ [] = c.in_default.ensures.items ∙ left in
    let empty : c.replace-last.new.dest.records ≡ [] =
    ap (λ d. d.records) c.replace-last.ensures.after ∙ c.new.ensures in
    let some : 0 < length last.records =
    some_told last.records c.is_empty.result c.is_empty.ensures c.if-is_empty.false in
    rw (← c.self.view_is)
    (last_over (record {
      full = c.self.inside.full.items;
      last = last;
      spare = c.self.inside.spare;
      most = 0;
      handed = c.self.inside.handed;
    }) _ (λ bs. g.O.Outbox.sends c.args.out.now bs c.offer-2.new.out) after
    c.replace-last.new.dest none some
    left empty
    (subst (λ rs. IsOffered rs c.self.inside.handed c.offer-2.new.handed
    (λ bs. g.O.Outbox.sends c.args.out.now bs c.offer-2.new.out)) same
    c.in_default-offer-2.ensures.handed))

pub offer-requires-clause-some : goal.offer-requires-clause-some
offer-requires-clause-some g c = search rules

pub offer-requires-clause-short : goal.offer-requires-clause-short
offer-requires-clause-short g c = search rules

pub invariant_of-self : goal.invariant_of-self
invariant_of-self g c = search rules

pub returns-in-Err : goal.returns-in-Err
returns-in-Err g c = grind (arith, common_steps)

pub invariant_of-self-in-Some : goal.invariant_of-self-in-Some
invariant_of-self-in-Some g c = grind (arith, common_steps)

pub offer-requires-clause-end : goal.offer-requires-clause-end
offer-requires-clause-end g c =
    let seen = c.self.view_is in
    omega (
      arith,
      c.requires.end,
      ap (λ w. length (waiting w)) seen,
      ap (λ w. w.handed.end) seen,
      first_long c.self.inside.full.items c.pop_front.new.self.items c.in-Some.first
          c.self.inside.last.records c.in-Some.ensures.items,
    )

pub overflow_sub-self : goal.overflow_sub-self
overflow_sub-self g c =
    omega (
      arith,
      c.count-count.ensures,
      c.self.invariant.counted,
      first_long c.self.inside.full.items c.pop_front.new.self.items c.in-Some.first
          c.self.inside.last.records c.in-Some.ensures.items,
    )

pub offer-requires-2-clause-some : goal.offer-requires-2-clause-some
offer-requires-2-clause-some g c =
    rw c.replace-last.ensures.value
    (some_told c.self.inside.last.records c.is_empty.result c.is_empty.ensures
    c.if-is_empty.false)

pub returns-in-Err-offer : goal.returns-in-Err-offer
returns-in-Err-offer g c =
    let last = c.self.inside.last in
    let some : 0 < length last.records =
    some_told last.records c.is_empty.result c.is_empty.ensures c.if-is_empty.false in
    let again = waits_again _ _ _ _ _ _ c.in_default.ensures.items
    (c.in-Err-offer.ensures.back ∙ ap (λ d. d.records) c.replace-last.ensures.value)
    c.in-Err-offer.ensures.same some in
    rw (← c.self.view_is) (
      c.in-Err-offer.ensures.full,
      c.in-Err-offer.ensures.none,
      again.0,
      again.1,
      again.2,
      again.3,
      again.4,
    )
