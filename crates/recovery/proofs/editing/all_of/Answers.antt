use Rattle.std.proofs.Common.{◌≡◌, ◌+◌, sym, arith, subst, refl, rules}
use Rattle.std.specs.Prelude.{string_bytes}
use Rattle.std.specs.List.{AllByRecursion}
use Rattle.calls.specs.Names.{IsName}
use Rattle.recovery.specs.declared.editing.Kept.{Kept}
use Rattle.recovery.specs.Kept.{kept_names}
use Rattle.recovery.proofs.EditLemmas.{KeepsFirst, first_more, first_all, good_more, distinct_all}
use Rattle.recovery.proofs.editing.all_of.Goals as goal

pub loop-at-preserved : goal.loop-at-preserved
loop-at-preserved c =
    let kept = c.loop-at.kept.items in
    let one : Kept = record { at = c.loop-at.at; name = c.new-name.result } in
    let is : c.new-name.result ≡ string_bytes c.in-Some.name.now = search rules in (
      subst (λ l. KeepsFirst c.args.names.now l (c.loop-at.at + 1))
          (sym c.in_ok-push.ensures.items)
          (first_more c.args.names.now kept one c.loop-at.at
          (string_bytes c.in-Some.name.now) c.loop-at.invariant.0 c.in-Some.ensures.there refl
          is),
      subst (λ l. AllByRecursion IsName (kept_names l)) (sym c.in_ok-push.ensures.items)
          (good_more kept one c.loop-at.invariant.1 (subst IsName (sym is) c.in-Some.ensures.good)),
    )

pub returns-clause-all : goal.returns-clause-all
returns-clause-all c = first_all c.args.names.now c.loop-at.kept.items c.loop-at.at
    c.loop-at.invariant.0 (omega (arith, c.loop-at-test.false, c.count-at-end.ensures.len))

pub returns-clause-distinct : goal.returns-clause-distinct
returns-clause-distinct c = distinct_all c.args.names.now c.loop-at.kept.items c.loop-at.at
    c.loop-at.invariant.0 (omega (arith, c.loop-at-test.false, c.count-at-end.ensures.len))
    c.count-at-end.ensures.distinct
