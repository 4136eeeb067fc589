use Rattle.std.proofs.Common.{map, subst, sym, ◌∙◌, ap, arith}
use Rattle.std.proofs.lemmas.List.{length-map}
use Rattle.std.proofs.lemmas.Result.{on_ok_weaker, on_err_weaker}
use Rattle.images.specs.Gathers.{with_effect_at, CanRepeatAt}
use Rattle.images.specs.Views.{copy_of, copies_of}
use Rattle.images.proofs.Repeats.{changed_at, same_at, can_at, none_at}
use Rattle.images.proofs.stamped.repeat.Goals as goal

pub repeat-requires : goal.repeat-requires
repeat-requires g c =
    let copy = copy_of g.P.Part.collection in
    let e = c.args.effect.now in
    can_at copy e c.index-copies-at.result c.args.copies.now c.from-at.result c.if-at-copies.true
    (subst (λ i. CanRepeatAt (map copy c.args.copies.now) i e) (sym c.from-at.ensures) c.requires)

pub returns-then-at-copies-clause-ok : goal.returns-then-at-copies-clause-ok
returns-then-at-copies-clause-ok g c =
    let copy = copy_of g.P.Part.collection in
    let e = c.args.effect.now in
    on_ok_weaker c.repeat.result
    (λ one. changed_at copy e c.index-copies-at.result c.repeat.new.self c.args.copies.now
    c.from-at.result c.if-at-copies.true one ∙
    ap (λ i. with_effect_at (map copy c.args.copies.now) i e) c.from-at.ensures)
    c.repeat.ensures.ok

pub returns-then-at-copies-clause-err : goal.returns-then-at-copies-clause-err
returns-then-at-copies-clause-err g c =
    on_err_weaker c.repeat.result
    (λ one. same_at (copy_of g.P.Part.collection) c.args.effect.now c.index-copies-at.result
    c.repeat.new.self c.args.copies.now c.from-at.result c.if-at-copies.true one)
    c.repeat.ensures.err

pub returns-clause-ok : goal.returns-clause-ok
returns-clause-ok g c =
    let copies = copies_of g.P.Part.collection c.args.copies.now in
    let few = c.if-at-copies.false in
    sym (none_at copies c.args.effect.now.collection c.args.effect.now
    (omega (
      arith,
      few,
      length-map c.args.copies.now (copy_of g.P.Part.collection),
      c.from-at.ensures,
    )))
