use Rattle.std.proofs.Common.{List, refl, sym, ap, subst, ◌∙◌}
use Rattle.calls.specs.Contents.{Collection}
use Rattle.replay.specs.Loading.{LoadRow}
use Rattle.replay.specs.Steps.{State}
use Rattle.replay.proofs.ReadLemmas.{load_true, load_false}
use Rattle.replay.proofs.reading.load.Goals as goal
use Rattle.catalog.specs.Meaning.{catalog_meaning, catalog_making}

pub returns-in-Ok-false-clause-err : goal.returns-in-Ok-false-clause-err
returns-in-Ok-false-clause-err c = (
  refl,
  λ t closes.
      load_false (LoadRow (λ (v : List Collection). v) catalog_meaning catalog_making c.args.loader
      c.as_str.result.now c.args.told.kind c.args.told.items.items) c.args.loader
      c.load-loaded.new.self c.in-Ok-false.field-0 c.in-Ok-false.field-0-test
      c.in-Ok-false.ensures t
      (subst (λ name. LoadRow (λ v. v) catalog_meaning catalog_making c.args.loader name
      c.args.told.kind c.args.told.items.items t) (sym c.as_str.ensures) closes),
)

pub returns-in-Ok-true-clause-ok : goal.returns-in-Ok-true-clause-ok
returns-in-Ok-true-clause-ok c =
    subst (λ name. LoadRow (λ v. v) catalog_meaning catalog_making c.args.loader name
    c.args.told.kind c.args.told.items.items c.load-loaded.new.self) c.as_str.ensures
    (load_true (LoadRow (λ (v : List Collection). v) catalog_meaning catalog_making c.args.loader
    c.as_str.result.now c.args.told.kind c.args.told.items.items) c.args.loader
    c.load-loaded.new.self c.in-Ok-true.field-0 c.in-Ok-true.field-0-test c.in-Ok-true.ensures)

pub returns-in-Ok-true-clause-quiet : goal.returns-in-Ok-true-clause-quiet
returns-in-Ok-true-clause-quiet c =
    let row = load_true (LoadRow (λ (v : List Collection). v) catalog_meaning catalog_making
    c.args.loader c.as_str.result.now c.args.told.kind c.args.told.items.items) c.args.loader
    c.load-loaded.new.self c.in-Ok-true.field-0 c.in-Ok-true.field-0-test
    c.in-Ok-true.ensures in
    ap (λ (v : State). v.live) row.is ∙ c.requires.quiet
