use Rattle.std.proofs.Common.{◌≡◌, ◌∙◌, refl}
use Rattle.std.proofs.lemmas.Result.{err_from_is_err_and, on_ok_weaker}
use Rattle.calls.specs.Contents.{Collection}
use Rattle.catalog.specs.declared.shown.Shown.{Shown}
use Rattle.records.specs.Images.{TellsOf}
use Rattle.records.specs.Packings.{joined}
use Rattle.images.specs.Images.{AreOf}
use Rattle.images.proofs.ImageRecords.{at_shown, writes_as}
use Rattle.recovery.proofs.EditLemmas.{show_refused, kept_tells}
use Rattle.recovery.proofs.settling.push_one.Goals as goal

pub returns-in_err-kind-clause-refusal : goal.returns-in_err-kind-clause-refusal
returns-in_err-kind-clause-refusal c =
    let p = err_from_is_err_and c.from_residual-in_err-kind.result
    c.from_residual-in_err-kind.ensures.1 in
    let x = c.requires.kept.0 in
    rw (p.1, p.2)
    (show_refused (λ (y : Collection). y.content ≡ x.content) c.args.collections.now
    c.args.kept.now.at c.in_err-kind.field-0.0 c.requires.kept.1.1 c.in_err-kind.ensures.err)

pub push_shown-requires-clause-items : goal.push_shown-requires-clause-items
push_shown-requires-clause-items c =
    (at_shown c.args.collections.now c.args.kept.now.at c.in_ok-kind.field-0
    c.in_ok-kind.ensures.ok c.requires.short).1

pub returns-clause-told : goal.returns-clause-told
returns-clause-told c =
    let named : Shown = record {
      name = c.in_ok-name.name;
      kind = c.in_ok-kind.field-0.kind;
      items = c.in_ok-kind.field-0.items;
    } in
    on_ok_weaker c.push_shown.result
    (λ writes x is. writes_as (AreOf named) (TellsOf x) (joined c.args.packer.now)
    (joined c.push_shown.new.packer) writes
    (λ rs are. kept_tells c.args.collections.now c.args.kept.now.at c.in_ok-kind.field-0 named x rs
    c.in_ok-kind.ensures.ok is.1 (c.in_ok-name.ensures ∙ is.0) refl refl are))
    c.push_shown.ensures.told
