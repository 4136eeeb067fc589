use Rattle.std.proofs.Common.{◌≡◌, ◌≤◌, List, [], sym, ◌∙◌, ap, subst}
use Rattle.std.proofs.lemmas.Result.{err_from_is_err_and}
use Rattle.calls.specs.Contents.{Collection}
use Rattle.calls.specs.Formats.{max_area, Allows}
use Rattle.disk_model.specs.Disk.{Rises}
use Rattle.gate_block.specs.Area.{size_of}
use Rattle.catalog.specs.Making.{names_of, AreDistinct}
use Rattle.catalog.specs.Woven.{names_in}
use Rattle.catalog.proofs.Whole.{names_seen}
use Rattle.records.specs.Images.{IsImage}
use Rattle.records.specs.Short.{AreShort}
use Rattle.images.specs.Images.{IsPacked}
use Rattle.replay.specs.Steps.{State}
use Rattle.replay.proofs.OneFormat.{repeats_format}
use Rattle.recovery.specs.Copies.{copied_as}
use Rattle.recovery.specs.Heads.{HasNoHeader}
use Rattle.recovery.specs.Openings.{IsDamagedAt}
use Rattle.recovery.specs.Edits.{edited, IsUneditable}
use Rattle.recovery.specs.Kept.{AreKept}
use Rattle.recovery.proofs.EditLemmas.{names_kept, named_kept}
use Rattle.recovery.proofs.CopyLemmas.{spells, some_settled, copied_later, copied_fits, all_later}
use Rattle.recovery.proofs.CopyLemmas.{find_refusal, edit_refusal}
use Rattle.recovery.proofs.settling.settled_image.Given.{Over}
use Rattle.recovery.proofs.settling.settled_image.Goals as goal

pub new-machine-requires-clause-short : goal.new-machine-requires-clause-short
new-machine-requires-clause-short g c =
    let x = c.in_ok-machine.field-0 in
    let f = c.copied_as-format.result in
    let is : f ≡ copied_as x.machine.format c.args.area =
    c.copied_as-format.ensures ∙ ap (λ h. copied_as h c.args.area) c.format.ensures in
    let now : c.together-collections.result ≡ x.machine.now =
    c.together-collections.ensures ∙ sym c.apart-names.ensures.whole ∙
    c.into_parts.ensures.parts in
    subst (AreShort f) (sym now)
    (all_later x.machine.format f
    (subst (Allows x.machine.format) (sym is) (copied_later x.machine.format c.args.area))
    x.machine.now c.upheld.ensures.spells)

pub kept_image-requires-clause-kept : goal.kept_image-requires-clause-kept
kept_image-requires-clause-kept g c =
    let x = c.in_ok-machine.field-0 in
    let kept = c.in_ok-kept.kept.items in
    let left = edited c.args.edits.now x.machine.now in
    let names : names_of x.machine.now ≡ names_in c.apart-names.result.0 =
    sym (names_seen c.apart-names.result.0 c.apart-names.result.1 c.apart-names.ensures.fit
    x.machine.now (sym c.apart-names.ensures.whole ∙ c.into_parts.ensures.parts)) in
    let keeps = c.in_ok-kept.ensures.kept x.machine.now names in
    let now : c.together-collections.result ≡ x.machine.now =
    c.together-collections.ensures ∙ sym c.apart-names.ensures.whole ∙
    c.into_parts.ensures.parts in (
      left,
      subst (λ l. AreKept c.new-machine.result.now l left) (sym c.deref.ensures.value)
          (subst (λ v. AreKept v kept left)
          (sym (ap (λ (m : State). m.now) c.new-machine.ensures ∙ now)) keeps.1),
      named_kept x.machine.now kept left keeps.1 c.in_ok-kept.ensures.good,
    )

-- what is kept, and its image
module _ (g : Over) (c : goal.After-drop-kept-2 g) where
  abbrev now : List Collection
  now = c.in_ok-machine.field-0.machine.now

  abbrev left : List Collection
  left = edited c.args.edits.now now

  together : c.together-collections.result ≡ now
  together = c.together-collections.ensures ∙ sym c.apart-names.ensures.whole ∙
      c.into_parts.ensures.parts

  names : names_of now ≡ names_in c.apart-names.result.0
  names = sym (names_seen c.apart-names.result.0 c.apart-names.result.1 c.apart-names.ensures.fit
      now (sym c.apart-names.ensures.whole ∙ c.into_parts.ensures.parts))

  packed : IsPacked (IsImage c.new-machine.result.format c.in_ok-machine.field-0.next
      c.new-machine.result.wear left [] []) c.in_ok-image.image.blocks.items
  packed = c.in_ok-image.ensures.image left
      (subst (λ l. AreKept c.new-machine.result.now l left) (sym c.deref.ensures.value)
      (subst (λ v. AreKept v c.in_ok-kept.kept.items left)
      (sym (ap (λ (m : State). m.now) c.new-machine.ensures ∙ together))
      (c.in_ok-kept.ensures.kept now names).1))

pub returns-clause-image : goal.returns-clause-image
returns-clause-image g c = λ true_read.
    let x = c.in_ok-machine.field-0 in
    let found = c.in_ok-machine.ensures.found in
    let f = c.copied_as-format.result in
    let is : f ≡ copied_as x.machine.format c.args.area =
    c.copied_as-format.ensures ∙ ap (λ h. copied_as h c.args.area) c.format.ensures in
    let kept = c.in_ok-kept.kept.items in
    let keeps = c.in_ok-kept.ensures.kept x.machine.now (names g c) in
    let blocks = c.in_ok-image.image.blocks.items in
    record {
      spells = spells f (g.D.Disk.seen c.args.disk.now) x.area c.args.edits.now found.state
          x.machine
          x.next x.report.records x.records.items blocks (found.stored true_read) found.undo
          found.marks c.upheld.ensures
          (subst (Allows x.machine.format) (sym is) (copied_later x.machine.format c.args.area))
          keeps.0 (named_kept x.machine.now kept (left g c) keeps.1 c.in_ok-kept.ensures.good)
          (subst AreDistinct (names_kept x.machine.now kept (left g c) keeps.1)
          c.in_ok-kept.ensures.distinct)
          (subst (λ w. IsPacked (IsImage f x.next w (left g c) [] []) blocks) c.wear-wear.ensures
          (subst (λ (m : State). IsPacked (IsImage m.format x.next m.wear (left g c) [] []) blocks)
          c.new-machine.ensures (packed g c)));
      format_is = is ∙ ap (λ h. copied_as h c.args.area)
          (repeats_format x.records.items found.state x.machine found.undo.leads);
    }

pub returns-clause-bound : goal.returns-clause-bound
returns-clause-bound g c = λ small.
    subst (λ f. c.args.area ≤ max_area f) (sym c.copied_as-format.ensures)
    (copied_fits c.format.result c.args.area small)

pub returns-clause-some : goal.returns-clause-some
returns-clause-some g c =
    some_settled c.new-machine.result.format c.in_ok-machine.field-0.next c.new-machine.result.wear
    (left g c) c.in_ok-image.image.blocks.items (packed g c)

pub returns-in_err-machine-clause-starved : goal.returns-in_err-machine-clause-starved
returns-in_err-machine-clause-starved g c =
    let p = err_from_is_err_and c.from_residual.result c.from_residual.ensures.1 in
    rw (p.1, p.2) c.in_err-machine.ensures.starved

pub returns-in_err-machine-clause-refused : goal.returns-in_err-machine-clause-refused
returns-in_err-machine-clause-refused g c =
    let p = err_from_is_err_and c.from_residual.result c.from_residual.ensures.1 in
    rw (p.1, p.2)
    (find_refusal
    (Rises (g.D.Disk.fault_count c.args.disk.now) (g.D.Disk.fault_count c.find.new.disk))
    (g.D.Disk.is_honest c.find.new.disk → HasNoHeader (g.D.Disk.seen c.args.disk.now))
    (λ place. g.D.Disk.is_honest c.find.new.disk →
    IsDamagedAt (g.D.Disk.seen c.args.disk.now) place)
    (λ e. g.D.Disk.is_honest c.find.new.disk →
    IsUneditable (g.D.Disk.seen c.args.disk.now) c.args.edits.now e)
    c.in_err-machine.field-0.0 c.in_err-machine.ensures.refused)

pub returns-in_err-kept-clause-refused : goal.returns-in_err-kept-clause-refused
returns-in_err-kept-clause-refused g c =
    let p = err_from_is_err_and c.from_residual-in_err-kept.result
    c.from_residual-in_err-kept.ensures.1 in
    let x = c.in_ok-machine.field-0 in
    let found = c.in_ok-machine.ensures.found in
    let names : names_of x.machine.now ≡ names_in c.apart-names.result.0 =
    sym (names_seen c.apart-names.result.0 c.apart-names.result.1 c.apart-names.ensures.fit
    x.machine.now (sym c.apart-names.ensures.whole ∙ c.into_parts.ensures.parts)) in
    rw (p.1, p.2)
    (edit_refusal (g.D.Disk.is_honest c.find.new.disk) _ _ _ (g.D.Disk.seen c.args.disk.now) x.area
    found.state x.machine x.next x.report.records x.records.items found.stored found.undo
    found.marks c.args.edits.now (names_in c.apart-names.result.0) names c.in_err-kept.field-0.0
    c.in_err-kept.ensures.refused)

pub returns-in_err-kept-clause-starved : goal.returns-in_err-kept-clause-starved
returns-in_err-kept-clause-starved g c =
    let p = err_from_is_err_and c.from_residual-in_err-kept.result
    c.from_residual-in_err-kept.ensures.1 in
    rw p.1 (λ starved true_read.
    let stored = c.in_ok-machine.ensures.found.stored true_read in
    (stored.version, size_of c.in_ok-machine.field-0.area, stored.header))

pub returns-in_err-image-clause-refused : goal.returns-in_err-image-clause-refused
returns-in_err-image-clause-refused g c =
    let p = err_from_is_err_and c.from_residual-in_err-image.result
    c.from_residual-in_err-image.ensures.1 in
    rw (p.1, p.2, c.in_err-image.ensures.refusal) tt

pub returns-in_err-image-clause-starved : goal.returns-in_err-image-clause-starved
returns-in_err-image-clause-starved g c =
    let p = err_from_is_err_and c.from_residual-in_err-image.result
    c.from_residual-in_err-image.ensures.1 in
    rw p.1 (λ starved true_read.
    let stored = c.in_ok-machine.ensures.found.stored true_read in
    (stored.version, size_of c.in_ok-machine.field-0.area, stored.header))
