use Rattle.std.proofs.Common.{◌≡◌, sym, ◌∙◌, ap, subst, slice_set}
use Rattle.std.proofs.lemmas.Result.{err_from_is_err_and}
use Rattle.std.specs.List.{AllByRecursion}
use Rattle.calls.specs.declared.refusal.Refusal.{Refusal}
use Rattle.calls.specs.Names.{IsName}
use Rattle.catalog.specs.Making.{AreDistinct}
use Rattle.recovery.specs.Edits.{edited_once, CanEdit, RefusesEdit}
use Rattle.recovery.specs.Kept.{kept_names, AreKept, OrStarved}
use Rattle.recovery.proofs.EditLemmas.{place_get, place_contains, keeps_without, keeps_renamed}
use Rattle.recovery.proofs.EditLemmas.{good_removed, distinct_removed, each_named, distinct_named}
use Rattle.recovery.proofs.EditLemmas.{written, with_name, place_free, new_refused}
use Rattle.recovery.proofs.editing.make.Goals as goal

pub returns-in_ok-place-in-Without-clause-can : goal.returns-in_ok-place-in-Without-clause-can
returns-in_ok-place-in-Without-clause-can c =
    subst (λ e. CanEdit e (kept_names c.args.kept.now.items)) (sym c.in-Without.is)
    (place_contains c.args.kept.now.items _ _
    (rw c.deref.ensures.value at c.in_ok-place-in-Without.ensures.there))

pub returns-in_ok-place-in-Without-clause-made : goal.returns-in_ok-place-in-Without-clause-made
returns-in_ok-place-in-Without-clause-made c = λ s xs are.
    subst (λ e. AreKept s c.remove.new.self.items (edited_once e xs)) (sym c.in-Without.is)
    (rw c.remove.ensures.items
    (keeps_without _ s c.args.kept.now.items xs _
    (place_get c.args.kept.now.items _ _
    (rw c.deref.ensures.value at c.in_ok-place-in-Without.ensures.there))
    c.requires.distinct are))

pub returns-in_ok-place-in-Without-clause-good : goal.returns-in_ok-place-in-Without-clause-good
returns-in_ok-place-in-Without-clause-good c =
    subst (λ l. AllByRecursion IsName (kept_names l)) (sym c.remove.ensures.items)
    (good_removed c.args.kept.now.items c.in_ok-place-in-Without.place c.requires.good)

pub returns-in_ok-place-in-Without-clause-distinct :
    goal.returns-in_ok-place-in-Without-clause-distinct
returns-in_ok-place-in-Without-clause-distinct c =
    subst (λ l. AreDistinct (kept_names l)) (sym c.remove.ensures.items)
    (distinct_removed c.args.kept.now.items c.in_ok-place-in-Without.place c.requires.distinct)

pub returns-in_ok-kept-in-Rename-clause-can : goal.returns-in_ok-kept-in-Rename-clause-can
returns-in_ok-kept-in-Rename-clause-can c =
    let new = rw c.deref-in-Rename-2.ensures.value at c.in_ok-check_new-in-Rename.ensures.ok in
    subst (λ e. CanEdit e (kept_names c.args.kept.now.items)) (sym c.in-Rename.is) (
      place_contains c.args.kept.now.items _ _
          (rw c.deref-in-Rename.ensures.value at c.in_ok-place-in-Rename.ensures.there),
      new.0,
      new.1,
    )

named : (c : goal.After-drop-index_mut) →
    slice_set c.args.kept.now.items c.in_ok-place-in-Rename.place
    (record { at = c.index_mut.result.now.at; name = c.in_ok-kept-in-Rename.field-0 }) ≡
    with_name c.in-Rename.to c.args.kept.now.items c.in_ok-place-in-Rename.place
named c =
    let at = rw c.deref-in-Rename.ensures.value at c.in_ok-place-in-Rename.ensures.there in
    written c.args.kept.now.items c.in_ok-place-in-Rename.place c.index_mut.result.now
    c.in_ok-kept-in-Rename.field-0 at.within c.index_mut.ensures.value ∙
    ap (λ t. with_name t c.args.kept.now.items c.in_ok-place-in-Rename.place)
    c.in_ok-kept-in-Rename.ensures

pub returns-in_ok-kept-in-Rename-clause-made : goal.returns-in_ok-kept-in-Rename-clause-made
returns-in_ok-kept-in-Rename-clause-made c = λ s xs are.
    let made = keeps_renamed c.in-Rename.from c.in-Rename.to s c.args.kept.now.items xs
    c.in_ok-place-in-Rename.place
    (place_get c.args.kept.now.items c.in-Rename.from c.in_ok-place-in-Rename.place
    (rw c.deref-in-Rename.ensures.value at c.in_ok-place-in-Rename.ensures.there))
    c.requires.distinct are in
    subst (λ l. AreKept s l (edited_once c.args.edit.now xs)) (sym (named c))
    (subst (λ e. AreKept s (with_name c.in-Rename.to c.args.kept.now.items
    c.in_ok-place-in-Rename.place) (edited_once e xs)) (sym c.in-Rename.is) made)

pub returns-in_ok-kept-in-Rename-clause-good : goal.returns-in_ok-kept-in-Rename-clause-good
returns-in_ok-kept-in-Rename-clause-good c =
    let new = rw c.deref-in-Rename-2.ensures.value at c.in_ok-check_new-in-Rename.ensures.ok in
    subst (λ l. AllByRecursion IsName (kept_names l)) (sym (named c))
    (each_named IsName c.in-Rename.to c.args.kept.now.items c.in_ok-place-in-Rename.place new.0
    c.requires.good)

pub returns-in_ok-kept-in-Rename-clause-distinct :
    goal.returns-in_ok-kept-in-Rename-clause-distinct
returns-in_ok-kept-in-Rename-clause-distinct c =
    let new = rw c.deref-in-Rename-2.ensures.value at c.in_ok-check_new-in-Rename.ensures.ok in
    subst (λ l. AreDistinct (kept_names l)) (sym (named c))
    (distinct_named c.in-Rename.to c.args.kept.now.items c.in_ok-place-in-Rename.place new.1
    c.requires.distinct)

pub returns-in_err-place-in-Without-clause-refused :
    goal.returns-in_err-place-in-Without-clause-refused
returns-in_err-place-in-Without-clause-refused c =
    let p = err_from_is_err_and c.from_residual.result c.from_residual.ensures.1 in
    let names = kept_names c.args.kept.now.items in
    let why = rw c.deref.ensures.value at c.in_err-place-in-Without.ensures.refused in
    rw (p.1, p.2)
    (subst (OrStarved (RefusesEdit c.args.edit.now names)) (sym why.0)
    (subst (λ d. RefusesEdit d names Refusal.NoSuchCollection) (sym c.in-Without.is)
    (place_free c.args.kept.now.items _ why.1)))

pub returns-in_err-place-in-Rename-clause-refused :
    goal.returns-in_err-place-in-Rename-clause-refused
returns-in_err-place-in-Rename-clause-refused c =
    let p = err_from_is_err_and c.from_residual-in_err-place-in-Rename.result
    c.from_residual-in_err-place-in-Rename.ensures.1 in
    let names = kept_names c.args.kept.now.items in
    let why = rw c.deref-in-Rename.ensures.value at c.in_err-place-in-Rename.ensures.refused in
    rw (p.1, p.2)
    (subst (OrStarved (RefusesEdit c.args.edit.now names)) (sym why.0)
    (subst (λ d. RefusesEdit d names Refusal.NoSuchCollection) (sym c.in-Rename.is)
    (place_free c.args.kept.now.items c.in-Rename.from why.1)))

pub returns-in_err-check_new-in-Rename-clause-refused :
    goal.returns-in_err-check_new-in-Rename-clause-refused
returns-in_err-check_new-in-Rename-clause-refused c =
    let p = err_from_is_err_and c.from_residual-in_err-check_new-in-Rename.result
    c.from_residual-in_err-check_new-in-Rename.ensures.1 in
    let names = kept_names c.args.kept.now.items in
    let e = c.in_err-check_new-in-Rename.field-0.0 in
    rw (p.1, p.2)
    (subst (λ d. OrStarved (RefusesEdit d names) e) (sym c.in-Rename.is)
    (new_refused c.in-Rename.from c.in-Rename.to names e
    (place_contains c.args.kept.now.items c.in-Rename.from c.in_ok-place-in-Rename.place
    (rw c.deref-in-Rename.ensures.value at c.in_ok-place-in-Rename.ensures.there))
    (rw c.deref-in-Rename-2.ensures.value at c.in_err-check_new-in-Rename.ensures.err)))
