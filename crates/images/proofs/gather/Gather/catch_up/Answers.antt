use Rattle.std.proofs.Common.{subst, sym, ◌∙◌, ap, refl}
use Rattle.std.proofs.lemmas.List.{with_items_is}
use Rattle.images.specs.Gathers.{HaveRepeated, IsGathered}
use Rattle.images.specs.Views.{copies_of, gather_of}
use Rattle.images.proofs.Repeats.{gathered_repeated}
use Rattle.images.proofs.gather.Gather.catch_up.Given.{Over}
use Rattle.images.proofs.gather.Gather.catch_up.Goals as goal

repeated : (g : Over) (c : goal.After-drop-self-inside g) →
    HaveRepeated (copies_of g.P.Part.collection c.self.inside.copies.items)
    c.self.inside.effects.items (copies_of g.P.Part.collection c.repeat_all-done.new.copies)
    c.repeat_all-done.new.effects.items
repeated g c =
    let copies = copies_of g.P.Part.collection in
    let left = c.repeat_all-done.new.effects.items in
    let now = copies c.repeat_all-done.new.copies in
    subst (λ es. HaveRepeated (copies c.self.inside.copies.items) es now left)
    (ap (λ q. q.items) c.replace-effects.ensures.value)
    (subst (λ os. HaveRepeated (copies os) c.replace-effects.result.items now left)
    c.deref_mut.ensures.value c.repeat_all-done.ensures.repeated)

pub invariant_of-self : goal.invariant_of-self
invariant_of-self g c =
    let i = c.self.inside in
    let old = gather_of g.P.Part.collection i.mark i.copies.items i.effects.items i.frozen in
    let now = c.repeat_all-done.new.copies in
    let left = c.repeat_all-done.new.effects.items in
    let back = with_items_is i.copies now
    (c.repeat_all-done.auto.copies ∙ c.deref_mut.ensures.len) in
    subst (λ l. IsGathered (gather_of g.P.Part.collection i.mark l left i.frozen)) (sym back)
    (gathered_repeated old.mark old.parts old.effects old.frozen c.self.invariant
    (copies_of g.P.Part.collection now) left (repeated g c))

pub returns-clause-repeats : goal.returns-clause-repeats
returns-clause-repeats g c = rw (← c.self.view_is) (
    let i = c.self.inside in
    let now = c.repeat_all-done.new.copies in
    let left = c.repeat_all-done.new.effects.items in
    let copies = copies_of g.P.Part.collection in
    let back = with_items_is i.copies now
    (c.repeat_all-done.auto.copies ∙ c.deref_mut.ensures.len) in
    record {
      repeated = subst (λ l. HaveRepeated (copies i.copies.items) i.effects.items (copies l) left)
          (sym back) (repeated g c);
      mark = refl;
      frozen = refl;
    }
    )
