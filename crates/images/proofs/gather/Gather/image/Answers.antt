use Rattle.std.proofs.Common.{refl, subst, sym, ◌∙◌, ap, [], ◌≡◌}
use Rattle.std.specs.Option.{option_map}
use Rattle.records.proofs.Packed.{all_whole}
use Rattle.images.specs.Images.{TellsGathered, IsPacked}
use Rattle.images.specs.Gathers.{gathered, caught_up}
use Rattle.images.specs.Views.{copies_of, frozen_of}
use Rattle.images.proofs.gather.Gather.image.Goals as goal

pub invariant_of-result : goal.invariant_of-result
invariant_of-result g c =
    let packed = c.in_ok-pack-in-Some.ensures.image in
    record { whole = all_whole c.in_ok-pack-in-Some.field-0.items packed.groups packed.whole }

pub returns-clause-ok : goal.returns-clause-ok
returns-clause-ok g c =
    let i = c.self.inside in
    let f = c.in-Some.frozen in
    let none : i.effects.items ≡ [] = ap (λ v. v.effects) c.self.view_is ∙ c.requires.done in
    let same = ap (copies_of g.P.Part.collection) c.deref.ensures.value ∙
    ap (caught_up (copies_of g.P.Part.collection i.copies.items)) (sym none) in
    rw (← c.self.view_is) (
    record {
      frozen = frozen_of f;
      is_frozen = ap (option_map frozen_of) c.in-Some.is;
      packed = subst (λ ps. IsPacked (TellsGathered f.image_head.format f.image_head.next
          f.image_head.wear
          (gathered ps)
          f.live.items) c.in_ok-pack-in-Some.field-0.items) same
          c.in_ok-pack-in-Some.ensures.image;
      end = refl;
      place = refl;
    }
    )
