use Rattle.std.proofs.Common.{refl, ap, ◌∙◌}
use Rattle.desks.proofs.Touching.{leads_on}
use Rattle.desks.proofs.shelf_desk.ShelfDesk.new.Goals as goal

pub invariant_of-result : goal.invariant_of-result
invariant_of-result g c = record {
  table = ap (λ e. e.table) c.note_touch.ensures.far ∙ ap (λ e. e.table) c.requires.far ∙
      c.requires.twin;
  leads = leads_on c.args.far c.note_touch.new.far _ c.args.shelf c.note_touch.ensures.far refl;
}

pub returns-clause-table : goal.returns-clause-table
returns-clause-table g c = ap (λ e. e.table) c.note_touch.ensures.near ∙
    ap (λ e. e.table) c.requires.near ∙ c.requires.twin

pub returns-clause-known : goal.returns-clause-known
returns-clause-known g c = leads_on c.args.near.now c.note_touch.new.near _ c.args.shelf
    c.note_touch.ensures.near refl
