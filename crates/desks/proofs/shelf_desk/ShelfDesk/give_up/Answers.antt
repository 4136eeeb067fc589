use Rattle.std.proofs.Common.{[], sym, refl, ap, ◌∙◌, None, Some}
use Rattle.group_commit.specs.Twins.{EndState}
use Rattle.desks.proofs.Touching.{leads_on, settles_known, shelf_touched}
use Rattle.desks.proofs.shelf_desk.ShelfDesk.give_up.Goals as goal

pub invariant_of-self : goal.invariant_of-self
invariant_of-self g c =
    shelf_touched g.J.Naming.shelves g.Q.Quarter.which c.give_up.new.self c.compare.new.far
    c.note_touch.new.far record { step = None; left = Some c.give_up.new.self }
    (ap (λ (v : EndState _). v.table) c.compare.ensures.far ∙ c.self.invariant.table)
    c.note_touch.ensures.far refl

pub returns-clause-settled : goal.returns-clause-settled
returns-clause-settled g c =
    settles_known g.B.Shelf.Boosted.meaning c.args.number []
    c.args.near.now c.self.inside.far c.note_touch.new.near c.self.inside.shelf
    c.give_up.new.self c.self.invariant.leads c.compare.ensures.same
    (leads_on c.compare.new.near c.note_touch.new.near
    record { step = None; left = Some c.give_up.new.self } c.give_up.new.self
    c.note_touch.ensures.near refl)
    record { runs = sym c.give_up.ensures.now; holds = c.give_up.ensures.holds }
