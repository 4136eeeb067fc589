use Rattle.std.proofs.Common.{map, refl, sym, ap, ◌∙◌, subst, None, Some}
use Rattle.calls.specs.Transactions as transactions
use Rattle.calls.specs.Transactions.{laters_of}
use Rattle.undo_log.specs.Entries.{stamped_entry}
use Rattle.steps.specs.Shelves.{CanRun, Does, on_quarter}
use Rattle.catalog.specs.Fours.{rank}
use Rattle.group_commit.specs.Twins.{EndState}
use Rattle.desks.specs.Touches.{led}
use Rattle.desks.proofs.Touching.{leads_on, settles_known, shelf_touched}
use Rattle.desks.proofs.shelf_desk.ShelfDesk.settle.Goals as goal

pub settle_quarter-ran-requires : goal.settle_quarter-ran-requires
settle_quarter-ran-requires g c =
    subst (λ q. CanRun g.B.Shelf.Boosted.meaning
    (on_quarter q (laters_of (map stamped_entry c.args.entries.now))) c.self.inside.shelf.now)
    (sym c.place.ensures.rank)
    (c.requires.can c.self.inside.shelf
    (ap (led None) c.compare.ensures.same ∙ c.self.invariant.leads))

pub invariant_of-self : goal.invariant_of-self
invariant_of-self g c =
    shelf_touched g.J.Naming.shelves g.Q.Quarter.which c.settle_quarter-ran.new.self
    c.compare.new.far
    c.note_touch.new.far record { step = None; left = Some c.settle_quarter-ran.new.self }
    (ap (λ (v : EndState _). v.table) c.compare.ensures.far ∙ c.self.invariant.table)
    c.note_touch.ensures.far refl

pub returns-clause-settled : goal.returns-clause-settled
returns-clause-settled g c =
    settles_known g.B.Shelf.Boosted.meaning c.args.number
    (on_quarter (rank g.Q.Quarter.which) (laters_of (map stamped_entry c.args.entries.now)))
    c.args.near.now c.self.inside.far c.note_touch.new.near c.self.inside.shelf
    c.settle_quarter-ran.new.self c.self.invariant.leads c.compare.ensures.same
    (leads_on c.compare.new.near c.note_touch.new.near
    record { step = None; left = Some c.settle_quarter-ran.new.self } c.settle_quarter-ran.new.self
    c.note_touch.ensures.near refl)
    record {
      runs = subst (λ q. transactions.Leads (Does g.B.Shelf.Boosted.meaning)
          (on_quarter q (laters_of (map stamped_entry c.args.entries.now))) c.self.inside.shelf.now
          c.settle_quarter-ran.new.self.now) c.place.ensures.rank c.settle_quarter-ran.ensures.runs;
      holds = c.settle_quarter-ran.ensures.holds;
    }
