use Rattle.std.proofs.Common.{map, length, sym, refl, ap, subst, IsNone}
use Rattle.calls.specs.Transactions.{laters_of}
use Rattle.undo_log.specs.Entries.{stamped_entry}
use Rattle.catalog.specs.Fours.{rank}
use Rattle.steps.specs.Shelves.{on_quarter}
use Rattle.desks.proofs.Touching.{idles_known}
use Rattle.desks.proofs.shelf_desk.settle_held.Goals as goal

pub returns-in_default-clause-count : goal.returns-in_default-clause-count
returns-in_default-clause-count g c =
    ap length (sym (c.requires.idle (subst IsNone (sym c.in_default.is) refl)).2.0)

pub returns-in_default-clause-settled : goal.returns-in_default-clause-settled
returns-in_default-clause-settled g c =
    idles_known g.B.Shelf.Boosted.meaning c.args.number
    (on_quarter (rank g.Q.Quarter.which) (laters_of (map stamped_entry c.args.entries.now)))
    c.args.near.now
    (c.requires.idle (subst IsNone (sym c.in_default.is) refl))
