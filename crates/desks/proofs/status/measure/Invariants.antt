use Rattle.std.proofs.Common.{◌≡◌, take}
use Rattle.std.specs.List.{AllZip}
use Rattle.catalog.specs.declared.four.Four.{Four}
use Rattle.catalog.specs.Fours.{Which, pick}
use Rattle.catalog.specs.Holdings.{Measures}
use Rattle.steps.specs.Shelves.{ShelfState}
use Rattle.steps.specs.Wholes.{contents}
use Rattle.txn.specs.Shelved.{IsBook}
use Rattle.desks.proofs.status.measure.Given as goal

-- the collections before the place are measured
abbrev pub invariant-loop-at : goal.invariant-loop-at
invariant-loop-at g l = (f : Four (ShelfState _)) → IsBook g.B.Boosted.meaning g.B.Parts.making
    g.B.Parts.collections g.B.Parts.whole g.B.Parts.fits l.fn.journal f →
    ((w : Which) → (pick l.fn.shelves w).now ≡ pick f w) → AllZip Measures
    (take l.at (g.B.Parts.collections (g.B.Parts.whole l.fn.journal.names (contents f))))
    l.all.items
