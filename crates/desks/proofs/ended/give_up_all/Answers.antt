use Rattle.std.proofs.Common.{[]}
use Rattle.catalog.specs.Fours.{pick}
use Rattle.steps.specs.Shelves.{Settles}
use Rattle.catalog.specs.declared.four.Four.{Four}
use Rattle.steps.specs.Shelves.{ShelfState}
use Rattle.txn.proofs.JournalEnds.{each_of}
use Rattle.desks.proofs.ended.give_up_all.Goals as goal

pub returns-clause-settled : goal.returns-clause-settled
returns-clause-settled g c f leads =
    let first = c.give_up_on.ensures.settled f leads in
    let second = c.give_up_on-2.ensures.settled record f { first = first.0 } first.1 in
    let third = c.give_up_on-3.ensures.settled
    record f { first = first.0; second = second.0 } second.1 in
    let fourth = c.give_up_on-4.ensures.settled
    record f { first = first.0; second = second.0; third = third.0 } third.1 in
    let left : Four (ShelfState g.row.B-Shelf.Denot) =
    record { first = first.0; second = second.0; third = third.0; fourth = fourth.0 } in (
      left,
      fourth.1,
      each_of (λ w. Settles g.B.Shelf.Boosted.meaning (pick f w) c.args.number [] (pick left w))
          first.2 second.2 third.2 fourth.2,
    )
