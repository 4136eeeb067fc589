use Rattle.std.proofs.Common.{◌≡◌, ap, ◌∙◌, sym, subst, map, arith}
use Rattle.calls.specs.Transactions.{laters_of}
use Rattle.undo_log.specs.Entries.{stamped_entry}
use Rattle.catalog.specs.declared.four.Four.{Four}
use Rattle.catalog.specs.Fours.{First, Second, Third, Fourth, rank, pick}
use Rattle.steps.specs.Shelves.{CanRun, Settles, ShelfState, on_quarter}
use Rattle.steps.proofs.Joining.{counts_join}
use Rattle.txn.proofs.JournalEnds.{each_of}
use Rattle.desks.proofs.Touching.{known_is, leads_each}
use Rattle.desks.proofs.commits.settle_all.Goals as goal

pub settle_held-first-requires-clause-twin : goal.settle_held-first-requires-clause-twin
settle_held-first-requires-clause-twin g c =
    ap (λ (f : Four _). f.first) c.args.shelves.now.twins_are

pub settle_held-first-requires-clause-near : goal.settle_held-first-requires-clause-near
settle_held-first-requires-clause-near g c =
    c.requires.tables First ∙ sym (ap (λ (f : Four _). f.first) c.args.shelves.now.twins_are)

pub settle_held-first-requires-clause-can : goal.settle_held-first-requires-clause-can
settle_held-first-requires-clause-can g c s leads =
    let known = c.requires.known in
    let ls = laters_of (map stamped_entry c.args.entries.now) in
    subst (λ (x : ShelfState _). CanRun g.B.Shelf.Boosted.meaning (on_quarter 0 ls) x.now)
    (known_is c.args.nears.now.first known.0.first s (known.1 First) leads) (known.2 First)

pub settle_held-first-requires-clause-idle : goal.settle_held-first-requires-clause-idle
settle_held-first-requires-clause-idle g c none =
    let known = c.requires.known in (known.0.first, known.1 First, known.3 none)

pub settle_held-second-requires-clause-twin : goal.settle_held-second-requires-clause-twin
settle_held-second-requires-clause-twin g c =
    ap (λ (f : Four _). f.second) c.args.shelves.now.twins_are

pub settle_held-second-requires-clause-near : goal.settle_held-second-requires-clause-near
settle_held-second-requires-clause-near g c =
    c.requires.tables Second ∙ sym (ap (λ (f : Four _). f.second) c.args.shelves.now.twins_are)

pub settle_held-second-requires-clause-can : goal.settle_held-second-requires-clause-can
settle_held-second-requires-clause-can g c s leads =
    let known = c.requires.known in
    let ls = laters_of (map stamped_entry c.args.entries.now) in
    subst (λ (x : ShelfState _). CanRun g.B.Shelf.Boosted.meaning (on_quarter 1 ls) x.now)
    (known_is c.args.nears.now.second known.0.second s (known.1 Second) leads) (known.2 Second)

pub settle_held-second-requires-clause-idle : goal.settle_held-second-requires-clause-idle
settle_held-second-requires-clause-idle g c none =
    let known = c.requires.known in (known.0.second, known.1 Second, known.4 none)

pub settle_held-third-requires-clause-twin : goal.settle_held-third-requires-clause-twin
settle_held-third-requires-clause-twin g c =
    ap (λ (f : Four _). f.third) c.args.shelves.now.twins_are

pub settle_held-third-requires-clause-near : goal.settle_held-third-requires-clause-near
settle_held-third-requires-clause-near g c =
    c.requires.tables Third ∙ sym (ap (λ (f : Four _). f.third) c.args.shelves.now.twins_are)

pub settle_held-third-requires-clause-can : goal.settle_held-third-requires-clause-can
settle_held-third-requires-clause-can g c s leads =
    let known = c.requires.known in
    let ls = laters_of (map stamped_entry c.args.entries.now) in
    subst (λ (x : ShelfState _). CanRun g.B.Shelf.Boosted.meaning (on_quarter 2 ls) x.now)
    (known_is c.args.nears.now.third known.0.third s (known.1 Third) leads) (known.2 Third)

pub settle_held-third-requires-clause-idle : goal.settle_held-third-requires-clause-idle
settle_held-third-requires-clause-idle g c none =
    let known = c.requires.known in (known.0.third, known.1 Third, known.5 none)

pub settle_held-fourth-requires-clause-twin : goal.settle_held-fourth-requires-clause-twin
settle_held-fourth-requires-clause-twin g c =
    ap (λ (f : Four _). f.fourth) c.args.shelves.now.twins_are

pub settle_held-fourth-requires-clause-near : goal.settle_held-fourth-requires-clause-near
settle_held-fourth-requires-clause-near g c =
    c.requires.tables Fourth ∙ sym (ap (λ (f : Four _). f.fourth) c.args.shelves.now.twins_are)

pub settle_held-fourth-requires-clause-can : goal.settle_held-fourth-requires-clause-can
settle_held-fourth-requires-clause-can g c s leads =
    let known = c.requires.known in
    let ls = laters_of (map stamped_entry c.args.entries.now) in
    subst (λ (x : ShelfState _). CanRun g.B.Shelf.Boosted.meaning (on_quarter 3 ls) x.now)
    (known_is c.args.nears.now.fourth known.0.fourth s (known.1 Fourth) leads) (known.2 Fourth)

pub settle_held-fourth-requires-clause-idle : goal.settle_held-fourth-requires-clause-idle
settle_held-fourth-requires-clause-idle g c none =
    let known = c.requires.known in (known.0.fourth, known.1 Fourth, known.6 none)

pub overflow_add-result : goal.overflow_add-result
overflow_add-result g c =
    let room-1 = (c.requires.known.2 First).room in
    let count-1 = c.settle_held-first.ensures.count in
    let room-2 = (c.requires.known.2 Second).room in
    let count-2 = c.settle_held-second.ensures.count in
    omega arith

pub overflow_add-result-2 : goal.overflow_add-result-2
overflow_add-result-2 g c =
    let room-1 = (c.requires.known.2 First).room in
    let count-1 = c.settle_held-first.ensures.count in
    let room-2 = (c.requires.known.2 Second).room in
    let count-2 = c.settle_held-second.ensures.count in
    let room-3 = (c.requires.known.2 Third).room in
    let count-3 = c.settle_held-third.ensures.count in
    omega arith

pub overflow_add-result-3 : goal.overflow_add-result-3
overflow_add-result-3 g c =
    let room-1 = (c.requires.known.2 First).room in
    let count-1 = c.settle_held-first.ensures.count in
    let room-2 = (c.requires.known.2 Second).room in
    let count-2 = c.settle_held-second.ensures.count in
    let room-3 = (c.requires.known.2 Third).room in
    let count-3 = c.settle_held-third.ensures.count in
    let room-4 = (c.requires.known.2 Fourth).room in
    let count-4 = c.settle_held-fourth.ensures.count in
    omega arith

pub returns-clause-tables : goal.returns-clause-tables
returns-clause-tables g c =
    let nears = c.args.nears.now in
    each_of (λ w. (pick (record {
      first = c.settle_held-first.new.near;
      second = c.settle_held-second.new.near;
      third = c.settle_held-third.new.near;
      fourth = c.settle_held-fourth.new.near;
    }) w).table ≡ pick g.J.Naming.shelves w)
    (c.settle_held-first.ensures.table ∙ c.requires.tables First)
    (c.settle_held-second.ensures.table ∙ c.requires.tables Second)
    (c.settle_held-third.ensures.table ∙ c.requires.tables Third)
    (c.settle_held-fourth.ensures.table ∙ c.requires.tables Fourth)

pub returns-clause-settled : goal.returns-clause-settled
returns-clause-settled g c f leads =
    let ls = laters_of (map stamped_entry c.args.entries.now) in
    let first = c.settle_held-first.ensures.settled f.first (leads First) in
    let second = c.settle_held-second.ensures.settled f.second (leads Second) in
    let third = c.settle_held-third.ensures.settled f.third (leads Third) in
    let fourth = c.settle_held-fourth.ensures.settled f.fourth (leads Fourth) in
    let left : Four (ShelfState g.row.B-Shelf.Denot) =
    record { first = first.0; second = second.0; third = third.0; fourth = fourth.0 } in (
      left,
      leads_each record {
        first = c.settle_held-first.new.near;
        second = c.settle_held-second.new.near;
        third = c.settle_held-third.new.near;
        fourth = c.settle_held-fourth.new.near;
      } left first.1 second.1 third.1 fourth.1,
      each_of (λ w. Settles g.B.Shelf.Boosted.meaning (pick f w) c.args.number
          (on_quarter (rank w) ls) (pick left w)) first.2 second.2 third.2 fourth.2,
    )

pub returns-clause-count : goal.returns-clause-count
returns-clause-count g c =
    let all = counts_join (laters_of (map stamped_entry c.args.entries.now)) in
    let count-1 = c.settle_held-first.ensures.count in
    let count-2 = c.settle_held-second.ensures.count in
    let count-3 = c.settle_held-third.ensures.count in
    let count-4 = c.settle_held-fourth.ensures.count in
    omega arith
