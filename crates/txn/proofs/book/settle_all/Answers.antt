use Rattle.std.proofs.Common.{map, arith}
use Rattle.calls.specs.Transactions.{laters_of}
use Rattle.undo_log.specs.Entries.{stamped_entry}
use Rattle.catalog.specs.Fours.{First, Second, Third, Fourth, rank, pick}
use Rattle.steps.specs.Shelves.{Settles, on_quarter}
use Rattle.steps.proofs.Joining.{counts_join}
use Rattle.txn.proofs.JournalEnds.{each_of}
use Rattle.txn.proofs.book.settle_all.Goals as goal

pub settle_quarter-requires : goal.settle_quarter-requires
settle_quarter-requires g c = c.requires.can First

pub settle_quarter-requires-2 : goal.settle_quarter-requires-2
settle_quarter-requires-2 g c = c.requires.can Second

pub settle_quarter-requires-3 : goal.settle_quarter-requires-3
settle_quarter-requires-3 g c = c.requires.can Third

pub settle_quarter-requires-4 : goal.settle_quarter-requires-4
settle_quarter-requires-4 g c = c.requires.can Fourth

pub overflow_add-result : goal.overflow_add-result
overflow_add-result g c =
    let room-1 = (c.requires.can First).room in
    let count-1 = c.settle_quarter.ensures.count in
    let room-2 = (c.requires.can Second).room in
    let count-2 = c.settle_quarter-2.ensures.count in
    omega arith

pub overflow_add-result-2 : goal.overflow_add-result-2
overflow_add-result-2 g c =
    let room-1 = (c.requires.can First).room in
    let count-1 = c.settle_quarter.ensures.count in
    let room-2 = (c.requires.can Second).room in
    let count-2 = c.settle_quarter-2.ensures.count in
    let room-3 = (c.requires.can Third).room in
    let count-3 = c.settle_quarter-3.ensures.count in
    omega arith

pub overflow_add-result-3 : goal.overflow_add-result-3
overflow_add-result-3 g c =
    let room-1 = (c.requires.can First).room in
    let count-1 = c.settle_quarter.ensures.count in
    let room-2 = (c.requires.can Second).room in
    let count-2 = c.settle_quarter-2.ensures.count in
    let room-3 = (c.requires.can Third).room in
    let count-3 = c.settle_quarter-3.ensures.count in
    let room-4 = (c.requires.can Fourth).room in
    let count-4 = c.settle_quarter-4.ensures.count in
    omega arith

pub returns-clause-settled : goal.returns-clause-settled
returns-clause-settled g c =
    let ls = laters_of (map stamped_entry c.args.entries.now) in
    each_of
    (λ w. Settles g.C.Boosted.meaning (pick c.args.shelves.now w) c.args.number
    (on_quarter (rank w) ls)
    (pick (record {
      first = c.settle_quarter.new.self;
      second = c.settle_quarter-2.new.self;
      third = c.settle_quarter-3.new.self;
      fourth = c.settle_quarter-4.new.self;
    }) w))
    (record {
      runs = c.settle_quarter.ensures.runs;
      holds = c.settle_quarter.ensures.holds;
    })
    (record {
      runs = c.settle_quarter-2.ensures.runs;
      holds = c.settle_quarter-2.ensures.holds;
    })
    (record {
      runs = c.settle_quarter-3.ensures.runs;
      holds = c.settle_quarter-3.ensures.holds;
    })
    (record {
      runs = c.settle_quarter-4.ensures.runs;
      holds = c.settle_quarter-4.ensures.holds;
    })

pub returns-clause-count : goal.returns-clause-count
returns-clause-count g c =
    let all = counts_join (laters_of (map stamped_entry c.args.entries.now)) in
    let count-1 = c.settle_quarter.ensures.count in
    let count-2 = c.settle_quarter-2.ensures.count in
    let count-3 = c.settle_quarter-3.ensures.count in
    let count-4 = c.settle_quarter-4.ensures.count in
    omega arith
