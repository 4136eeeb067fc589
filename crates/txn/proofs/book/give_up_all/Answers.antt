use Rattle.std.proofs.Common.{[], sym}
use Rattle.catalog.specs.Fours.{pick}
use Rattle.steps.specs.Shelves.{Settles}
use Rattle.txn.proofs.JournalEnds.{each_of}
use Rattle.txn.proofs.book.give_up_all.Goals as goal

pub returns : goal.returns
returns g c = each_of
    (λ w. Settles g.C.Boosted.meaning (pick c.args.shelves.now w) c.args.number []
    (pick (record {
      first = c.give_up.new.self;
      second = c.give_up-2.new.self;
      third = c.give_up-3.new.self;
      fourth = c.give_up-4.new.self;
    }) w))
    (record { runs = sym c.give_up.ensures.now; holds = c.give_up.ensures.holds })
    (record { runs = sym c.give_up-2.ensures.now; holds = c.give_up-2.ensures.holds })
    (record { runs = sym c.give_up-3.ensures.now; holds = c.give_up-3.ensures.holds })
    (record { runs = sym c.give_up-4.ensures.now; holds = c.give_up-4.ensures.holds })
