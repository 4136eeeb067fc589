use Rattle.catalog.specs.Fours.{First, Second, Third, Fourth}
use Rattle.txn.proofs.Untouched.{untouched}
use Rattle.txn.proofs.journal.Journal.shelves_of.Goals as goal

pub returns : goal.returns
returns g c First = untouched First c.args.handle.number c.args.self.now.transactions.entries
    c.entries_of-entries.result.now _ c.entries_of-entries.ensures c.has_entry.ensures
returns g c Second = untouched Second c.args.handle.number c.args.self.now.transactions.entries
    c.entries_of-entries.result.now _ c.entries_of-entries.ensures c.has_entry-2.ensures
returns g c Third = untouched Third c.args.handle.number c.args.self.now.transactions.entries
    c.entries_of-entries.result.now _ c.entries_of-entries.ensures c.has_entry-3.ensures
returns g c Fourth = untouched Fourth c.args.handle.number c.args.self.now.transactions.entries
    c.entries_of-entries.result.now _ c.entries_of-entries.ensures c.has_entry-4.ensures
