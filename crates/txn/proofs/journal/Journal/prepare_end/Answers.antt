use Rattle.std.proofs.Common.{subst, ◌∙◌, sym}
use Rattle.records.specs.Waits.{HasRoomFor}
use Rattle.txn.proofs.BookLemmas.{mark_length}
use Rattle.txn.proofs.JournalEnds.{found_there}
use Rattle.txn.proofs.journal.Journal.prepare_end.Goals as goal

pub push-requires-clause-room : goal.push-requires-clause-room
push-requires-clause-room g c =
    subst (HasRoomFor c.reserve.new.self) (mark_length c.args.handle.number)
    c.in_ok-reserve.ensures.room

pub returns-then-is_some-clause-err : goal.returns-then-is_some-clause-err
returns-then-is_some-clause-err g c = (
  c.in_ok-check_live.ensures.ok,
  found_there c.args.handle.number c.args.self.now.transactions.entries c.newest.result
      c.newest.ensures.some
      (sym c.is_some.ensures ∙ c.if-is_some.true),
)
