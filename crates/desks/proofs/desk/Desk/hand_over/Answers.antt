use Rattle.std.proofs.Common.{refl}
use Rattle.group_commit.specs.Orders.{WasFull}
use Rattle.desks.proofs.Owning.{drawn_beside}
use Rattle.desks.proofs.ShelfSteps.{journal_cuts}
use Rattle.desks.proofs.desk.Desk.hand_over.Goals as goal

pub cut_into-cut-requires-clause-kept : goal.cut_into-cut-requires-clause-kept
cut_into-cut-requires-clause-kept g c = (c.self.invariant.0.shelves, c.self.invariant.0.known.book)

pub invariant_of-self : goal.invariant_of-self
invariant_of-self g c =
    let i = c.self.inside in
    let is = c.self.invariant.0 in
    let cut = c.cut_into-cut.ensures in (
      journal_cuts g.J.Naming i.journal c.cut_into-cut.new.journal i.nears i.seat
          c.note_alone.new.seat i.sender c.cut_into-cut.new.sender i.near
          (WasFull i.sender.sent) c.cut_into-cut.result is (cut.answer is.shelves is.known.book)
          (cut.kept is.shelves is.known.book)
          (rw (← c.of-before.ensures) c.note_alone.ensures.book),
      c.self.invariant.1,
      c.self.invariant.2,
      c.self.invariant.3,
      drawn_beside i.maker i.seat c.note_alone.new.seat c.self.invariant.4 _ refl
          c.note_alone.ensures.book,
    )
