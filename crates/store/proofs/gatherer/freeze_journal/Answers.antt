use Rattle.txn.specs.Shelved.{book_state}
use Rattle.desks.specs.Told.{told_book}
use Rattle.desks.proofs.Telling.{freeze_told}
use Rattle.engine.proofs.Packed.{froze_there}
use Rattle.store.proofs.Freezes.{froze_then}
use Rattle.store.proofs.gatherer.freeze_journal.Goals as goal

-- what the book froze is frozen
pub hold_frozen-requires : goal.hold_frozen-requires
hold_frozen-requires g c =
    let known = c.requires.gathered in
    let f = known.0 in
    froze_there g.B.Parts.collections (book_state g.B.Parts.whole c.args.journal.now f)
    (book_state g.B.Parts.whole c.freeze-frozen.new.self f) c.args.gather.now
    c.freeze-frozen.new.gather c.freeze-frozen.result
    (c.freeze-frozen.ensures.answer f known.1 known.2)

pub returns-clause-froze : goal.returns-clause-froze
returns-clause-froze g c f book gathered =
    let collections = g.B.Parts.collections in
    let b = book_state g.B.Parts.whole c.args.journal.now f in
    let d = book_state g.B.Parts.whole c.freeze-frozen.new.self f in
    let both = froze_then g.D.Disk (told_book collections b) c.args.keeper.now c.args.gather.now
    c.freeze-frozen.new.gather (told_book collections d) c.freeze-frozen.result
    c.hold_frozen.result c.hold_frozen.new.keeper c.hold_frozen.new.gather
    (freeze_told collections b d c.args.gather.now c.freeze-frozen.new.gather
    c.freeze-frozen.result (c.freeze-frozen.ensures.answer f book gathered))
    c.hold_frozen.ensures.answer c.hold_frozen.ensures.crash in
    (c.freeze-frozen.result, c.freeze-frozen.new.gather, both.0, both.1)
