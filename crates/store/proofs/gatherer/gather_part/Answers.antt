use Rattle.std.proofs.Common.{ap, ◌∙◌}
use Rattle.images.specs.Gathers.{GatherState}
use Rattle.group_commit.specs.Accords.{AccordState}
use Rattle.txn.specs.Shelved.{book_state}
use Rattle.store.proofs.Copied.{given_next, still, gathered_on, gather_refused}
use Rattle.store.proofs.gatherer.gather_part.Goals as goal

-- what is gone on with is of the book,
pub gather-copied-requires : goal.gather-copied-requires
gather-copied-requires g c = let given = c.requires.given in record {
  next = (
    given.2.desk.shelves,
    given_next g.J.Naming c.args.journal.now given.0 c.args.seat.now given.1 c.args.near.now
        c.args.far.now c.args.gather.now c.args.part given.2 c.compare.ensures.same
        c.requires.known c.requires.unfrozen,
  );
}

-- and so the journal is still of the store
pub returns-clause-desk : goal.returns-clause-desk
returns-clause-desk g c nears sender given =
    let k = c.args.journal.now in
    let on = c.gather-copied.ensures given.desk.shelves (given_next g.J.Naming k nears
    c.args.seat.now sender c.args.near.now c.args.far.now c.args.gather.now c.args.part given
    c.compare.ensures.same c.requires.known c.requires.unfrozen) in
    gathered_on g.J.Naming k nears c.args.seat.now sender c.args.near.now c.args.far.now
    c.args.gather.now c.args.part given c.compare.ensures.same c.requires.known
    c.requires.unfrozen c.gather-copied.result c.gather-copied.new.self
    c.gather-copied.new.gather on c.note_alone.new.seat c.agree.new.near c.note_alone.ensures.book
    (c.agree.ensures.near ∙
    ap (λ (v : GatherState). record { table = c.compare.new.near.table; gather = v })
    c.of.ensures ∙ ap (λ (a : AccordState). record {
      table = a.table;
      gather = c.gather-copied.new.gather;
    }) c.compare.ensures.near)

pub returns-clause-unfrozen : goal.returns-clause-unfrozen
returns-clause-unfrozen g c =
    let k = c.args.journal.now in
    let given = c.requires.given in
    let on = c.gather-copied.ensures given.2.desk.shelves (given_next g.J.Naming k given.0
    c.args.seat.now given.1 c.args.near.now c.args.far.now c.args.gather.now c.args.part given.2
    c.compare.ensures.same c.requires.known c.requires.unfrozen) in
    (still g.J.Naming k given.0 c.args.seat.now given.1 c.args.near.now c.args.far.now
    c.args.gather.now c.args.part given.2 c.compare.ensures.same c.requires.known
    c.requires.unfrozen c.gather-copied.result c.gather-copied.new.self
    c.gather-copied.new.gather on).1

pub returns-clause-refused : goal.returns-clause-refused
returns-clause-refused g c =
    let k = c.args.journal.now in
    let given = c.requires.given in
    let f = given.2.desk.shelves in
    let on = c.gather-copied.ensures f (given_next g.J.Naming k given.0 c.args.seat.now given.1
    c.args.near.now c.args.far.now c.args.gather.now c.args.part given.2 c.compare.ensures.same
    c.requires.known c.requires.unfrozen) in
    gather_refused g.B.Parts.collections (book_state g.B.Parts.whole k f)
    (book_state g.B.Parts.whole c.gather-copied.new.self f) c.args.gather.now
    c.gather-copied.new.gather c.gather-copied.result on.answer
