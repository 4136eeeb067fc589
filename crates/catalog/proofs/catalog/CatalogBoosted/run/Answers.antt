use Rattle.std.proofs.lemmas.Result.{on_ok_weaker, on_err_weaker}
use Rattle.catalog.proofs.Whole.{answers_shelf, room_shelf, whole_left, whole_same, fits_left}
use Rattle.catalog.proofs.Whole.{fits_same, either_way}
use Rattle.catalog.proofs.catalog.CatalogBoosted.run.Goals as goal

pub run-requires-clause-can : goal.run-requires-clause-can
run-requires-clause-can c = answers_shelf c.self.inside.names c.self.inside.shelves
    c.self.invariant c.args.self.now c.self.view_is c.args.at c.of_mut.result.now
    c.of_mut.ensures.value c.args.call.now c.args.reply.now c.requires.can

pub run-requires-clause-room : goal.run-requires-clause-room
run-requires-clause-room c = room_shelf c.self.inside.names c.self.inside.shelves
    c.self.invariant c.args.self.now c.self.view_is c.args.at c.of_mut.result.now
    c.of_mut.ensures.value c.requires.room

pub invariant_of-self : goal.invariant_of-self
invariant_of-self c =
    let can = answers_shelf c.self.inside.names c.self.inside.shelves c.self.invariant
    c.args.self.now c.self.view_is c.args.at c.of_mut.result.now c.of_mut.ensures.value
    c.args.call.now c.args.reply.now c.requires.can in
    either_way c.run.result c.run.ensures.ok c.run.ensures.err
    (fits_left c.self.inside.names c.self.inside.shelves c.self.invariant c.args.self.now
    c.self.view_is c.args.at c.of_mut.result.now c.of_mut.ensures.value c.run.new.self
    c.args.call.now c.args.reply.now can)
    (fits_same c.self.inside.names c.self.inside.shelves c.self.invariant c.args.self.now
    c.self.view_is c.args.at c.of_mut.result.now c.of_mut.ensures.value c.run.new.self)

pub returns-clause-ok : goal.returns-clause-ok
returns-clause-ok c =
    on_ok_weaker c.run.result
    (whole_left c.self.inside.names c.self.inside.shelves c.self.invariant c.args.self.now
    c.self.view_is c.args.at c.of_mut.result.now c.of_mut.ensures.value c.run.new.self
    c.args.call.now c.args.reply.now
    (answers_shelf c.self.inside.names c.self.inside.shelves c.self.invariant
    c.args.self.now c.self.view_is c.args.at c.of_mut.result.now c.of_mut.ensures.value
    c.args.call.now c.args.reply.now c.requires.can))
    c.run.ensures.ok

pub returns-clause-err : goal.returns-clause-err
returns-clause-err c =
    on_err_weaker c.run.result
    (whole_same c.self.inside.names c.self.inside.shelves c.self.invariant c.args.self.now
    c.self.view_is c.args.at c.of_mut.result.now c.of_mut.ensures.value c.run.new.self)
    c.run.ensures.err
