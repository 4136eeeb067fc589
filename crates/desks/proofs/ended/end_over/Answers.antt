use Rattle.std.proofs.Common.{refl}
use Rattle.std.proofs.lemmas.Result.{err_from_is_err_and}
use Rattle.txn.specs.declared.actions.Action.{Action}
use Rattle.txn.proofs.JournalEnds.{ended_book}
use Rattle.desks.proofs.Settling.{ended_refused, refused_known}
use Rattle.desks.proofs.ended.end_over.Goals as goal

pub prepare_end-requires : goal.prepare_end-requires
prepare_end-requires g c = record { kept = (c.requires.known.0, c.requires.known.1.book) }

pub give_up_all-requires-clause-tables : goal.give_up_all-requires-clause-tables
give_up_all-requires-clause-tables g c = c.requires.known.1.tables

pub returns : goal.returns
returns g c f known =
    let told = c.in_ok-prepare_end.ensures in
    let settled = c.give_up_all.ensures.settled f known.leads in
    let done = ended_book g.met.B.Boosted.laws g.met.B.Parts.laws g.met.B.Coded.told
    g.met.B.Parts.shelf_laws c.args.journal.now c.prepare_end.new.self c.finish.new.self
    c.args.handle.number 0 f settled.0 known.book told.transactions told.names c.finish.ensures
    told.live
    told.undone told.written told.noted refl settled.2 in (
      settled.0,
      record { tables = c.give_up_all.ensures.tables; leads = settled.1; book = done.0 },
      done.1,
    )

pub returns-in_err-prepare_end : goal.returns-in_err-prepare_end
returns-in_err-prepare_end g c =
    let told = c.in_err-prepare_end.ensures in
    let p = err_from_is_err_and c.from_residual.result c.from_residual.ensures.1 in
    refused_known g.J.Naming g.B.Boosted.meaning g.B.Parts.making g.B.Parts.collections
    g.B.Parts.whole g.B.Parts.fits (Action.Ended c.args.handle.number) c.from_residual.result p.0
    c.in_err-prepare_end.field-0.0 c.args.journal.now c.prepare_end.new.self c.args.nears.now p.1
    p.2 told.same
    (λ f. (
      refl,
      ended_refused g.B.Parts.whole c.args.journal.now f c.args.handle.number _
          told.err,
    ))
