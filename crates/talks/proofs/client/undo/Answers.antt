use Rattle.std.proofs.lemmas.Result.{err_from_is_err_and}
use Rattle.talks.proofs.ClientLemmas.{end_not_undone, end_asked}
use Rattle.talks.proofs.client.undo.Goals as goal

pub returns-in_err-undo_all : goal.returns-in_err-undo_all
returns-in_err-undo_all g c =
    let p = err_from_is_err_and c.from_residual.result c.from_residual.ensures.1 in
    rw (p.1, p.2) (end_not_undone g.D.Disk c.args.number c.args.world.now _
    c.in_err-undo_all.field-0.0 c.in_err-undo_all.ensures)

pub returns : goal.returns
returns g c = end_asked g.D.Disk c.args.number c.args.world.now _ c.ended.result c.ended.new.self
    c.in_ok-undo_all.ensures c.ended.ensures
