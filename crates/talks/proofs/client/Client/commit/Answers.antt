use Rattle.std.proofs.lemmas.Result.{err_from_is_err_and}
use Rattle.talks.proofs.ClientLemmas.{commit_not_entered, commit_asked}
use Rattle.std.proofs.Common.{Ok, Err}
use Rattle.talks.proofs.client.Client.commit.Goals as goal

pub returns-in_err-number : goal.returns-in_err-number
returns-in_err-number g c =
    let p = err_from_is_err_and c.from_residual.result c.from_residual.ensures.1 in
    rw (p.1, p.2) (commit_not_entered g.D.Disk c.args.self.now c.args.world.now _ _
    c.in_err-number.field-0.0 c.in_err-number.ensures)

pub returns-in_err-place : goal.returns-in_err-place
returns-in_err-place g c =
    let p = err_from_is_err_and c.from_residual-in_err-place.result
    c.from_residual-in_err-place.ensures.1 in
    rw (p.1, p.2) (commit_asked g.D.Disk c.args.self.now c.args.world.now _ _ c.in_ok-number.number
    (Err c.in_err-place.field-0.0) _ c.in_ok-number.ensures c.in_err-place.ensures)

pub returns : goal.returns
returns g c = commit_asked g.D.Disk c.args.self.now c.args.world.now _ _ c.in_ok-number.number
    (Ok c.in_ok-place.place) _ c.in_ok-number.ensures c.in_ok-place.ensures
