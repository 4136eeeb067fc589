use Rattle.std.proofs.lemmas.Result.{err_from_is_err_and}
use Rattle.boost.proofs.commands.stored_run.demo_disk.Goals as goal

pub returns-in_err-format : goal.returns-in_err-format
returns-in_err-format c =
    let p = err_from_is_err_and c.from_residual-in_err-format.result
    c.from_residual-in_err-format.ensures.1 in
    rw (p.1, p.2) (record { empty = tt; at_rest = tt; why = tt })
