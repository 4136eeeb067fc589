-- A step that nobody takes, which stands where a call picks none.
use Rattle.std.specs.Prelude.{None, Ok}
use Rattle.txn.specs.declared.actions.Action.{Action}
use Rattle.txn.specs.declared.actions.BookStep.{BookStep}

abbrev pub no_step : BookStep
no_step = record { client = None; action = Action.Freeze (Ok tt) }
