use Rattle.std.proofs.Common.{None, Err}
use Rattle.txn.specs.declared.actions.Action.{Action}
use Rattle.txn.specs.declared.actions.Target.{Target}
use Rattle.desks.specs.Seen.{step_of}
use Rattle.desks.proofs.desk.Desk.find_for_ask.Given as goal

-- the step that was taken
abbrev pub ghosts-note : goal.ghosts-note
ghosts-note g a = record {
  step = step_of a.me.now.number (Action.Ask a.parts.now.0 (Target.Named a.parts.now.1.now None)
      a.parts.now.2.now a.parts.now.3 (Err a.parts.now.4));
}
