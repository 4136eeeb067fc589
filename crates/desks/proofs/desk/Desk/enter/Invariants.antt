use Rattle.txn.specs.Shelved.{entered}
use Rattle.txn.specs.declared.actions.Action.{Action}
use Rattle.desks.specs.Seen.{step_of}
use Rattle.desks.proofs.desk.Desk.enter.Given as goal

-- the step that was taken
abbrev pub ghosts-note : goal.ghosts-note
ghosts-note g a = record {
  step = step_of a.me.now.number
      (Action.Enter a.parts.now.0 (entered a.parts.now.1.now));
}
