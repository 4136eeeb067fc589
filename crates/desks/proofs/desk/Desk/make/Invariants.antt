use Rattle.txn.specs.declared.actions.Action.{Action}
use Rattle.desks.specs.Seen.{step_of}
use Rattle.desks.proofs.desk.Desk.make.Given as goal

-- the step that was taken
abbrev pub ghosts-note : goal.ghosts-note
ghosts-note g a = record {
  step = step_of a.me.now.number
      (Action.Make a.parts.now.0.now a.parts.now.1 a.parts.now.2.now);
}
