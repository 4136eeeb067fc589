use Rattle.txn.specs.declared.actions.Action.{Action}
use Rattle.desks.specs.Seen.{step_of}
use Rattle.desks.proofs.desk.Desk.find_newest.Given as goal

-- the step that was taken
abbrev pub ghosts-note : goal.ghosts-note
ghosts-note g a = record {
  step = step_of a.me.now.number (Action.Back a.parts.now.0 a.parts.now.1.now);
}
