use Rattle.std.proofs.Common.{Some}
use Rattle.txn.specs.declared.actions.Action.{Action}
use Rattle.txn.specs.declared.actions.Target.{Target}
use Rattle.desks.specs.Seen.{step_of}
use Rattle.desks.proofs.desk.Desk.ask.Given as goal

-- the touch of the step, with what it left on the shelf
abbrev pub ghosts-note_touch : goal.ghosts-note_touch
ghosts-note_touch g a = record {
  touch = record {
    step = Some (step_of a.parts.now.0.now.number (Action.Ask a.parts.now.1.now.0
        (Target.Named a.parts.now.1.now.1.now (Some a.parts.now.1.now.2)) a.parts.now.1.now.3.now
        a.parts.now.1.now.4 a.parts.now.1.now.5.now));
    left = Some a.left.now;
  };
}

-- the step that was taken
abbrev pub ghosts-note : goal.ghosts-note
ghosts-note g a = record {
  step = step_of a.me.now.number (Action.Ask a.parts.now.0
      (Target.Named a.parts.now.1.now (Some a.parts.now.2)) a.parts.now.3.now a.parts.now.4
      a.parts.now.5.now);
}
