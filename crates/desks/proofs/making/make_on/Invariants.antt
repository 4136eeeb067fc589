use Rattle.std.proofs.Common.{Some}
use Rattle.txn.specs.declared.actions.Action.{Action}
use Rattle.desks.specs.Seen.{step_of}
use Rattle.desks.proofs.making.make_on.Given as goal

-- the touch of the step, with what it left on the shelf
abbrev pub ghosts-note_touch : goal.ghosts-note_touch
ghosts-note_touch g a = record {
  touch = record {
    step = Some (step_of a.parts.now.0.now.number
        (Action.Make a.parts.now.1.now a.parts.now.2 a.parts.now.3.now));
    left = Some a.left.now;
  };
}
