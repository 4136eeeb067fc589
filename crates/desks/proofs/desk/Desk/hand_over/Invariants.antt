use Rattle.txn.specs.declared.actions.Action.{Action}
use Rattle.desks.specs.Notes.{alone, handed_count}
use Rattle.desks.proofs.desk.Desk.hand_over.Given as goal

-- the step that was taken
abbrev pub ghosts-note_alone : goal.ghosts-note_alone
ghosts-note_alone g a = record {
  step = alone (Action.Cut
      (handed_count a.parts.now.0.now.value.pending a.parts.now.1.now.pending)
      a.parts.now.2.now);
}
