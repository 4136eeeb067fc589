use Rattle.txn.specs.declared.actions.Action.{Action}
use Rattle.desks.specs.Notes.{alone}
use Rattle.store.proofs.gatherer.freeze.Given as goal

-- the step that was taken
abbrev pub ghosts-note_alone : goal.ghosts-note_alone
ghosts-note_alone g a = record { step = alone (Action.Freeze a.parts.now) }

-- what is frozen
abbrev pub ghosts-note_frozen : goal.ghosts-note_frozen
ghosts-note_frozen g a = record { gather = a.gather.now.value }

abbrev pub ghosts-agree : goal.ghosts-agree
ghosts-agree g a = record { gather = a.gather.now.value }
