use Rattle.txn.specs.declared.actions.Action.{Action}
use Rattle.desks.specs.Notes.{alone}
use Rattle.store.proofs.gatherer.gather_part.Given as goal

-- what is gathered then
abbrev pub ghosts-agree : goal.ghosts-agree
ghosts-agree g a = record { gather = a.gather.now.value }

-- the step that was taken
abbrev pub ghosts-note_alone : goal.ghosts-note_alone
ghosts-note_alone g a = record { step = alone (Action.Gather a.parts.now) }
