-- A turn of the committer: a block is handed over, and one is brought to the disk.
use Rattle.std.specs.Prelude.{◌≡◌, Bool, ◌++◌, Result}
use Rattle.std.specs.Result.{result_err}
use Rattle.calls.specs.declared.refusal.Refusal.{Refusal}
use Rattle.checkpoint.specs.declared.turn.Turn.{Turn}
use Rattle.engine.specs.Rooms.{told}
use Rattle.world.specs.declared.step.Step.{Step}
use Rattle.world.specs.declared.step.Answer.{Answer}
use Rattle.world.specs.Pasts.{Past}
use Rattle.talks.specs.Plays.{Tries}

-- A block is handed over, or not, and then the keeper takes its turn, of which this is told.
abbrev pub Turns : Result Turn Refusal → Past → Type 0
Turns r steps = (cut : Result Bool Refusal) × (turned : Result Turn Refusal) ×
    (first last : Past) × Tries Step.Cut Answer.Cut cut first ×
    Tries Step.Turn Answer.Turned turned last × (r ≡ told (result_err cut) turned) ×
    (steps ≡ first ++ last)
