-- The steps that a player takes of a world, each with its answer.
use Rattle.std.specs.Prelude.{◌≡◌, [], ◌∷◌, Result}
use Rattle.calls.specs.Transactions.{Leads}
use Rattle.calls.specs.declared.refusal.Refusal.{Refusal}
use Rattle.disk_model.specs.declared.disk.Disk.{Ghosts}
use Rattle.world.specs.declared.step.Step.{Step}
use Rattle.world.specs.declared.step.Answer.{Answer}
use Rattle.world.specs.Pasts.{Past, outcome}
use Rattle.world.specs.Moves.{Whole}
use Rattle.world.specs.OneStep.{TakesStep}

-- The steps are taken, one after another, each with its answer.
abbrev pub Plays : {D : Type 0} → Ghosts D → Whole D → Past → Whole D → Type 0
Plays g old steps new = Leads (TakesStep g) steps old new

-- steps of which this is said are taken
abbrev pub Runs : {D : Type 0} → Ghosts D → Whole D → (Past → Type 0) → Whole D → Type 0
Runs g old response new = (steps : Past) × response steps × Plays g old steps new

-- only steps are taken
abbrev pub IsPlayed : {D : Type 0} → Ghosts D → Whole D → Whole D → Type 0
IsPlayed g old new = (steps : Past) × Plays g old steps new

-- One step is tried, and has this result.
abbrev pub Tries : {T : Type 0} → Step → (T → Answer) → Result T Refusal → Past → Type 0
Tries s done r steps = steps ≡ (s, outcome done r) ∷ []
