-- Steps that are taken one after another.
use Rattle.std.proofs.Common.{[], ◌∷◌, ◌++◌, Result, refl}
use Rattle.calls.specs.declared.refusal.Refusal.{Refusal}
use Rattle.disk_model.specs.declared.disk.Disk.{Ghosts}
use Rattle.replay.proofs.Lists.{leads_append}
use Rattle.world.specs.declared.step.Step.{Step}
use Rattle.world.specs.declared.step.Answer.{Answer}
use Rattle.world.specs.Pasts.{Past, outcome}
use Rattle.world.specs.Moves.{Whole}
use Rattle.world.specs.OneStep.{TakesStep}
use Rattle.talks.specs.Plays.{Plays, Runs, Tries}

module _ {D : Type 0} (g : Ghosts D) where
  -- one step
  abbrev pub asked : {T : Type 0} (old new : Whole D) (s : Step) (done : T → Answer)
      (r : Result T Refusal) → TakesStep g old (s, outcome done r) new →
      Runs g old (Tries s done r) new
  asked old new s done r taken = ((s, outcome done r) ∷ [], refl, (new, taken, refl))

  -- steps, and then others
  pub plays_append : (old mid new : Whole D) (xs ys : Past) → Plays g old xs mid →
      Plays g mid ys new → Plays g old (xs ++ ys) new
  plays_append old mid new xs ys first second =
      leads_append (TakesStep g) xs ys old mid new first second
