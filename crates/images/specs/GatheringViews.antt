-- A gathering as contracts see it, from its parts.
use Rattle.std.specs.Prelude.{ℕ, Bool, List}
use Rattle.images.specs.declared.effect.Effect.{Effect}
use Rattle.images.specs.Gatherings.{GatheringState}

abbrev pub gathering_of : (begun : ℕ) → (going : Bool) → List Effect → GatheringState
gathering_of begun going effects = record { begun = begun; going = going; effects = effects }
