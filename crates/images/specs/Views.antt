-- What is gathered as contracts see it, from its parts.
use Rattle.std.specs.Prelude.{ℕ, List, map, Option}
use Rattle.std.specs.Option.{option_map}
use Rattle.calls.specs.Contents.{Collection}
use Rattle.images.specs.declared.effect.Effect.{Effect}
use Rattle.images.specs.declared.stamped.Stamped.{Stamped}
use Rattle.images.specs.declared.gather.Frozen.{Frozen}
use Rattle.images.specs.Gathers.{CopyState, FrozenState, GatherState}

-- a copy of a collection
abbrev pub copy_of : {P : Type 0} → (P → Collection) → Stamped P → CopyState
copy_of collection s = record { collection = collection s.part; stamp = s.stamp }

-- copies of collections
abbrev pub copies_of : {P : Type 0} → (P → Collection) → List (Stamped P) → List CopyState
copies_of collection parts = map (copy_of collection) parts

-- what a freeze noted
abbrev pub frozen_of : Frozen → FrozenState
frozen_of f = record { image_head = f.image_head; live = f.live.items }

-- all that is gathered
abbrev pub gather_of : {P : Type 0} → (P → Collection) → ℕ → List (Stamped P) → List Effect →
    Option Frozen → GatherState
gather_of collection mark parts effects frozen = record {
  mark = mark;
  parts = copies_of collection parts;
  effects = effects;
  frozen = option_map frozen_of frozen;
}
