-- Records that are packed into blocks.
use Rattle.std.specs.Prelude.{◌≡◌, ℕ, List, [], ◌∷◌, ◌++◌, Option}
use Rattle.std.specs.List.{flat_map}
use Rattle.std.specs.declared.vec.Vec.{Vec}
use Rattle.std.specs.declared.alloc.Global.{Global}
use Rattle.calls.specs.declared.kind.Kind.{Kind}
use Rattle.gate_block.specs.Row.{IsBlockOf}
use Rattle.records.specs.declared.record.Record.{Record}
use Rattle.records.specs.Records.{spelling, AreRecords}

-- the records of the blocks, one block after another
abbrev pub joined : List (List Record) → List Record
joined groups = flat_map (λ g. g) groups

-- Records that may stand anywhere, and of which P holds, come behind the others.
pub record Writes (before after : List Record) (P : List Record → Type 0) : Type 0 where
  pub written : List Record
  pub are : after ≡ before ++ written
  pub good : (last : Option Kind) → AreRecords last written
  pub is : P written

-- Each block is the whole one of its records.
abbrev pub AreWhole : List (Vec ℕ Global) → List (List Record) → Type 0
AreWhole [] [] = Unit {0}
AreWhole (b ∷ bs) (g ∷ gs) = IsBlockOf (spelling g) b.items × AreWhole bs gs
AreWhole bs gs = ⊥
