-- The index of the live numbers.
use Rattle.std.specs.Prelude.{ℕ, ◌<◌, ◌≤◌, ◌↔◌, List, [], ◌∷◌, All, Contains, length, take, drop}
use Rattle.slab.specs.Slab.{Slab}
use Rattle.undo_log.specs.declared.live.Transaction.{Transaction}
use Rattle.undo_log.specs.declared.live.Handle.{Handle}
use Rattle.undo_log.specs.Logs.{IsSlotOf}

-- Each handle has a lesser number than all that follow it.
abbrev pub AreRising : List Handle → Type 0
AreRising [] = Unit {0}
AreRising (s ∷ rest) = All (λ t. s.number < t.number) rest × AreRising rest

-- The index rises by number, and a number and a slot stand in it exactly where the slot has the
-- number.
pub record IsIndex (slots : Slab Transaction) (index : List Handle) : Type 0 where
  pub rising : AreRising index
  pub handles : (s : Handle) → Contains index s ↔ IsSlotOf slots s.number s.slot

-- The number would stand at place i: lesser ones before it, and greater ones from it on.
pub record IsGapFor (n : ℕ) (index : List Handle) (i : ℕ) : Type 0 where
  pub within : i ≤ length index
  pub lesser : All (λ s. s.number < n) (take i index)
  pub greater : All (λ s. n < s.number) (drop i index)
