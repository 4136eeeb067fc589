-- Modes in their order, and some of them together.
use Rattle.std.specs.Prelude.{ℕ, IsTrue}
use Rattle.calls.specs.declared.need.Mode.{Mode}
use Rattle.calls.specs.declared.modes.Modes.{Modes}

-- where the mode stands among the others
abbrev pub rank : Mode → ℕ
rank Mode.Read = 0
rank Mode.Write = 1
rank Mode.Add = 2
rank Mode.Take = 3
rank Mode.Give = 4

-- The mode is one of them.
abbrev pub Has : Modes → Mode → Type 0
Has ms Mode.Read = IsTrue ms.reads
Has ms Mode.Write = IsTrue ms.writes
Has ms Mode.Add = IsTrue ms.adds
Has ms Mode.Take = IsTrue ms.takes
Has ms Mode.Give = IsTrue ms.gives
