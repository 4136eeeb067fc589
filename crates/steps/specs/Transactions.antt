-- Transactions that run whole, from one content to another.
use Rattle.std.specs.Prelude.{ℕ}
use Rattle.calls.specs.Transactions.{Transaction, RunsWholeBy}
use Rattle.steps.specs.Machine.{Does}
use Rattle.boosted.specs.Meaning.{Meaning}
use Rattle.catalog.specs.Making.{Making}

-- The transaction runs whole as the calls mean it, and the making.
abbrev pub RunsWhole : {S : Type 0} → Meaning S ℕ → Making S → S → Transaction → S → Type 0
RunsWhole meaning making s x t = RunsWholeBy (Does meaning) making.makes s x t
