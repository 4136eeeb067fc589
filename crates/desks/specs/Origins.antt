-- What a store was opened with.
use Rattle.std.specs.Prelude.{ℕ, List}
use Rattle.calls.specs.Contents.{Collection}
use Rattle.calls.specs.declared.format.Format.{Format}

-- what the opened book held, the format of its store, its wear and its next number
pub record Origin : Type 0 where
  pub start : List Collection
  pub format : Format
  pub wear : ℕ
  pub next : ℕ
