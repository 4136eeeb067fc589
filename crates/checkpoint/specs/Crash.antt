-- What a stop leaves of the transactions that were committed.
use Rattle.std.specs.Prelude.{ℕ, List, take}
use mathlib.Core.List.{IsPrefix}
use Rattle.calls.specs.Contents.{Collection}
use Rattle.calls.specs.Transactions.{Transaction, Serial, committed}
use Rattle.records.specs.declared.record.Record.{Record}
use Rattle.records.specs.Acts.{acts_of}
use Rattle.replay.specs.Journals.{StandsFor}
use Rattle.replay.specs.Reading.{IsSound}

-- The transactions that the records commit, in the order of their commits.
abbrev pub committed_of : List Record → List Transaction
committed_of records = committed (acts_of records)

-- The bytes are sound, and stand for a content that some beginning of the transactions gives, each
-- run whole, one after another, with the replies that its client got; and that beginning holds the
-- transactions that are known.
pub record Yields (start : List Collection) (transactions known : List Transaction)
    (bytes : List ℕ) : Type 0 where
  pub sound : IsSound bytes
  pub content : List Collection
  pub stands : StandsFor bytes content
  pub kept : List Transaction
  pub begins : IsPrefix kept transactions
  pub holds : IsPrefix known kept
  pub serial : Serial kept start content

-- The bytes yield what the records commit, and hold the first so many transactions of that.
abbrev pub YieldsUpTo : List Collection → List Record → ℕ → List ℕ → Type 0
YieldsUpTo start records count bytes =
    Yields start (committed_of records) (take count (committed_of records)) bytes
