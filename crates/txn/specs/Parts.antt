-- Shelves that nobody holds a need on, and a copy of the next collection, which a gathering of a
-- book in parts is given.
use Rattle.std.specs.Prelude.{◌≡◌, ℕ, ◌≤◌, List, [], Option, Some, None, length, slice_get, Result}
use Rattle.std.specs.Prelude.{IfOk, IfErr, Bool, OnOk}
use Rattle.calls.specs.declared.refusal.Refusal.{Refusal}
use Rattle.calls.specs.Contents.{Content, Collection}
use Rattle.boosted.specs.Meaning.{Meaning}
use Rattle.catalog.specs.declared.four.Four.{Four}
use Rattle.catalog.specs.Fours.{which_of, pick}
use Rattle.catalog.specs.Making.{Making}
use Rattle.catalog.specs.Woven.{Label}
use Rattle.steps.specs.Shelves.{ShelfState}
use Rattle.images.specs.Gathers.{GatherState}
use Rattle.images.specs.Gatherings.{CanGoOn, GoesAlong}
use Rattle.txn.specs.Books.{lsn}
use Rattle.txn.specs.Freezing.{IsGatheredOf, BookGathers}
use Rattle.txn.specs.Shelved.{JournalState, book_state, IsBook}

-- shelves with no need held on them
abbrev pub at_rest : {T : Type 0} → Four T → Four (ShelfState T)
at_rest f = record {
  first = record { now = f.first; holds = [] };
  second = record { now = f.second; holds = [] };
  third = record { now = f.third; holds = [] };
  fourth = record { now = f.fourth; holds = [] };
}

-- labels: the names with their kinds. holds: what a shelf holds at a number. collection: what a
-- part is a copy of.
module _ {N T P : Type 0} (labels : N → List Label) (holds : T → ℕ → Content → Type 0)
    (collection : P → Collection) where
  -- The part is a copy of the collection of the number; none is where no collection has it.
  abbrev pub IsCopy : N → Four (ShelfState T) → ℕ → Option P → Type 0
  IsCopy names f at None = length (labels names) ≤ at
  IsCopy names f at (Some part) = (x : Label) × (slice_get (labels names) at ≡ Some x) ×
      ((collection part).name ≡ x.name) ×
      holds (pick f (which_of at)).now at (collection part).content

  module _ {S : Type 0} (meaning : Meaning S ℕ) (making : Making S)
      (collections : S → List Collection) (whole : N → Four T → S) (fits : N → Four T → Type 0)
    where
      -- It is gathered of this book. Where it may be gone on with, the part is a copy of the next
      -- collection, or there was no memory for one.
      pub record IsGivenNext (j : JournalState N) (f : Four (ShelfState T)) (g : GatherState)
          (part : Result (Option P) Refusal) : Type 0 where
        pub book : IsBook meaning making collections whole fits j f
        pub gathered : IsGatheredOf collections (book_state whole j f) g
        pub copied : CanGoOn j.gathering g → IfOk part (IsCopy j.names f (length g.parts))
        pub refused : IfErr part (λ e. e ≡ Refusal.NoMemory)

      -- What is gathered is gone on with as a book's is, and goes along with the book.
      pub record GathersOn (j : JournalState N) (f : Four (ShelfState T)) (g : GatherState)
          (result : Result Bool Refusal) (k : JournalState N) (h : GatherState) : Type 0 where
        pub answer : BookGathers collections (book_state whole j f) g result (book_state whole k f)
            h
        pub along : OnOk result (GoesAlong collections k.gathering (book_state whole k f).state.now
            (lsn (book_state whole k f)) h)
        pub kept : IsBook meaning making collections whole fits k f
