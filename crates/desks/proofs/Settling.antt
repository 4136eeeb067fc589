-- Ends of transactions that are refused, as the journal tells and as the book does.
use Rattle.std.proofs.Common.{◌≡◌, ℕ, List, Result, Err}
use Rattle.calls.specs.Contents.{Collection}
use Rattle.calls.specs.declared.refusal.Refusal.{Refusal}
use Rattle.boosted.specs.Meaning.{Meaning}
use Rattle.catalog.specs.declared.four.Four.{Four}
use Rattle.catalog.specs.Making.{Making}
use Rattle.steps.specs.Shelves.{ShelfState}
use Rattle.txn.specs.declared.actions.Action.{Action}
use Rattle.txn.specs.Books.{standing, Takes}
use Rattle.txn.specs.Rows.{CommitRefused, EndedRefused}
use Rattle.txn.specs.Shelved.{JournalState, book_state, standing_of, Serves}
use Rattle.txn.proofs.JournalSteps.{runs_whole}
use Rattle.group_commit.specs.Twins.{EndState}
use Rattle.desks.specs.declared.naming.Naming.{Ghosts}
use Rattle.desks.specs.declared.touch.Touch.{Touch}
use Rattle.desks.specs.Touches.{LeadsKnown}

module _ {S T N : Type 0} (whole : N → Four T → S) (j : JournalState N) (f : Four (ShelfState T))
    (n : ℕ) where
  pub commit_refused : (e : Refusal) → CommitRefused (standing_of j) n e →
      CommitRefused (standing (book_state whole j f)) n e
  commit_refused Refusal.NoSuchTxn is = is
  commit_refused Refusal.Falling is = is
  commit_refused Refusal.Backlog is = (runs_whole whole j f n is.0, is.1)
  commit_refused Refusal.NoMemory is = (runs_whole whole j f n is.0, is.1)
  commit_refused e is = absurd is.1

  pub ended_refused : (e : Refusal) → EndedRefused (standing_of j) n e →
      EndedRefused (standing (book_state whole j f)) n e
  ended_refused Refusal.NoSuchTxn is = is
  ended_refused Refusal.Unfinished is = is
  ended_refused Refusal.Backlog is = is
  ended_refused Refusal.NoMemory is = is
  ended_refused e is = absurd is.2

-- A refused step leaves what the ends know.
pub refused_known : {S T N J : Type 0} (g : Ghosts J) (meaning : Meaning S ℕ) (making : Making S)
    (collections : S → List Collection) (whole : N → Four T → S) (fits : N → Four T → Type 0)
    {R : Type 0} (action : Result R Refusal → Action) (r : Result R Refusal) (d e : Refusal)
    (j k : JournalState N) (nears : Four (EndState (Touch (ShelfState T)))) → r ≡ Err d → d ≡ e →
    k ≡ j →
    ((f : Four (ShelfState T)) → let b = book_state whole j f in
    Takes meaning making b (action (Err e)) b) →
    LeadsKnown g meaning making collections whole fits
    (λ b c. Serves meaning making collections action r b c) j nears k nears
refused_known g meaning making collections whole fits action r d e j k nears is because same takes
    f known =
    rw (is, because, same) (
      f,
      known,
      record { answer = takes f; settles = λ d v. v; goes = tt; notes = tt },
    )
