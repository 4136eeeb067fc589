-- A commit that is refused leaves what the ends know.
use Rattle.std.proofs.Common.{◌≡◌, ℕ, List, Result, Err, OnOk}
use Rattle.calls.specs.Contents.{Collection}
use Rattle.calls.specs.declared.refusal.Refusal.{Refusal}
use Rattle.boosted.specs.Meaning.{Meaning}
use Rattle.catalog.specs.declared.four.Four.{Four}
use Rattle.catalog.specs.Making.{Making}
use Rattle.steps.specs.Shelves.{ShelfState}
use Rattle.txn.specs.declared.actions.Action.{Action}
use Rattle.txn.specs.Books.{Takes}
use Rattle.txn.specs.Shelved.{JournalState, book_state, IsServed, SettlesWhole}
use Rattle.group_commit.specs.Twins.{EndState}
use Rattle.desks.specs.declared.naming.Naming.{Ghosts}
use Rattle.desks.specs.declared.touch.Touch.{Touch}
use Rattle.desks.specs.Touches.{LeadsKnown}

pub commit_refused_known : {S T N J : Type 0} (g : Ghosts J) (meaning : Meaning S ℕ)
    (making : Making S) (collections : S → List Collection) (whole : N → Four T → S)
    (fits : N → Four T → Type 0) (n : ℕ) (r : Result ℕ Refusal) (d e : Refusal)
    (j k : JournalState N) (nears : Four (EndState (Touch (ShelfState T)))) → r ≡ Err d → d ≡ e →
    k ≡ j →
    ((f : Four (ShelfState T)) → let b = book_state whole j f in
    Takes meaning making b (Action.Commit n (Err e)) b) →
    LeadsKnown g meaning making collections whole fits
    (λ b c. IsServed meaning making collections (Action.Commit n) r
    (OnOk r (SettlesWhole meaning making n b c)) b c) j nears k nears
commit_refused_known g meaning making collections whole fits n r d e j k nears is because same
    takes f known =
    rw (is, because, same) (
      f,
      known,
      record { answer = takes f; settles = tt; goes = tt; notes = tt },
    )
