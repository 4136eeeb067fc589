-- A step on one shelf, or beside all, is a step of the book that has them.
use Rattle.std.proofs.Common.{◌≡◌, ◌∙◌, ℕ, List, sym, ap, subst}
use Rattle.calls.specs.Contents.{Collection}
use Rattle.boosted.specs.Meaning.{Meaning}
use Rattle.catalog.specs.declared.four.Four.{Four}
use Rattle.catalog.specs.Fours.{Which, pick, put}
use Rattle.catalog.specs.Laws.Numbers.{put_pick}
use Rattle.catalog.specs.Making.{Making}
use Rattle.steps.specs.Shelves.{ShelfState}
use Rattle.txn.specs.Books.{BookState}
use Rattle.txn.specs.Shelved.{JournalState, book_state, IsBook, IsOfBook, LeadsOn}

module _ {S T N : Type 0} {meaning : Meaning S ℕ} {making : Making S}
    {collections : S → List Collection} {whole : N → Four T → S} {fits : N → Four T → Type 0}
    (w : Which) (j : JournalState N) (f : Four (ShelfState T))
    (is : IsBook meaning making collections whole fits j f) (s : ShelfState T)
    (here : s ≡ pick f w) where
  same : put f w s ≡ f
  same = ap (put f w) here ∙ put_pick f w

  again : IsBook meaning making collections whole fits j (put f w s)
  again = subst (IsBook meaning making collections whole fits j) (sym same) is

  -- Each of its shelves is of it.
  pub of_book : IsOfBook meaning making collections whole fits w j s
  of_book = (f, again)

  module _ {Told : BookState S → BookState S → Type 0} (k : JournalState N) (t : ShelfState T)
      (leads : LeadsOn meaning making collections whole fits Told w j s k t) where
    pub book_told : Told (book_state whole j f) (book_state whole k (put f w t))
    book_told = subst (λ g. Told (book_state whole j g) (book_state whole k (put f w t))) same
        (leads.told f again)

    pub book_kept : IsBook meaning making collections whole fits k (put f w t)
    book_kept = leads.kept f again
