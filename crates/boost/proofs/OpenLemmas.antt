-- What is known of a store that was opened is known of the world of its player.
use Rattle.std.proofs.Common.{◌≡◌, ℕ, List, [], sym, ◌∙◌, ap, subst}
use Rattle.calls.specs.Contents.{Collection}
use Rattle.checkpoint.specs.Keepers.{KeeperState}
use Rattle.disk_model.specs.Disk.{IsAtRest}
use Rattle.disk_model.specs.declared.disk.Disk.{Ghosts}
use Rattle.recovery.specs.Openings.{IsOpened, IsReadyStore, KeepsContent}
use Rattle.world.specs.Moves.{Whole}
use Rattle.txn.specs.Books.{NamedBook}
use Rattle.world.specs.Worlds.{HasPast}
use Rattle.world.specs.OneStep.{parts}

module _ {D : Type 0} (g : Ghosts D) (w v : Whole D) (same : w ≡ v) (k : KeeperState D)
    (is : v.keeper ≡ k) (old : D) where
  disk_is : w.keeper.disk ≡ k.disk
  disk_is = ap (λ (x : Whole D). x.keeper.disk) same ∙ ap (λ (x : KeeperState D). x.disk) is

  -- the book and the keeper are those that the opening answered
  pub opened_parts : (book : NamedBook) → v.book ≡ book →
      (g.is_honest k.disk → IsOpened (g.seen old) book k.area (g.seen k.disk)) →
      g.is_honest w.keeper.disk → IsOpened (g.seen old) w.book w.keeper.area (g.seen w.keeper.disk)
  opened_parts book book_is opened honest =
      subst (λ (x : Whole D). IsOpened (g.seen old) x.book x.keeper.area (g.seen x.keeper.disk))
      (sym same)
      (subst (λ b. IsOpened (g.seen old) b v.keeper.area (g.seen v.keeper.disk)) (sym book_is)
      (subst (λ (x : KeeperState D). IsOpened (g.seen old) book x.area (g.seen x.disk)) (sym is)
      (opened (subst g.is_honest disk_is honest))))

  -- numbers are drawn from the book's next one on
  pub opened_numbers : (book : NamedBook) → v.book ≡ book → v.next ≡ book.next →
      w.next ≡ w.book.next
  opened_numbers book book_is next_is =
      subst (λ (x : Whole D). x.next ≡ x.book.next) (sym same)
      (subst (λ (b : NamedBook). v.next ≡ b.next) (sym book_is) next_is)

  pub opened_past : (book : NamedBook) (content : List Collection) →
      (g.is_honest k.disk → IsOpened (g.seen old) book k.area (g.seen k.disk)) →
      (g.is_honest k.disk → IsAtRest g.seen g.may_leave old →
      IsReadyStore g.seen g.may_leave (g.seen old) book k.area k.disk)
      → (g.is_honest k.disk → book.state.now ≡ content) →
      ((bytes : List ℕ) → IsOpened bytes book k.area (g.seen k.disk) →
      IsReadyStore g.seen g.may_leave bytes book k.area k.disk →
      HasPast g.seen g.may_leave book.state.now [] (parts v))
      → IsAtRest g.seen g.may_leave old → g.is_honest w.keeper.disk →
      HasPast g.seen g.may_leave content [] (parts w)
  opened_past book content opened ready content_is past rest honest =
      let read_true : g.is_honest k.disk = subst g.is_honest disk_is honest in
      subst (λ x. HasPast g.seen g.may_leave content [] (parts x)) (sym same)
      (subst (λ s. HasPast g.seen g.may_leave s [] (parts v)) (content_is read_true)
      (past (g.seen old) (opened read_true) (ready read_true rest)))

  pub opened_keeps : (g.is_honest k.disk →
      KeepsContent g.seen g.may_leave g.moment g.left_since old k.disk) →
      g.is_honest w.keeper.disk → KeepsContent g.seen g.may_leave g.moment g.left_since old
      w.keeper.disk
  opened_keeps keeps honest = subst
      (λ d. KeepsContent g.seen g.may_leave g.moment g.left_since old d) (sym disk_is)
      (keeps (subst g.is_honest disk_is honest))
