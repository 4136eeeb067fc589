use Rattle.std.proofs.Common.{◌≡◌, ◌∙◌, ◌⊎◌, None, Ok, Err, refl, sym, subst, ap}
use Rattle.std.proofs.lemmas.Result.{err_from_is_err_and}
use Rattle.atomic_table.specs.Seated.{TableId}
use Rattle.images.specs.Gathers.{GatherState, nothing_gathered}
use Rattle.txn.specs.declared.actions.Action.{Action}
use Rattle.txn.specs.Shelved.{book_state}
use Rattle.checkpoint.specs.Keepers.{KeeperState}
use Rattle.group_commit.specs.Accords.{AccordState}
use Rattle.group_commit.specs.Lines.{stepped}
use Rattle.group_commit.specs.Marks.{KeeperMark}
use Rattle.group_commit.specs.Orders.{SenderState, ReceiverState, noting, noting_too}
use Rattle.desks.specs.Notes.{alone}
use Rattle.desks.specs.Told.{told_book}
use Rattle.desks.specs.Touches.{IsJournalDesk}
use Rattle.desks.proofs.Owning.{drawn_beside}
use Rattle.store.specs.Gatherers.{Froze, left_gathered}
use Rattle.store.specs.Turns.{IsFreezeRefusal, FailsWith, stops_behind}
use Rattle.store.specs.Vaults.{IsVault, Awaits}
use Rattle.store.proofs.Causes.{froze_caused}
use Rattle.store.proofs.VaultSteps.{vault_notes}
use Rattle.store.proofs.Awaiting.{awaits_frozen, froze_not}
use Rattle.store.proofs.Copied.{gathered_there, frozen_on, froze_left, froze_held, froze_refused}
use Rattle.store.proofs.Copied.{froze_some}
use Rattle.store.proofs.Freezes.{desk_kept, freeze_refused, freeze_held}
use Rattle.store.proofs.gatherer.freeze.Given.{Over}
use Rattle.store.proofs.gatherer.freeze.Goals as goal

-- what is gathered is of the book
pub freeze_journal-frozen-requires : goal.freeze_journal-frozen-requires
freeze_journal-frozen-requires g c = let d = c.desk.invariant.0 in let i = c.desk.inside in record {
  gathered = (
    d.shelves,
    d.known.book,
    gathered_there g.J.Naming i.journal i.nears i.seat i.sender i.near d c.args.of_book.now
        c.args.gather.now c.compare.ensures.same c.requires.known c.requires.unfrozen,
  );
}

-- What a freeze leaves that is refused,
refused : (g : Over) (c : goal.After-from_residual g) →
    IsJournalDesk g.J.Naming g.B.Boosted.meaning g.B.Parts.making g.B.Parts.collections
    g.B.Parts.whole g.B.Parts.fits c.freeze_journal-frozen.new.journal c.desk.inside.nears
    c.note_alone.new.seat c.desk.inside.sender c.desk.inside.near
    × IsVault g.J.Naming g.D.Disk c.freeze_journal-frozen.new.keeper c.vault.inside.receiver
    c.failure_told.new.seat c.vault.inside.near
    × Awaits c.freeze_journal-frozen.new.keeper.stage c.vault.inside.near.gather
    × ((c.freeze_journal-frozen.new.gather.frozen ≡ None) ×
    ((c.freeze_journal-frozen.new.gather ≡ c.args.gather.now)
    ⊎ (c.freeze_journal-frozen.new.gather ≡ nothing_gathered)))
    × IsFreezeRefusal c.in_err-frozen.field-0.0
refused g c =
    let i = c.desk.inside in
    let v = c.vault.inside in
    let d = c.desk.invariant.0 in
    let e = c.in_err-frozen.field-0.0 in
    let l = c.freeze_journal-frozen.new.journal in
    let k = c.freeze_journal-frozen.new.keeper in
    let m = c.args.gather.now in
    let b = told_book g.B.Parts.collections (book_state g.B.Parts.whole i.journal d.shelves) in
    let a = told_book g.B.Parts.collections (book_state g.B.Parts.whole l d.shelves) in
    let said = c.freeze_journal-frozen.ensures.froze d.shelves d.known.book
    (gathered_there g.J.Naming
    i.journal i.nears i.seat i.sender i.near d c.args.of_book.now m c.compare.ensures.same
    c.requires.known c.requires.unfrozen) in
    let n = said.1 in
    let froze = subst (λ r. Froze g.D.Disk b v.keeper m said.0 r a k n) c.in_err-frozen.was said.2
    in
    let left = subst (λ r. c.freeze_journal-frozen.new.gather ≡ left_gathered said.0 r n)
    c.in_err-frozen.was said.3 in
    let both = freeze_refused g.J.Naming g.D.Disk b i.seat i.sender i.near d.desk v.keeper
    v.receiver v.mark v.near c.vault.invariant.0 c.compare-2.ensures.order.0
    c.compare-2.ensures.order.1 c.compare-2.ensures.noted
    (desk_kept g.J.Naming g.met.B.Coded.told _
    (book_state g.B.Parts.whole i.journal d.shelves) i.seat i.sender i.near d.desk
    d.known.book.kept)
    m n said.0 e a k c.note_alone.new.seat froze
    (subst (λ r. c.note_alone.new.seat ≡ stepped i.seat (alone (Action.Freeze r)))
    c.in_err-frozen.was c.note_alone.ensures.book) in (
      frozen_on g.J.Naming i.journal i.nears i.seat i.sender i.near d g.D.Disk v.keeper k m n said.0
          (Err e) l c.note_alone.new.seat i.sender i.near froze
          (c.freeze_journal-frozen.ensures.kept d.shelves d.known.book) both.0,
      subst (λ (s : KeeperMark). IsVault g.J.Naming g.D.Disk k v.receiver s v.near)
          (sym c.failure_told.ensures.seat) (vault_notes g.D.Disk g.J.Naming k v.receiver v.mark
          v.near both.1 (stops_behind c.freeze_journal-frozen.result v.mark.stops)
          (froze_caused g.D.Disk b a v.keeper k m n said.0 c.freeze_journal-frozen.result said.2
          v.mark.stops c.vault.invariant.0.caused)),
      subst (λ (k : KeeperState _). Awaits k.stage v.near.gather)
          (sym (froze_not g.D.Disk b v.keeper m n said.0 e a k froze)) c.vault.invariant.1,
      froze_left g.D.Disk b a v.keeper k m n c.freeze_journal-frozen.new.gather said.0 e froze
          c.requires.unfrozen left,
      froze_refused g.D.Disk b a v.keeper k m n said.0 e froze,
    )

pub returns-in_err-frozen-clause-err : goal.returns-in_err-frozen-clause-err
returns-in_err-frozen-clause-err g c =
    let p = err_from_is_err_and c.from_residual.result c.from_residual.ensures.1 in
    let left = (refused g c).3 in
    rw p.1 (refl, left.0, left.1)

pub returns-in_err-frozen-clause-watcher : goal.returns-in_err-frozen-clause-watcher
returns-in_err-frozen-clause-watcher g c =
    let p = err_from_is_err_and c.from_residual.result c.from_residual.ensures.1 in
    rw (p.1, p.2) (subst (λ r. FailsWith c.args.watcher.now r c.failure_told.new.watcher)
    c.in_err-frozen.was c.failure_told.ensures.watcher)

pub returns-in_err-frozen-clause-refused : goal.returns-in_err-frozen-clause-refused
returns-in_err-frozen-clause-refused g c =
    let p = err_from_is_err_and c.from_residual.result c.from_residual.ensures.1 in
    rw (p.1, p.2) (refused g c).4

pub invariant_of-desk : goal.invariant_of-desk
invariant_of-desk g c = (
  subst (IsJournalDesk g.J.Naming g.B.Boosted.meaning g.B.Parts.making g.B.Parts.collections
      g.B.Parts.whole g.B.Parts.fits c.freeze_journal-frozen.new.journal c.desk.inside.nears
      c.note_alone.new.seat c.compare-2.new.sender) (sym c.compare.ensures.near)
      (subst (λ s. IsJournalDesk g.J.Naming g.B.Boosted.meaning g.B.Parts.making
      g.B.Parts.collections g.B.Parts.whole g.B.Parts.fits c.freeze_journal-frozen.new.journal
      c.desk.inside.nears c.note_alone.new.seat s c.desk.inside.near)
      (sym c.compare-2.ensures.sender) (refused g c).0),
  c.desk.invariant.1,
  c.desk.invariant.2,
  c.desk.invariant.3,
  drawn_beside c.desk.inside.maker c.desk.inside.seat c.note_alone.new.seat c.desk.invariant.4 _
      refl c.note_alone.ensures.book,
)

pub invariant_of-vault : goal.invariant_of-vault
invariant_of-vault g c = (
  subst (λ r. IsVault g.J.Naming g.D.Disk c.freeze_journal-frozen.new.keeper r
      c.failure_told.new.seat c.vault.inside.near) (sym c.compare-2.ensures.receiver)
      (refused g c).1,
  (refused g c).2,
)

-- and one whose end is held.
held : (g : Over) (c : goal.After-drop-shown g) →
    IsJournalDesk g.J.Naming g.B.Boosted.meaning g.B.Parts.making g.B.Parts.collections
    g.B.Parts.whole g.B.Parts.fits c.freeze_journal-frozen.new.journal c.desk.inside.nears
    c.note_alone.new.seat (noting c.desk.inside.sender c.freeze_journal-frozen.new.gather)
    c.desk.inside.near
    × IsVault g.J.Naming g.D.Disk c.freeze_journal-frozen.new.keeper
    (noting_too c.vault.inside.receiver c.freeze_journal-frozen.new.gather)
    c.failure_told.new.seat
    (record { table = c.vault.inside.near.table; gather = c.freeze_journal-frozen.new.gather })
    × Awaits c.freeze_journal-frozen.new.keeper.stage c.freeze_journal-frozen.new.gather
    × (c.freeze_journal-frozen.new.gather.frozen ≡ None → ⊥)
held g c =
    let i = c.desk.inside in
    let v = c.vault.inside in
    let d = c.desk.invariant.0 in
    let l = c.freeze_journal-frozen.new.journal in
    let k = c.freeze_journal-frozen.new.keeper in
    let m = c.args.gather.now in
    let n = c.freeze_journal-frozen.new.gather in
    let b = told_book g.B.Parts.collections (book_state g.B.Parts.whole i.journal d.shelves) in
    let a = told_book g.B.Parts.collections (book_state g.B.Parts.whole l d.shelves) in
    let said = c.freeze_journal-frozen.ensures.froze d.shelves d.known.book
    (gathered_there g.J.Naming
    i.journal i.nears i.seat i.sender i.near d c.args.of_book.now m c.compare.ensures.same
    c.requires.known c.requires.unfrozen) in
    let was = subst (λ r. Froze g.D.Disk b v.keeper m said.0 r a k said.1) c.in_ok-frozen.was
    said.2 in
    let left = subst (λ r. n ≡ left_gathered said.0 r said.1) c.in_ok-frozen.was said.3 in
    let froze = subst (λ x. Froze g.D.Disk b v.keeper m said.0 (Ok tt) a k x)
    (sym (froze_held g.D.Disk b a v.keeper k m said.1 n said.0 was left)) was in
    let both = freeze_held g.J.Naming g.D.Disk b i.seat i.sender i.near d.desk v.keeper v.receiver
    v.mark v.near c.vault.invariant.0 c.compare-2.ensures.order.0 c.compare-2.ensures.order.1
    c.compare-2.ensures.noted
    (desk_kept g.J.Naming g.met.B.Coded.told _
    (book_state g.B.Parts.whole i.journal d.shelves) i.seat i.sender i.near d.desk
    d.known.book.kept)
    m n said.0 a k c.note_alone.new.seat froze
    (subst (λ r. c.note_alone.new.seat ≡ stepped i.seat (alone (Action.Freeze r)))
    c.in_ok-frozen.was c.note_alone.ensures.book) in (
      frozen_on g.J.Naming i.journal i.nears i.seat i.sender i.near d g.D.Disk v.keeper k m n said.0
          (Ok tt) l c.note_alone.new.seat (noting i.sender n) i.near froze
          (c.freeze_journal-frozen.ensures.kept d.shelves d.known.book) both.0,
      subst (λ (s : KeeperMark). IsVault g.J.Naming g.D.Disk k (noting_too v.receiver n) s
          (record { table = v.near.table; gather = n })) (sym c.failure_told.ensures.seat)
          (vault_notes g.D.Disk g.J.Naming k (noting_too v.receiver n) v.mark
          (record { table = v.near.table; gather = n }) both.1
          (stops_behind c.freeze_journal-frozen.result v.mark.stops)
          (froze_caused g.D.Disk b a v.keeper k m said.1 said.0 c.freeze_journal-frozen.result said.2
          v.mark.stops c.vault.invariant.0.caused)),
      awaits_frozen g.D.Disk b v.keeper m n said.0 a k froze,
      froze_some g.D.Disk b a v.keeper k m n said.0 froze,
    )

pub returns-clause-watcher : goal.returns-clause-watcher
returns-clause-watcher g c =
    subst (λ r. FailsWith c.args.watcher.now r c.failure_told.new.watcher) c.in_ok-frozen.was
    c.failure_told.ensures.watcher

pub returns-clause-ok : goal.returns-clause-ok
returns-clause-ok g c = (
  (held g c).3,
  c.agree.ensures.far ∙
      ap (λ (t : TableId). record { table = t; gather = c.of-shown.result.value })
      c.requires.keeper ∙
      ap (λ (v : GatherState). record { table = g.J.Naming.awaited; gather = v })
      c.of-shown.ensures,
)

pub invariant_of-desk-2 : goal.invariant_of-desk-2
invariant_of-desk-2 g c = (
  subst (IsJournalDesk g.J.Naming g.B.Boosted.meaning g.B.Parts.making g.B.Parts.collections
      g.B.Parts.whole g.B.Parts.fits c.freeze_journal-frozen.new.journal c.desk.inside.nears
      c.note_alone.new.seat c.note_frozen.new.sender) (sym c.compare.ensures.near)
      (subst (λ s. IsJournalDesk g.J.Naming g.B.Boosted.meaning g.B.Parts.making
      g.B.Parts.collections g.B.Parts.whole g.B.Parts.fits c.freeze_journal-frozen.new.journal
      c.desk.inside.nears c.note_alone.new.seat s c.desk.inside.near) (sym sender_is)
      (held g c).0),
  c.desk.invariant.1,
  c.desk.invariant.2,
  c.desk.invariant.3,
  drawn_beside c.desk.inside.maker c.desk.inside.seat c.note_alone.new.seat c.desk.invariant.4 _
      refl c.note_alone.ensures.book,
)
  where
    sender_is : c.note_frozen.new.sender ≡
        noting c.desk.inside.sender c.freeze_journal-frozen.new.gather
    sender_is = c.note_frozen.ensures.sender ∙
        ap (λ (s : SenderState). noting s c.of-shown.result.value) c.compare-2.ensures.sender ∙
        ap (noting c.desk.inside.sender) c.of-shown.ensures

pub invariant_of-vault-2 : goal.invariant_of-vault-2
invariant_of-vault-2 g c = (
  subst (IsVault g.J.Naming g.D.Disk c.freeze_journal-frozen.new.keeper
      c.note_frozen.new.receiver c.failure_told.new.seat) (sym near_is)
      (subst (λ r. IsVault g.J.Naming g.D.Disk c.freeze_journal-frozen.new.keeper r
      c.failure_told.new.seat
      (record { table = c.vault.inside.near.table; gather = c.freeze_journal-frozen.new.gather }))
      (sym receiver_is) (held g c).1),
  subst (λ (a : AccordState). Awaits c.freeze_journal-frozen.new.keeper.stage a.gather)
      (sym near_is) (held g c).2,
)
  where
    receiver_is : c.note_frozen.new.receiver ≡
        noting_too c.vault.inside.receiver c.freeze_journal-frozen.new.gather
    receiver_is = c.note_frozen.ensures.receiver ∙
        ap (λ (r : ReceiverState). noting_too r c.of-shown.result.value)
        c.compare-2.ensures.receiver ∙
        ap (noting_too c.vault.inside.receiver) c.of-shown.ensures

    near_is : c.agree.new.near ≡ record {
      table = c.vault.inside.near.table;
      gather = c.freeze_journal-frozen.new.gather;
    }
    near_is = c.agree.ensures.near ∙
        ap (λ (v : GatherState). record { table = c.vault.inside.near.table; gather = v })
        c.of-shown.ensures
