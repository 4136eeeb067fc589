-- What a keeper's turns, pieces and flips leave of its mark, and where images stand between blocks.
use Rattle.std.proofs.Common.{◌≡◌, inl, inr, ⊎_elim, ℕ, ◌+◌, ◌≤◌, Bool, Option, Some}
use Rattle.std.proofs.Common.{None, Result, Ok, Err, List, [], ◌∷◌, length, sym}
use Rattle.std.proofs.Common.{ap, subst, arith}
use Rattle.std.specs.List.{AllByRecursion}
use Rattle.std.proofs.lemmas.List.Elements.{All-nil, All-cons}
use Rattle.calls.specs.declared.refusal.Refusal.{Refusal}
use Rattle.records.specs.declared.record.Record.{Record}
use Rattle.records.specs.declared.block.Block.{Block}
use Rattle.records.specs.declared.block.Image.{Image}
use Rattle.replay.specs.Journals.{records_in}
use Rattle.txn.specs.Books.{NamedBook}
use Rattle.txn.specs.Handing.{IsBetween}
use Rattle.checkpoint.specs.declared.stage.Ending.{Ending}
use Rattle.checkpoint.specs.declared.turn.Turn.{Turn}
use Rattle.checkpoint.specs.ImageAnswers.{HoldAnswers, BeginAnswers, PieceAnswers, FlipAnswers}
use Rattle.checkpoint.specs.Keepers.{KeeperState, IsBrought, TurnAnswers}
use Rattle.checkpoint.specs.Keeping.{IsApart, Uncrossed}
use Rattle.checkpoint.proofs.GroupLemmas.{apart_append, apart_before, apart_behind}
use Rattle.engine.specs.Marks.{mark_behind, mark_flipped}

-- ---- what a turn answers

module _ (holds : Option Block) (receives : List Block → Type 0) (was_empty : Type 0)
    (failed fails : Bool) (m mark : ℕ) (is_covered is_past is_full : Block → Type 0)
    (is_same is_risen : Type 0) where
  abbrev Turns : Result Turn Refusal → Option Block → Type 0
  Turns r held = TurnAnswers holds receives was_empty failed m is_covered is_past is_full is_same
      is_risen r held mark fails

  pub mark_rises : (r : Result Turn Refusal) (held : Option Block) → Turns r held → m ≤ mark
  mark_rises (Ok Turn.Idle) held a = omega (arith, a.6)
  mark_rises (Ok (Turn.Kept place)) held a =
      ⊎_elim (λ x. omega (arith, x.2, x.3)) (λ x. omega (arith, x.2.0, x.2.1)) a.1.2
  mark_rises (Ok Turn.Held) held a = omega (arith, a.1.2.4)
  mark_rises (Err Refusal.Failed) held a = omega (arith, a.4)
  mark_rises (Err Refusal.Full) held a = omega (arith, a.1.2.2.3)
  mark_rises (Err Refusal.Fault) held a = omega (arith, a.1.2.2.2)
  mark_rises (Err e) held a = absurd a.1.2.2

  -- the keeper's mark is the one that its turns told
  pub mark_is : (r : Result Turn Refusal) (held : Option Block) → Turns r held →
      mark_behind m r ≡ mark
  mark_is (Ok Turn.Idle) held a = sym a.6
  mark_is (Ok (Turn.Kept place)) held a = ⊎_elim (λ x. sym x.3) (λ x. sym x.2.1) a.1.2
  mark_is (Ok Turn.Held) held a = sym a.1.2.4
  mark_is (Err Refusal.Failed) held a = sym a.4
  mark_is (Err Refusal.Full) held a = sym a.1.2.2.3
  mark_is (Err Refusal.Fault) held a = sym a.1.2.2.2
  mark_is (Err e) held a = absurd a.1.2.2

  brought : (h : Option Block) (b : Block) → IsBrought h receives b →
      (bs : List Block) × receives bs
  brought None b is = (b ∷ [], is)
  brought (Some h) b is = ([], is.1)

  -- it received some blocks, or none
  pub some_received : (r : Result Turn Refusal) (held : Option Block) → Turns r held →
      (bs : List Block) × receives bs
  some_received (Ok Turn.Idle) held a = ([], a.2)
  some_received (Ok (Turn.Kept place)) held a = brought holds a.1.0 a.1.1
  some_received (Ok Turn.Held) held a = brought holds a.1.0 a.1.1
  some_received (Err Refusal.Failed) held a = ([], a.1)
  some_received (Err Refusal.Full) held a = brought holds a.1.0 a.1.1
  some_received (Err Refusal.Fault) held a = brought holds a.1.0 a.1.1
  some_received (Err e) held a = absurd a.1.2.2

-- a piece leaves the mark
pub piece_mark : {D : Type 0} (k l : KeeperState D) (is_risen : Type 0) (r : Result Bool Refusal) →
    PieceAnswers k is_risen l r → k.mark ≡ l.mark
piece_mark {D = D} k l is_risen (Ok more) a = sym (ap (λ (x : KeeperState D). x.mark) a.1.4)
piece_mark {D = D} k l is_risen (Err Refusal.Failed) a =
    sym (ap (λ (x : KeeperState D). x.mark) a.1)
piece_mark {D = D} k l is_risen (Err Refusal.Fault) a =
    sym (ap (λ (x : KeeperState D). x.mark) a.2.4)
piece_mark k l is_risen (Err e) a = absurd a

-- the keeper's mark is the one that its flips told
pub flip_mark_is : {D : Type 0} (k l : KeeperState D) (is_risen : Type 0) (r : Result ℕ Refusal) →
    FlipAnswers k is_risen l r → mark_flipped k.mark r ≡ l.mark
flip_mark_is {D = D} k l is_risen (Ok place) a = sym (ap (λ (x : KeeperState D). x.mark) a.1.3.1)
flip_mark_is {D = D} k l is_risen (Err Refusal.Failed) a =
    sym (ap (λ (x : KeeperState D). x.mark) a.1)
flip_mark_is {D = D} k l is_risen (Err Refusal.Unfinished) a =
    sym (ap (λ (x : KeeperState D). x.mark) a.2)
flip_mark_is {D = D} k l is_risen (Err Refusal.Fault) a =
    sym (ap (λ (x : KeeperState D). x.mark) a.1.3.1)
flip_mark_is k l is_risen (Err e) a = absurd a.1.3

pub flip_mark_rises : {D : Type 0} (k l : KeeperState D) (is_risen : Type 0)
    (r : Result ℕ Refusal) → FlipAnswers k is_risen l r → k.mark ≤ mark_flipped k.mark r
flip_mark_rises k l is_risen (Ok place) flipped = omega (arith, flipped.1.3.0)
flip_mark_rises k l is_risen (Err e) flipped = omega arith

-- ---- LSNs between blocks

apart_between : (groups : List (List Record)) (book : NamedBook) (lsn : ℕ) →
    book.end ≡ length (records_in groups) → IsBetween groups book lsn →
    IsApart 0 groups lsn
apart_between groups book lsn end (inl split) =
    subst (λ g. IsApart 0 g lsn) (sym split.2)
    (apart_append 0 split.0 split.1 lsn
    (apart_behind 0 split.0 lsn (omega (arith, split.3)))
    (apart_before (0 + length (records_in split.0)) split.1 lsn (omega (arith, split.3))))
apart_between groups book lsn end (inr behind) =
    apart_behind 0 groups lsn (omega (arith, end, behind.0))

-- where these LSNs stand between blocks, no block of these crosses one
pub none_crossed : (groups : List (List Record)) (book : NamedBook) →
    book.end ≡ length (records_in groups) → (freezes : List ℕ) →
    AllByRecursion (λ lsn. IsBetween groups book lsn) freezes → Uncrossed freezes groups
none_crossed groups book end [] between = All-nil (λ p. IsApart 0 groups p)
none_crossed groups book end (lsn ∷ freezes) between =
    All-cons (λ p. IsApart 0 groups p) lsn freezes
    (apart_between groups book lsn end between.0)
    (none_crossed groups book end freezes between.1)

-- ---- disk and mark

-- where an end is held, or refused, disk and mark stay
pub held_same : {D : Type 0} (k : KeeperState D) (e : Ending) (l : KeeperState D)
    (r : Result (Unit {0}) Refusal) → HoldAnswers k e l r → (l.disk ≡ k.disk) × (k.mark ≡ l.mark)
held_same {D = D} k e l (Ok done) held = (
  ap (λ (x : KeeperState D). x.disk) held.2,
  sym (ap (λ (x : KeeperState D). x.mark) held.2),
)
held_same {D = D} k e l (Err Refusal.Failed) held =
    (ap (λ (x : KeeperState D). x.disk) held.1, sym (ap (λ (x : KeeperState D). x.mark) held.1))
held_same {D = D} k e l (Err Refusal.Imaging) held =
    (ap (λ (x : KeeperState D). x.disk) held.2, sym (ap (λ (x : KeeperState D). x.mark) held.2))
held_same {D = D} k e l (Err r) held = absurd held

-- and so where an image is begun, or refused
pub begun_same : {D : Type 0} (k : KeeperState D) (image : Image) (behind : ℕ)
    (l : KeeperState D) (r : Result (Unit {0}) Refusal) → BeginAnswers k image behind l r →
    (l.disk ≡ k.disk) × (k.mark ≡ l.mark)
begun_same {D = D} k image behind l (Ok done) begun = (
  ap (λ (x : KeeperState D). x.disk) begun.2.1.2,
  sym (ap (λ (x : KeeperState D). x.mark) begun.2.1.2),
)
begun_same {D = D} k image behind l (Err Refusal.Failed) begun =
    (ap (λ (x : KeeperState D). x.disk) begun.1, sym (ap (λ (x : KeeperState D). x.mark) begun.1))
begun_same {D = D} k image behind l (Err Refusal.Full) begun =
    (ap (λ (x : KeeperState D). x.disk) begun.3, sym (ap (λ (x : KeeperState D). x.mark) begun.3))
begun_same {D = D} k image behind l (Err e) begun =
    (ap (λ (x : KeeperState D). x.disk) begun.2, sym (ap (λ (x : KeeperState D). x.mark) begun.2))
