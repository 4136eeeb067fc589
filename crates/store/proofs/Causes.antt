-- The keeper's seat sets the failed flag only where the keeper has failed.
use Rattle.std.proofs.Common.{◌≡◌, ◌∙◌, ℕ, Bool, true, false, true≢false, Result, Ok, Err}
use Rattle.std.proofs.Common.{List, sym, ap}
use Rattle.calls.specs.Contents.{Collection}
use Rattle.calls.specs.declared.refusal.Refusal.{Refusal}
use Rattle.disk_model.specs.declared.disk.Disk as disks
use Rattle.records.specs.declared.block.Image.{Image}
use Rattle.checkpoint.specs.declared.stage.Ending.{Ending}
use Rattle.checkpoint.specs.Keepers.{KeeperState}
use Rattle.checkpoint.specs.ImageAnswers.{HoldAnswers, BeginAnswers, PieceAnswers, FlipAnswers}
use Rattle.images.specs.Gathers.{GatherState}
use Rattle.txn.specs.Books.{BookState}
use Rattle.store.specs.Gatherers.{Froze}
use Rattle.store.specs.Turns.{StaysCaused}

pub not_both : (b : Bool) {X : Type 0} → b ≡ true → b ≡ false → X
not_both b is not = absurd (true≢false (sym is ∙ not))

pub piece_caused : {D : Type 0} (k l : KeeperState D) (is_risen : Type 0)
    (r : Result Bool Refusal) →
    PieceAnswers k is_risen l r → StaysCaused r k.failed l.failed
piece_caused k l is_risen (Ok more) a stops was said = not_both k.failed (was said) a.0
piece_caused {D = D} k l is_risen (Err Refusal.Failed) a stops was said =
    ap (λ (x : KeeperState D). x.failed) a.1 ∙ a.0
piece_caused {D = D} k l is_risen (Err Refusal.Fault) a stops was said =
    ap (λ (x : KeeperState D). x.failed) a.2.4
piece_caused k l is_risen (Err e) a stops was said = absurd a

pub flip_caused : {D : Type 0} (k l : KeeperState D) (is_risen : Type 0) (r : Result ℕ Refusal) →
    FlipAnswers k is_risen l r → StaysCaused r k.failed l.failed
flip_caused k l is_risen (Ok place) a stops was said = not_both k.failed (was said) a.0
flip_caused {D = D} k l is_risen (Err Refusal.Failed) a stops was said =
    ap (λ (x : KeeperState D). x.failed) a.1 ∙ a.0
flip_caused k l is_risen (Err Refusal.Unfinished) a stops was said =
    not_both k.failed (was said) a.0
flip_caused {D = D} k l is_risen (Err Refusal.Fault) a stops was said =
    ap (λ (x : KeeperState D). x.failed) a.1.3.1
flip_caused k l is_risen (Err e) a stops was said = absurd a.1.3

pub hold_caused : {D : Type 0} (k : KeeperState D) (e : Ending) (l : KeeperState D)
    (r : Result (Unit {0}) Refusal) → HoldAnswers k e l r → StaysCaused r k.failed l.failed
hold_caused k e l (Ok done) a stops was said = not_both k.failed (was said) a.0
hold_caused {D = D} k e l (Err Refusal.Failed) a stops was said =
    ap (λ (x : KeeperState D). x.failed) a.1 ∙ a.0
hold_caused k e l (Err Refusal.Imaging) a stops was said = not_both k.failed (was said) a.0
hold_caused k e l (Err r) a stops was said = absurd a

pub begin_caused : {D : Type 0} (k : KeeperState D) (image : Image) (behind : ℕ)
    (l : KeeperState D) (r : Result (Unit {0}) Refusal) → BeginAnswers k image behind l r →
    StaysCaused r k.failed l.failed
begin_caused k image behind l (Ok done) a stops was said = not_both k.failed (was said) a.0
begin_caused {D = D} k image behind l (Err Refusal.Failed) a stops was said =
    ap (λ (x : KeeperState D). x.failed) a.1 ∙ a.0
begin_caused k image behind l (Err Refusal.Fault) a stops was said = absurd a.1
begin_caused k image behind l (Err e) a stops was said = not_both k.failed (was said) a.0

-- What the book refuses of a freeze is no fault.
pub froze_caused : {D : Type 0} (g : disks.Ghosts D) (b c : BookState (List Collection))
    (k l : KeeperState D) (m n : GatherState) (frozen r : Result (Unit {0}) Refusal) →
    Froze g b k m frozen r c l n → StaysCaused r k.failed l.failed
froze_caused g b c k l m n (Ok done) r froze = hold_caused k _ l r froze.1
froze_caused g b c k l m n (Err Refusal.NoMemory) r froze =
    rw (froze.1, froze.2) (λ stops was said. was said)
froze_caused g b c k l m n (Err Refusal.Unfinished) r froze =
    rw (froze.1, froze.2) (λ stops was said. was said)
froze_caused g b c k l m n (Err Refusal.Outrun) r froze =
    rw (froze.1, froze.2) (λ stops was said. was said)
froze_caused g b c k l m n (Err e) r froze = absurd froze.0.0

-- ---- what is told
