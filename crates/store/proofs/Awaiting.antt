-- What the keeper awaits, of what is known to be frozen.
use Rattle.std.proofs.Common.{◌≡◌, ℕ, Option, Some, None, Result, Ok, Err, IfErr, List, sym, ap}
use Rattle.std.proofs.Common.{◌∙◌, subst}
use Rattle.calls.specs.Contents.{Collection}
use Rattle.calls.specs.declared.refusal.Refusal.{Refusal}
use Rattle.disk_model.specs.declared.disk.Disk as disks
use Rattle.records.specs.declared.block.Image.{Image}
use Rattle.images.specs.Gathers.{GatherState, FrozenState, Packs}
use Rattle.images.specs.declared.gather.ImageHead.{ImageHead}
use Rattle.txn.specs.Books.{BookState}
use Rattle.checkpoint.specs.declared.stage.Stage.{Stage}
use Rattle.checkpoint.specs.ImageAnswers.{BeginAnswers}
use Rattle.checkpoint.specs.Imaging.{IsAwaited, IsHere, IsAwaitedElse, pieces_left}
use Rattle.checkpoint.specs.Keepers.{KeeperState}
use Rattle.group_commit.specs.Accords.{AccordState}
use Rattle.images.specs.Gathers.{nothing_gathered}
use Rattle.store.specs.Gatherers.{Froze}
use Rattle.store.specs.Turns.{IsCheckRefusal}
use Rattle.store.specs.Vaults.{Awaits}

abbrev Book : Type 0
Book = BookState (List Collection)

not_both : {X : Type 0} (x : X) → ◌≡◌ {A = Option X} None (Some x) → ⊥
not_both x both = cc

same_inside : {X : Type 0} (x y : X) → ◌≡◌ {A = Option X} (Some x) (Some y) → x ≡ y
same_inside x y both = cc

-- nothing is frozen
pub awaits_nothing : (stage : Stage) → Awaits stage nothing_gathered
awaits_nothing stage f some = absurd (not_both f some)

pub awaits_none : (stage : Stage) (near : AccordState) → near.gather ≡ nothing_gathered →
    Awaits stage near.gather
awaits_none stage near is = subst (Awaits stage) (sym is) (awaits_nothing stage)

-- where an image is here nothing is
pub awaits_here : (stage after : Stage) (n : ℕ) (g : GatherState) → pieces_left stage ≡ Some n →
    Awaits stage g → Awaits after g
awaits_here stage after n g left awaits f some =
    absurd (not_both n (sym (ap pieces_left (awaits f some)) ∙ left))

-- the image that was packed of what is frozen is the one that is awaited
pub awaits_image : (stage : Stage) (g : GatherState) (image : Image) → Awaits stage g →
    Packs g image → IsAwaited stage image
awaits_image stage g image awaits packs =
    subst (λ s. IsAwaited s image) (sym (awaits packs.frozen packs.is_frozen))
    (packs.end, packs.place)

-- what was frozen, whose end the keeper holds
pub awaits_frozen : {D : Type 0} (g : disks.Ghosts D) (b : Book) (k : KeeperState D)
    (m n : GatherState) (frozen : Result (Unit {0}) Refusal) (c : Book) (l : KeeperState D) →
    Froze g b k m frozen (Ok tt) c l n → Awaits l.stage n
awaits_frozen g b k m n (Ok done) c l froze f some =
    let holds = froze.0.1 in
    let same : holds.frozen ≡ f =
    same_inside holds.frozen f (sym holds.is_frozen ∙ some) in
    ap (λ (s : KeeperState _). s.stage) froze.1.2 ∙
    ap (λ (v : ImageHead). Stage.Awaited (record { end = v.end; place = v.place }))
    (sym holds.image_head) ∙
    ap (λ (v : FrozenState).
    Stage.Awaited (record { end = v.image_head.end; place = v.image_head.place })) same
awaits_frozen g b k m n (Err d) c l froze f some = absurd (no_ok froze.1)
  where
    no_ok : ◌≡◌ {A = Result (Unit {0}) Refusal} (Ok tt) (Err d) → ⊥
    no_ok both = cc

-- the keeper stays where the freeze, or the holding of its end, is refused
pub froze_not : {D : Type 0} (g : disks.Ghosts D) (b : Book) (k : KeeperState D)
    (m n : GatherState) (frozen : Result (Unit {0}) Refusal) (e : Refusal) (c : Book)
    (l : KeeperState D) → Froze g b k m frozen (Err e) c l n → l ≡ k
froze_not g b k m n (Ok done) Refusal.Failed c l froze = froze.1.1
froze_not g b k m n (Ok done) Refusal.Imaging c l froze = froze.1.2
froze_not g b k m n (Ok done) e c l froze = absurd froze.1
froze_not g b k m n (Err d) e c l froze = froze.2

-- ---- refusals

idle_awaits_none : (stage : Stage) (image : Image) → stage ≡ Stage.Idle → IsAwaited stage image → ⊥
idle_awaits_none stage image idle awaited = subst (λ s. IsAwaited s image) idle awaited

here_awaits_none : (stage : Stage) (image : Image) → IsHere stage → IsAwaited stage image → ⊥
here_awaits_none Stage.Idle image here awaited = absurd here
here_awaits_none (Stage.Awaited e) image here awaited = absurd here
here_awaits_none (Stage.Laid w) image here awaited = absurd awaited

no_other : (stage : Stage) (image : Image) → IsAwaitedElse stage image → IsAwaited stage image → ⊥
no_other Stage.Idle image other awaited = absurd other
no_other (Stage.Awaited e) image other awaited = other awaited
no_other (Stage.Laid w) image other awaited = absurd other

-- the image that is awaited is begun, or refused
pub begins_refused : {D : Type 0} (k l : KeeperState D) (image : Image) (behind : ℕ)
    (r : Result (Unit {0}) Refusal) → IsAwaited k.stage image → BeginAnswers k image behind l r →
    IfErr r IsCheckRefusal
begins_refused k l image behind (Ok done) awaited answers = tt
begins_refused k l image behind (Err Refusal.Failed) awaited answers = tt
begins_refused k l image behind (Err Refusal.Full) awaited answers = tt
begins_refused k l image behind (Err Refusal.Unfinished) awaited answers =
    absurd (idle_awaits_none k.stage image answers.1 awaited)
begins_refused k l image behind (Err Refusal.Imaging) awaited answers =
    absurd (here_awaits_none k.stage image answers.1 awaited)
begins_refused k l image behind (Err Refusal.BadArg) awaited answers =
    absurd (no_other k.stage image answers.1 awaited)
begins_refused k l image behind (Err e) awaited answers = absurd answers.1
