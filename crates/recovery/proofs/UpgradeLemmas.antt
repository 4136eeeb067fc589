-- An upgrade: what its keeper stands for, step by step, and the store that it makes.
use Rattle.std.proofs.Common.{◌≡◌, ◌≢◌, ℕ, ◌≤◌, List, [], ◌∷◌}
use Rattle.std.proofs.Common.{◌++◌}
use Rattle.std.proofs.Common.{length, map, refl, sym, ◌∙◌, ap, subst, arith, Bool, true}
use Rattle.std.proofs.Common.{false}
use Rattle.std.proofs.Common.{true≢false, Result, Ok, Err, IfOk, IfErr, Vec, None}
use Rattle.std.specs.declared.alloc.Global.{Global}
use Rattle.calls.specs.declared.format.Format.{Format}
use Rattle.calls.specs.declared.refusal.Refusal.{Refusal}
use Rattle.calls.specs.Formats.{Allows}
use Rattle.calls.specs.Contents.{Collection}
use Rattle.calls.specs.Transactions.{Transaction, Serial}
use Rattle.disk_model.specs.Disk.{LeavesOnly, IsAtRest}
use Rattle.disk_model.specs.declared.disk.Disk.{Ghosts}
use Rattle.disk_model.proofs.Walk.{started, and_then, weaker}
use Rattle.gate_block.specs.declared.area.Area.{Area}
use Rattle.gate_block.specs.Row.{IsRow, SameOutside, part}
use Rattle.gate_block.specs.Area.{base_of, size_of, bytes_of, IsReady}
use Rattle.gate_block.specs.Layout.{area_in_use}
use Rattle.records.specs.declared.record.Record.{Record}
use Rattle.records.specs.Records.{spelling}
use Rattle.records.specs.declared.block.Image.{Image}
use Rattle.steps.specs.Machines.{resting, IsUpheld}
use Rattle.catalog.specs.Holdings.{AreNamed}
use Rattle.catalog.specs.Making.{names_of, AreDistinct}
use Rattle.catalog.specs.Meaning.{catalog_meaning, catalog_making}
use Rattle.records.specs.Short.{AreShort}
use Rattle.records.specs.Images.{IsImage}
use Rattle.steps.specs.Sound.{IsSound as IsSoundState}
use Rattle.images.specs.Images.{IsPackedImage}
use Rattle.txn.specs.Books.{BookState}
use Rattle.replay.specs.Journals.{IsHeader, StandsFor, records_in}
use Rattle.replay.specs.Steps.{State}
use Rattle.replay.specs.Reading.{AreAccepted, IsSound}
use Rattle.replay.proofs.LagLemmas.{lags_self, lags_format}
use Rattle.checkpoint.specs.declared.laying.Laying.{Laying}
use Rattle.checkpoint.specs.declared.stage.Ending.{Ending}
use Rattle.checkpoint.specs.declared.stage.Stage.{Stage}
use Rattle.checkpoint.specs.Crash.{YieldsUpTo}
use Rattle.checkpoint.specs.Stored.{StandIn}
use Rattle.checkpoint.specs.DiskHeads.{IsInUse}
use Rattle.checkpoint.specs.Imaging.{IsTooLong, IsBeingLaid, IsOther, HasPiece, bodies_of}
use Rattle.checkpoint.specs.Imaging.{left_of, IsWritten}
use Rattle.checkpoint.specs.ImageAnswers.{HoldAnswers, PieceAnswers, FlipAnswers}
use Rattle.checkpoint.specs.Keepers.{KeeperState, IsFresh, IsOneOfTwo}
use Rattle.checkpoint.specs.Keeping.{BegunImage, HasReceived, LeavesKept, HoldKeeps}
use Rattle.checkpoint.specs.Keeping.{BeginKeeps, ImageKeeps, begun_with}
use Rattle.checkpoint.proofs.StandLemmas.{stands_whole}
use Rattle.checkpoint.proofs.ReceivedLemmas.{received_starts}
use Rattle.checkpoint.proofs.GroupLemmas.{whole_bodies}
use Rattle.recovery.specs.Copies.{IsImageOf}
use Rattle.recovery.specs.Openings.{IsRead, IsOpened, IsOpenRefusal, KeepsContent, book_of}
use Rattle.replay.proofs.ImageNames.{accepted_named, repeats_named}
use Rattle.recovery.proofs.CopyLemmas.{rested_image, image_accepted, all_later, too_large}
use Rattle.recovery.proofs.CopyLemmas.{sound as image_sound, stands as image_stands}
use Rattle.recovery.proofs.OpenedStores.{are_read, in_use, was_there}
use Rattle.recovery.proofs.OpenedStores.{sound as opened_sound, stands as opened_stands}
use Rattle.recovery.proofs.OpenedStores.{header as opened_header}
use Rattle.recovery.proofs.OpenLemmas.{header_same, far_off}
use Rattle.recovery.proofs.FlipLemmas.{LaidBeside, laid_nothing, laid_more, other_far}
use Rattle.recovery.proofs.FlipLemmas.{flipped_header}
use Rattle.recovery.specs.Upgrades.{StandsOver, LeavesContent, GoesOn, TakesImage, IsTakeRefusal}
use Rattle.recovery.specs.Upgrades.{IsUpgraded, IsUpgradeRefusal, HasNoRoomForImage, IsFlippedTo}
use Rattle.recovery.specs.Upgrades.{HasFlipped}

-- ---- what is yielded where nothing was committed

none_kept : (kept rest : List Transaction) → kept ++ rest ≡ [] → kept ≡ []
none_kept [] rest e = refl
none_kept (t ∷ kept) rest e = absurd (omega (arith, ap length e))

yields_start : (start : List Collection) (m : ℕ) (c : List ℕ) → YieldsUpTo start [] m c →
    IsSound c × StandsFor c start
yields_start start m c y =
    let none : y.kept ≡ [] = none_kept y.kept y.begins.0 y.begins.1 in
    let same : start ≡ y.content = subst (λ ts. Serial ts start y.content) none y.serial in
    (y.sound, subst (StandsFor c) (sym same) y.stands)

-- how many pieces are left
abbrev pub left_in : Stage → ℕ
left_in (Stage.Laid w) = length (left_of w)
left_in stage = 0

-- ---- one step of a keeper after another

module _ {D : Type 0} (g : Ghosts D) where
  leaves_content : (start : List Collection) (k l : KeeperState D) → LeavesKept g start [] k l →
      LeavesContent g start k l
  leaves_content start k l run =
      weaker g.moment g.left_since k.disk l.disk (YieldsUpTo start [] k.mark)
      (λ b. IsSound b × StandsFor b start) run (yields_start start k.mark)

  leaves_then : (start : List Collection) (k l m : KeeperState D) → LeavesContent g start k l →
      LeavesContent g start l m → LeavesContent g start k m
  leaves_then start k l m first second =
      and_then g.moment g.left_since k.disk l.disk m.disk (λ b. IsSound b × StandsFor b start)
      (λ b. IsSound b × StandsFor b start) first second (λ c is. is)

  -- where no device is called
  pub goes_nowhere : (k : KeeperState D) →
      ((c : List ℕ) → g.left_since k.disk (g.moment k.disk) c → g.may_leave k.disk c) →
      GoesOn g k k
  goes_nowhere k only_now format start wear now over = (
    over,
    started g.moment g.left_since k.disk (λ b. IsSound b × StandsFor b start)
        (λ c left. yields_start start k.mark c (over.2.stop c (only_now c left))),
  )

  pub goes_then : (k l m : KeeperState D) → GoesOn g k l → GoesOn g l m → GoesOn g k m
  goes_then k l m first second format start wear now over =
      let one = first format start wear now over in
      let two = second format start wear now one.0 in
      (two.0, leaves_then start k l m one.1 two.1)

  pub goes_image : (k l : KeeperState D) → ImageKeeps g k l → GoesOn g k l
  goes_image k l keeps format start wear now over =
      let both = keeps format start wear [] now over.0 over.1 [] over.2 in
      ((over.0, over.1, both.0), leaves_content start k l both.1)

  -- ---- an end is held, and the image begins

  module _ (k : KeeperState D) (fresh : IsFresh k) where
    pub hold_never : (e : Ending) (l : KeeperState D) (r : Refusal) → HoldAnswers k e l (Err r) → ⊥
    hold_never e l Refusal.Failed a = true≢false (sym a.0 ∙ fresh.fine)
    hold_never e l Refusal.Imaging a = a.1 fresh.no_image
    hold_never e l r a = a

  module _ (k h l : KeeperState D) (image : Image) (fresh : IsFresh k)
      (start_is : (image.end ≡ 0) × (image.place ≡ 0))
      (held : h ≡ record k { stage = Stage.Awaited (record { end = 0; place = 0 }) }) where
    abbrev there : Stage
    there = Stage.Awaited (record { end = 0; place = 0 })

    fine : h.failed ≡ false
    fine = ap (λ (x : KeeperState D). x.failed) held ∙ fresh.fine

    -- whether it begins or not, the content stands
    pub begin_takes : (r : Result (Unit {0}) Refusal) → HoldKeeps g 0 (Ok tt) k h →
        BeginKeeps g image r h l → TakesImage g image k l
    begin_takes r holds begins format start wear now blocks whole stands had =
        let one = holds format start wear [] now [] [] [] [] tt ([], refl) (omega arith)
        (omega (arith, fresh.covers_none)) had in
        let begun : BegunImage = record { covered = []; blocks = blocks } in
        let two = begins format start wear [] now (0 ∷ []) [] [] begun
        (record { whole = whole; end = start_is.0; place = start_is.1 }) stands one.0 in (
          (0 ∷ [], begun_with begun [] r, two.0),
          leaves_then start k h l (leaves_content start k h one.1)
              (leaves_content start h l two.1),
        )

  -- behind it more is written
  pub takes_then : (k l m : KeeperState D) (image : Image) → TakesImage g image k l →
      GoesOn g l m → TakesImage g image k m
  takes_then k l m image first second format start wear now blocks whole stands had =
      let one = first format start wear now blocks whole stands had in
      let two = second format start wear now one.0 in
      (two.0, leaves_then start k l m one.1 two.1)

  -- ---- an image in progress

  -- From the first keeper on pieces of its image were written, and one is left at least.
  pub record IsPiecing (k l : KeeperState D) : Type 0 where
    pub fine : l.failed ≡ false
    pub piece : HasPiece l.stage
    pub goes : GoesOn g k l
    pub laid : (w : Laying) (bodies : List (List ℕ)) → k.stage ≡ Stage.Laid w →
        IsBeingLaid w (g.seen k.disk) bodies →
        (v : Laying) × (l.stage ≡ Stage.Laid v) × IsBeingLaid v (g.seen l.disk) bodies
    pub beside : LaidBeside g k l
    pub size : length (g.seen l.disk) ≡ length (g.seen k.disk)

  pub piecing_starts : (k : KeeperState D) →
      ((c : List ℕ) → g.left_since k.disk (g.moment k.disk) c → g.may_leave k.disk c) →
      k.failed ≡ false → HasPiece k.stage → IsPiecing k k
  piecing_starts k only_now fine piece = record {
    fine = fine;
    piece = piece;
    goes = goes_nowhere k only_now;
    laid = λ w bodies is being. (w, is, being);
    beside = laid_nothing g k;
    size = refl;
  }

  module _ (k l m : KeeperState D) (so_far : IsPiecing k l) (risen : Type 0) (more : Bool)
      (answer : PieceAnswers l risen m (Ok more)) (some : more ≡ true) (keeps : ImageKeeps g l m)
      (lays : (w v : Laying) (bodies : List (List ℕ)) → l.stage ≡ Stage.Laid w →
      m.stage ≡ Stage.Laid v → IsBeingLaid w (g.seen l.disk) bodies →
      IsBeingLaid v (g.seen m.disk) bodies)
      (elsewhere : (w : Laying) → l.stage ≡ Stage.Laid w →
      SameOutside (base_of w.area) (size_of w.area) (g.seen l.disk) (g.seen m.disk)) where
    abbrev was : Laying
    was = answer.1.0

    abbrev is : Laying
    is = answer.1.1

    now_laid : m.stage ≡ Stage.Laid is
    now_laid = ap (λ (x : KeeperState D). x.stage) answer.1.4

    pub piecing_on : IsPiecing k m
    piecing_on = record {
      fine = ap (λ (x : KeeperState D). x.failed) answer.1.4 ∙ so_far.fine;
      piece = subst HasPiece (sym now_laid) (answer.1.3.tells.0 some);
      goes = goes_then k l m so_far.goes (goes_image l m keeps);
      laid = λ w bodies there being.
          let before = so_far.laid w bodies there being in
          (is, now_laid, lays before.0 is bodies before.1 now_laid before.2);
      beside = laid_more g k l m so_far.beside risen more answer elsewhere;
      size = (elsewhere was answer.1.2).same_size ∙ so_far.size;
    }

  -- ---- the image is written out

  pub written_ready : (k l m : KeeperState D) → IsPiecing k l → (more : Bool) → (risen : Type 0)
      (j : KeeperState D) → PieceAnswers l risen j (Ok more) → more ≡ false →
      ((w v : Laying) (bodies : List (List ℕ)) → l.stage ≡ Stage.Laid w → j.stage ≡ Stage.Laid v →
      IsBeingLaid w (g.seen l.disk) bodies → IsBeingLaid v (g.seen j.disk) bodies) →
      ((w : Laying) (bodies : List (List ℕ)) → j.stage ≡ Stage.Laid w → bodies ≢ [] →
      IsBeingLaid w (g.seen j.disk) bodies → IsReady g.seen g.may_leave m.area m.disk bodies) →
      (w : Laying) (bodies : List (List ℕ)) → k.stage ≡ Stage.Laid w → bodies ≢ [] →
      IsBeingLaid w (g.seen k.disk) bodies → IsReady g.seen g.may_leave m.area m.disk bodies
  written_ready k l m so_far more risen j answer none lays kept w bodies there some being =
      let before = so_far.laid w bodies there being in
      let now : j.stage ≡ Stage.Laid answer.1.1 =
      ap (λ (x : KeeperState D). x.stage) answer.1.4 in
      kept answer.1.1 bodies now some
      (lays before.0 answer.1.1 bodies before.1 now before.2)

  -- what a piece answers, and what it is laid in
  pub piece_stage : (k l : KeeperState D) → IsPiecing k l → (w : Laying) × (l.stage ≡ Stage.Laid w)
  piece_stage k l so_far = laid_stage l.stage so_far.piece
    where
      laid_stage : (s : Stage) → HasPiece s → (w : Laying) × (s ≡ Stage.Laid w)
      laid_stage (Stage.Laid w) piece = (w, refl)
      laid_stage (Stage.Awaited e) piece = absurd piece
      laid_stage Stage.Idle piece = absurd piece

  -- ---- what a piece and a flip answer

  pub piece_fine : (k l : KeeperState D) (risen : Type 0) (more : Bool) → k.failed ≡ false →
      PieceAnswers k risen l (Ok more) → l.failed ≡ false
  piece_fine k l risen more fine a = ap (λ (x : KeeperState D). x.failed) a.1.4 ∙ fine

  no_more_left : (xs : List (Vec ℕ Global)) (more : Bool) → (1 ≤ length xs → more ≡ true) →
      more ≡ false → xs ≡ []
  no_more_left [] more tells none = refl
  no_more_left (x ∷ xs) more tells none =
      absurd (true≢false (sym (tells (omega arith)) ∙ none))

  pub all_written : (k l : KeeperState D) (risen : Type 0) (more : Bool) →
      PieceAnswers k risen l (Ok more) → more ≡ false → IsWritten l.stage
  all_written k l risen more a none =
      subst IsWritten (sym (ap (λ (x : KeeperState D). x.stage) a.1.4))
      (no_more_left (left_of a.1.1) more a.1.3.tells.1 none)

  pub flip_refused : (k l : KeeperState D) (risen : Type 0) (e : Refusal) → k.failed ≡ false →
      IsWritten k.stage → FlipAnswers k risen l (Err e) → (e ≡ Refusal.Fault) × risen
  flip_refused k l risen Refusal.Failed fine written a = absurd (true≢false (sym a.0 ∙ fine))
  flip_refused k l risen Refusal.Unfinished fine written a = absurd (a.1 written)
  flip_refused k l risen Refusal.Fault fine written a = (refl, a.1.3.0)
  flip_refused k l risen e fine written a = absurd a.1.3

-- ---- the store that was made

pub allows_second : (f : Format) → Allows f Format.Two
allows_second Format.One = tt
allows_second Format.Two = tt

module _ (old mid : List ℕ) (m : State) (n : ℕ) (area : Area)
    (o : IsOpened old (book_of m n) area mid)
    (upheld : IsUpheld catalog_meaning catalog_making AreShort
    (IsSoundState catalog_meaning catalog_making) m)
    (blocks : List (Vec ℕ Global))
    (packed : IsPackedImage (λ v. v) n (resting Format.Two m.now m.wear) blocks) where
  abbrev u : State
  u = o.undone

  abbrev rs : List Record
  rs = records_in packed.groups

  -- the image of what the book holds
  image_there : IsImage Format.Two n m.wear m.now [] [] rs
  image_there = rested_image n (resting Format.Two m.now m.wear) rs packed.tells refl refl

  named : AreNamed m.now × AreDistinct (names_of m.now)
  named = subst (λ (b : BookState (List Collection)). AreNamed b.state.now ×
      AreDistinct (names_of b.state.now)) (sym o.book_is)
      (repeats_named o.undoing o.state u o.undo.leads
      (accepted_named o.version (records_in o.blocks) o.next o.state o.count o.is_read.accepted))

  accepted : AreAccepted Format.Two rs n (resting Format.Two m.now m.wear) 0
  accepted =
      let worn = upheld.unworn in
      image_accepted Format.Two n m.wear m.now rs image_there
      (all_later m.format Format.Two (allows_second m.format) m.now upheld.spells) named.0 named.1
      upheld.few_names upheld.reached (omega (arith, worn))

  pub image_is : IsImage Format.Two o.next u.wear u.now [] [] rs
  image_is = subst (λ (b : BookState (List Collection)). IsImage Format.Two b.next b.state.wear
      b.state.now [] [] rs) o.book_is image_there

  pub accepted_is : AreAccepted Format.Two rs o.next (resting Format.Two u.now u.wear) 0
  accepted_is = subst (λ (b : BookState (List Collection)). AreAccepted Format.Two rs b.next
      (resting Format.Two b.state.now b.state.wear) 0) o.book_is accepted

  abbrev pub of : IsImageOf Format.Two old [] packed.groups
  of = record {
    version = o.version;
    size = size_of area;
    header = o.header;
    blocks = o.blocks;
    next = o.next;
    state = o.state;
    count = o.count;
    is_read = subst (λ k. IsRead o.version k (size_of area) old o.blocks o.next o.state o.count)
        o.picks o.is_read;
    undoing = o.undoing;
    undone = u;
    marks = o.marks;
    undo = o.undo;
    can = tt;
    later = allows_second o.state.format;
    is_image = image_is;
    good = packed.good;
    accepted = accepted_is;
    packed = packed.packed.0;
    not_empty = packed.packed.1;
  }

  pub too_long : IsTooLong (size_of area) blocks → HasNoRoomForImage old
  too_long long = record {
    version = o.version;
    size = size_of area;
    header = o.header;
    large = too_large Format.Two old [] (size_of area) blocks
        (record { image = packed.groups; is_image_of = of; whole = packed.whole }) long;
  }

  -- the other area holds it, and is picked
  pub upgraded_to : (other : Area) (new : List ℕ) → m.format ≢ Format.Two →
      IsOneOfTwo area (length mid) → IsOther area other → IsFlippedTo other mid new →
      IsRow (bodies_of blocks) (bytes_of other new) → IsUpgraded old new
  upgraded_to other new first one is_other flipped laid =
      let image : List (List Record) = packed.groups in
      let row : IsRow (map spelling image) (bytes_of other new) =
      subst (λ bs. IsRow bs (bytes_of other new)) (whole_bodies blocks image packed.whole) laid in
      let used : IsRow (map spelling image) (area_in_use (size_of area) new) =
      subst (λ n. IsRow (map spelling image) (area_in_use n new)) is_other.size
      (subst (λ b. IsRow (map spelling image) (part b (size_of other) new)) (sym flipped.picks)
      row) in
      let far : 4096 ≤ base_of other = other_far area other (length mid) one is_other in
      let there : IsHeader o.version (size_of area) new =
      flipped_header other mid new far flipped o.version (size_of area)
      (opened_header old (book_of m n) area mid o) in
      record {
        book = book_of m n;
        area = area;
        between = mid;
        opened = o;
        no_more = λ second. absurd (first second);
        rewritten = λ other_format. record {
          image = image;
          is_image_of = of;
          other = other;
          is_other = is_other;
          row_is = row;
          flipped = flipped;
        };
        header = λ version size is. flipped_header other mid new far flipped version size
            (header_same version (base_of area) size (size_of area) old mid
            (far_off (base_of area) (size_of area) old o.picks) o.elsewhere is);
        sound = image_sound Format.Two old [] image of o.version (allows_second o.version)
            (size_of area) new there used;
        format = refl;
        stands = image_stands Format.Two old [] image of o.version (allows_second o.version)
            (size_of area) new there used;
      }

  -- where the keeper begins
  abbrev start : State
  start = resting u.format u.now u.wear

  stands_in : StandIn u.format u.now u.wear [] start packed.groups []
  stands_in = (stands_whole u.format u.now u.wear [] start packed.groups start refl
      (lags_self start) refl
      (resting Format.Two u.now u.wear)
      (record {
        version = Format.Two;
        next = o.next;
        count = 0;
        good = packed.good;
        accepted = accepted_is;
      })
      (lags_format start Format.Two (allows_second u.format))).0

  now_is : u.now ≡ m.now
  now_is = sym (ap (λ (b : BookState (List Collection)). b.state.now) o.book_is)

-- a keeper over the store that takes that image
module _ {D : Type 0} (g : Ghosts D) (disk : D) (old : List ℕ) (m : State) (n : ℕ) (area : Area)
    (o : IsOpened old (book_of m n) area (g.seen disk))
    (upheld : IsUpheld catalog_meaning catalog_making AreShort
    (IsSoundState catalog_meaning catalog_making) m) (image : Image)
    (packed : IsPackedImage (λ v. v) n (resting Format.Two m.now m.wear) image.blocks.items)
    (k l : KeeperState D) (fresh : IsFresh k) (disk_is : k.disk ≡ disk) (area_is : k.area ≡ area)
    (rest : IsAtRest g.seen g.may_leave disk) (takes : TakesImage g image k l) where
  used : IsInUse g.seen g.may_leave o.undone.format k.area k.disk (o.blocks ++ o.written)
  used =
      subst (λ (d : D). IsInUse g.seen g.may_leave o.undone.format k.area d
      (o.blocks ++ o.written)) (sym disk_is)
      (subst (λ (a : Area). IsInUse g.seen g.may_leave o.undone.format a disk
      (o.blocks ++ o.written)) (sym area_is)
      (in_use g.seen g.may_leave old (book_of m n) disk area o (record {
        at_rest = rest;
        ready = λ p. record {
          holds = p.row_is;
          offset = p.offset;
          at_rest = λ c left. ap (bytes_of area) (rest c left);
        };
      })))

  begins : HasReceived g.seen g.may_leave o.undone.format o.undone.now o.undone.wear []
      (resting o.undone.format o.undone.now o.undone.wear) [] [] [] k
  begins = received_starts g.seen g.may_leave o.undone.format o.undone.now o.undone.wear
      (o.blocks ++ o.written) k (are_read old (book_of m n) area (g.seen disk) o) fresh used

  abbrev taken : StandsOver g o.undone.format o.undone.now o.undone.wear
      (resting o.undone.format o.undone.now o.undone.wear) l × LeavesContent g o.undone.now k l
  taken = takes o.undone.format o.undone.now o.undone.wear
      (resting o.undone.format o.undone.now o.undone.wear)
      packed.groups packed.whole
      (stands_in old (g.seen disk) m n area o upheld image.blocks.items packed) begins

  -- a stop leaves the content
  pub taken_kept : LeavesOnly g.moment g.left_since disk l.disk
      (λ b. IsSound b × StandsFor b m.now)
  taken_kept =
      subst (λ (s : List Collection). LeavesOnly g.moment g.left_since disk l.disk
      (λ b. IsSound b × StandsFor b s))
      (now_is old (g.seen disk) m n area o upheld image.blocks.items packed)
      (subst (λ (d : D). LeavesOnly g.moment g.left_since d l.disk
      (λ b. IsSound b × StandsFor b o.undone.now)) disk_is taken.1)

-- and what it made is the store
pub taken_upgraded : {D : Type 0} (g : Ghosts D) (disk : D) (old : List ℕ) (m : State) (n : ℕ)
    (area : Area) (o : IsOpened old (book_of m n) area (g.seen disk)) →
    IsUpheld catalog_meaning catalog_making AreShort
    (IsSoundState catalog_meaning catalog_making) m → (image : Image) →
    IsPackedImage (λ v. v) n (resting Format.Two m.now m.wear) image.blocks.items →
    (k l : KeeperState D) → k.disk ≡ disk → k.area ≡ area → m.format ≢ Format.Two →
    IsOneOfTwo area (length (g.seen disk)) → HasFlipped g k l →
    IsReady g.seen g.may_leave l.area l.disk (bodies_of image.blocks.items) →
    IsUpgraded old (g.seen l.disk)
taken_upgraded g disk old m n area o upheld image packed k l disk_is area_is first one has ready =
    upgraded_to old (g.seen disk) m n area o upheld image.blocks.items packed l.area
    (g.seen l.disk) first one (subst (λ a. IsOther a l.area) area_is has.is_other)
    (subst (λ d. IsFlippedTo l.area (g.seen d) (g.seen l.disk)) disk_is has.flipped) ready.holds

-- ---- a store that is of the second format already

module _ {D : Type 0} (g : Ghosts D) (disk : D) (old : List ℕ) (m : State) (n : ℕ) (area : Area)
    (o : IsOpened old (book_of m n) area (g.seen disk)) where
  pub was_upgraded : m.format ≡ Format.Two → IsUpgraded old (g.seen disk)
  was_upgraded second = record {
    book = book_of m n;
    area = area;
    between = g.seen disk;
    opened = o;
    no_more = λ is. refl;
    rewritten = λ first. absurd (first second);
    header = λ version size is. header_same version (base_of area) size (size_of area) old
        (g.seen disk) (far_off (base_of area) (size_of area) old o.picks) o.elsewhere is;
    sound = opened_sound old (book_of m n) area (g.seen disk) o;
    format = sym (ap (λ (b : BookState (List Collection)). b.state.format) o.book_is) ∙ second;
    stands = λ content stood. subst (StandsFor (g.seen disk))
        (was_there old (book_of m n) area (g.seen disk) o content stood)
        (opened_stands old (book_of m n) area (g.seen disk) o);
  }

  -- a stop leaves what a read gives
  pub still_there : ((c : List ℕ) → g.left_since disk (g.moment disk) c → g.may_leave disk c) →
      IsAtRest g.seen g.may_leave disk → LeavesOnly g.moment g.left_since disk disk
      (λ b. IsSound b × StandsFor b m.now)
  still_there only_now rest =
      started g.moment g.left_since disk (λ b. IsSound b × StandsFor b m.now)
      (λ c left. subst (λ b. IsSound b × StandsFor b m.now) (sym (rest c (only_now c left))) (
        opened_sound old (book_of m n) area (g.seen disk) o,
        subst (StandsFor (g.seen disk))
            (sym (ap (λ (b : BookState (List Collection)). b.state.now) o.book_is))
            (opened_stands old (book_of m n) area (g.seen disk) o),
      ))

-- ---- a keeper that was just made

pub made_fresh : {D : Type 0} (disk : D) (area : Area) (k : KeeperState D) → k ≡ record {
  disk = disk;
  area = area;
  mark = 0;
  held = None;
  failed = false;
  covered = 0;
  stage = Stage.Idle;
} → IsFresh k
made_fresh disk area k is = subst IsFresh (sym is) (record {
  unmarked = refl;
  holds_none = refl;
  fine = refl;
  covers_none = refl;
  no_image = refl;
})

-- ---- several facts of one answer

pub ok_two : {T E : Type 0} (r : Result T E) (P Q R : T → Type 0) → IfOk r P → IfOk r Q →
    ((x : T) → P x → Q x → R x) → IfOk r R
ok_two (Ok x) P Q R p q f = f x p q
ok_two (Err e) P Q R p q f = tt

pub err_two : {T E : Type 0} (r : Result T E) (P Q R : E → Type 0) → IfErr r P → IfErr r Q →
    ((x : E) → P x → Q x → R x) → IfErr r R
err_two (Ok x) P Q R p q f = tt
err_two (Err e) P Q R p q f = f e p q

pub both_err : {T E : Type 0} (r : Result T E) (P Q : E → Type 0) → IfErr r P → IfErr r Q →
    IfErr r (λ x. P x × Q x)
both_err (Ok x) P Q p q = tt
both_err (Err e) P Q p q = (p, q)

-- why an upgrade is refused, from why what was opened was not brought on
pub upgrade_refusal : (risen rises no_head : Type 0) (is_damaged : ℕ → Type 0)
    (is_long no_room : Type 0) (e : Refusal) → (risen → rises) → (is_long → no_room) →
    IsUpgradeRefusal risen is_long e → IsOpenRefusal rises no_head is_damaged no_room e
upgrade_refusal risen rises no_head is_damaged is_long no_room Refusal.NoMemory f h why = tt
upgrade_refusal risen rises no_head is_damaged is_long no_room Refusal.Full f h why = h why
upgrade_refusal risen rises no_head is_damaged is_long no_room Refusal.Fault f h why = f why
upgrade_refusal risen rises no_head is_damaged is_long no_room e f h why = absurd why

-- from why the image was not taken
pub taking_refusal : (risen rises is_long no_room : Type 0) (e : Refusal) → (risen → rises) →
    (is_long → no_room) → IsTakeRefusal risen is_long e → IsUpgradeRefusal rises no_room e
taking_refusal risen rises is_long no_room Refusal.Full f h why = h why
taking_refusal risen rises is_long no_room Refusal.Fault f h why = f why
taking_refusal risen rises is_long no_room e f h why = absurd why

-- What an opening kept, and what came behind it.
pub kept_then : {D : Type 0} (seen : D → List ℕ) (may_leave : D → List ℕ → Type 0)
    (moment : D → ℕ) (left_since : D → ℕ → List ℕ → Type 0) (old mid new : D)
    (now : List Collection) → KeepsContent seen may_leave moment left_since old mid →
    ((content : List Collection) → StandsFor (seen old) content → now ≡ content) →
    (IsAtRest seen may_leave old →
    LeavesOnly moment left_since mid new (λ b. IsSound b × StandsFor b now)) →
    KeepsContent seen may_leave moment left_since old new
kept_then seen may_leave moment left_since old mid new now kept same behind content rest sound
    stands =
    and_then moment left_since old mid new (λ b. IsSound b × StandsFor b content)
    (λ b. IsSound b × StandsFor b now) (kept content rest sound stands) (behind rest)
    (λ c is. (is.0, subst (StandsFor c) (same content stands) is.1))
