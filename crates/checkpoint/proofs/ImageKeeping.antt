-- An end is held, an image begins, a piece of it is written, and it becomes the store: what was
-- received stays, and at each moment a stop yields what is known.
use Rattle.std.proofs.Common.{◌≡◌, ◌≢◌, ℕ, ◌+◌, ◌≤◌}
use Rattle.std.proofs.Common.{Bool, true, false, true≢false, List, [], ◌∷◌, ◌++◌, length}
use Rattle.std.proofs.Common.{map, sym, ◌∙◌, ap, subst}
use Rattle.std.proofs.Common.{Result, Ok, Err, OnOk}
use Rattle.calls.specs.declared.format.Format.{Format}
use Rattle.calls.specs.Contents.{Collection}
use Rattle.calls.specs.declared.refusal.Refusal.{Refusal}
use Rattle.disk_model.specs.Disk.{Torn, IsAtRest, LeavesOnly}
use Rattle.disk_model.specs.declared.disk.Disk.{Ghosts}
use Rattle.disk_model.proofs.Walk.{weaker, leaves_now}
use Rattle.gate_block.specs.declared.area.Area.{Area}
use Rattle.gate_block.specs.Row.{SameOutside}
use Rattle.gate_block.specs.Area.{base_of, size_of, IsReady}
use Rattle.gate_block.specs.Area.{LeavesElsewhere}
use Rattle.gate_block.specs.Layout.{base_in_use}
use Rattle.records.specs.declared.record.Record.{Record}
use Rattle.records.specs.Records.{spelling}
use Rattle.records.specs.declared.block.Block.{Block}
use Rattle.records.specs.declared.block.Image.{Image}
use Rattle.checkpoint.specs.declared.laying.Laying.{Laying}
use Rattle.checkpoint.specs.declared.stage.Ending.{Ending}
use Rattle.checkpoint.specs.declared.stage.Stage.{Stage}
use Rattle.checkpoint.specs.Imaging.{IsBeingLaid, IsRooted, LeavesRoot, PicksWhole}
use Rattle.checkpoint.specs.Imaging.{left_of}
use Rattle.checkpoint.specs.ImageAnswers.{HoldAnswers, BeginAnswers, PieceAnswers}
use Rattle.checkpoint.specs.ImageAnswers.{FlipAnswers}
use Rattle.checkpoint.specs.Keepers.{KeeperState, IsKeeper}
use Rattle.checkpoint.specs.Crash.{YieldsUpTo}
use Rattle.checkpoint.specs.Keeping.{BegunImage}
use Rattle.checkpoint.specs.Keeping.{HasReceived, LeavesKept, HoldKeeps, BeginKeeps}
use Rattle.checkpoint.specs.Keeping.{ImageKeeps, held_with, begun_with}
use Rattle.checkpoint.proofs.Apart.{still_ready}
use Rattle.checkpoint.proofs.Turning.{beside_is}
use Rattle.checkpoint.proofs.Flipping.{laid_same}
use Rattle.checkpoint.proofs.ReceivedLemmas.{received_once, still_kept}
use Rattle.checkpoint.proofs.ReceivedLemmas.{idle_laid, idle_awaited}
use Rattle.replay.specs.Journals.{records_in}
use Rattle.replay.specs.Steps.{State}
-- two facts of the moments of one run hold together
use Rattle.checkpoint.proofs.ImageInProgress.{is_held, is_begun, is_flipped, is_laid}
use Rattle.checkpoint.proofs.ImageInProgress.{awaiting, on_disk, image, covered, bodies}
use Rattle.checkpoint.proofs.ImageInProgress.{bodies_some, rooted, flip_kept, piece_yields}

-- ---- what the calls answer and leave

-- no image is being written any more: one that was awaited is given up
pub stopped_keeps : {D : Type 0} (g : Ghosts D) (k : KeeperState D) →
    ((c : List ℕ) → g.left_since k.disk (g.moment k.disk) c → g.may_leave k.disk c) →
    ImageKeeps g k (record k { stage = Stage.Idle })
stopped_keeps g k only_now format start wear records now freezes images received had = (
  on_disk g.seen g.may_leave format start wear records now freezes images received k had k.disk
      k.failed
      Stage.Idle had.stop had.in_use (λ fine e is. idle_awaited e _ is)
      (λ fine v is. idle_laid v _ is),
  still_kept g.seen g.may_leave format start wear records now freezes images received k had g.moment
      g.left_since
      only_now,
)

module _ {D : Type 0} (g : Ghosts D) (k l : KeeperState D)
    (only_now : (c : List ℕ) → g.left_since k.disk (g.moment k.disk) c → g.may_leave k.disk c)
    (counts_now : (t : ℕ) (c : List ℕ) → t ≤ g.moment l.disk → g.may_leave l.disk c →
    g.left_since l.disk t c) where
  -- an end is held, or refused
  pub hold_keeps : (e : Ending) (r : Result (Unit {0}) Refusal) → HoldAnswers k e l r →
      HoldKeeps g e.end r k l
  hold_keeps e r a format start wear records now freezes images received groups carried begins
      behind over
      had =
      held_or r a
    where
      Both : List ℕ → KeeperState D → Type 0
      Both ps n = HasReceived g.seen g.may_leave format start wear records now ps images received n
          × LeavesKept g start records k n

      still : LeavesKept g start records k k
      still = still_kept g.seen g.may_leave format start wear records now freezes images received k
          had
          g.moment g.left_since only_now

      held_or : (r : Result (Unit {0}) Refusal) → HoldAnswers k e l r →
          Both (held_with e.end freezes r) l
      held_or (Ok done) a =
          let all = received_once g.seen g.may_leave format start wear records now freezes images
          received
          k had groups carried begins in
          subst (Both (e.end ∷ freezes)) (sym a.2) (
            is_held g.seen g.may_leave format start wear records now freezes images received k had e
                (subst (λ gs. length (records_in gs) ≤ e.end) all behind) over,
            still,
          )
      held_or (Err Refusal.Failed) a = subst (Both freezes) (sym a.1) (had, still)
      held_or (Err Refusal.Imaging) a = subst (Both freezes) (sym a.2) (had, still)
      held_or (Err e) a = absurd a

  -- the image that is awaited begins, or is refused
  pub begin_keeps : (image : Image) (behind : ℕ) → image.blocks.items ≢ [] →
      (r : Result (Unit {0}) Refusal) → BeginAnswers k image behind l r → BeginKeeps g image r k l
  begin_keeps image behind some r a format start wear records now freezes images received begun
      is_for
      stands
      had =
      begun_or r a
    where
      Both : List BegunImage → KeeperState D → Type 0
      Both ims n = HasReceived g.seen g.may_leave format start wear records now freezes ims received
          n
          × LeavesKept g start records k n

      still : LeavesKept g start records k k
      still = still_kept g.seen g.may_leave format start wear records now freezes images received k
          had
          g.moment g.left_since only_now

      begun_or : (r : Result (Unit {0}) Refusal) → BeginAnswers k image behind l r →
          Both (begun_with begun images r) l
      begun_or (Ok done) a =
          let awaited = awaiting k.stage image a.1 in
          subst (Both (begun ∷ images)) (sym a.2.1.2) (
            is_begun g.seen g.may_leave format start wear records now freezes images received k had
                awaited.0 a.0 awaited.1 image awaited.2 some begun is_for stands a.2.1.0 a.2.1.1,
            still,
          )
      begun_or (Err Refusal.Failed) a = subst (Both images) (sym a.1) (had, still)
      begun_or (Err Refusal.Full) a = subst (Both images) (sym a.3)
          (stopped_keeps g k only_now format start wear records now freezes images received had)
      begun_or (Err e) a = subst (Both images) (sym a.2) (had, still)

  module _ (format : Format) (start : List Collection) (wear : ℕ) (records : List Record)
      (now : State)
      (freezes : List ℕ) (images : List BegunImage) (received : List Block)
      (had : HasReceived g.seen g.may_leave format start wear records now freezes images received
      k) where
    abbrev Keeps : Type 0
    Keeps = HasReceived g.seen g.may_leave format start wear records now freezes images received l
        × LeavesKept g start records k l

    -- the keeper is as it was
    same_keeper : l ≡ k → Keeps
    same_keeper same =
        subst (λ (n : KeeperState D). HasReceived g.seen g.may_leave format start wear records now
        freezes
        images
        received n × LeavesKept g start records k n) (sym same) (
          had,
          still_kept g.seen g.may_leave format start wear records now freezes images received k had
              g.moment
              g.left_since only_now,
        )

    -- the keeper failed
    failed_keeper : (stage : Stage) →
        l ≡ record k { disk = l.disk; failed = true; stage = stage } →
        LeavesKept g start records k l → Keeps
    failed_keeper stage same run = (
      subst (HasReceived g.seen g.may_leave format start wear records now freezes images received)
          (sym same)
          (on_disk g.seen g.may_leave format start wear records now freezes images received k had
          l.disk
          true stage
          (leaves_now g.moment g.left_since k.disk l.disk (YieldsUpTo start records k.mark)
          (g.may_leave l.disk) run counts_now)
          (λ fine. absurd (true≢false fine)) (λ fine. absurd (true≢false fine))
          (λ fine. absurd (true≢false fine))),
      run,
    )

    -- What a flip answers and leaves.
    module _ (any_moment : LeavesOnly g.moment g.left_since k.disk l.disk
        (LeavesRoot (g.may_leave k.disk) (g.seen k.disk)))
        (any_moment_whole : (w : Laying) (bodies : List (List ℕ)) → k.stage ≡ Stage.Laid w →
        left_of w ≡ [] → bodies ≢ [] → IsBeingLaid w (g.seen k.disk) bodies →
        IsRooted g.seen g.may_leave k.area k.disk →
        LeavesOnly g.moment g.left_since k.disk l.disk
        (PicksWhole k.area (g.seen k.disk) w.area bodies)) where
      flip_run : (fine : k.failed ≡ false) (v : Laying) (is : k.stage ≡ Stage.Laid v) →
          left_of v ≡ [] →
          LeavesKept g start records k l
      flip_run fine v is none =
          flip_kept g.seen g.may_leave format start wear records now freezes images received k had
          fine v
          is
          g.moment g.left_since l.disk any_moment
          (any_moment_whole v
          (bodies g.seen g.may_leave format start wear records now freezes images received k had
          fine v is)
          is none
          (bodies_some g.seen g.may_leave format start wear records now freezes images received k
          had fine
          v is)
          (had.imaging fine v is).laid
          (rooted g.seen g.may_leave format start wear records now freezes images received k had
          fine v
          is))

      flip_cases : Torn 512 1 (g.seen k.disk) (g.seen l.disk) → (is_risen : Type 0)
          (r : Result ℕ Refusal) → FlipAnswers k is_risen l r →
          ((w : Laying) (bodies : List (List ℕ)) → k.stage ≡ Stage.Laid w → bodies ≢ [] →
          IsBeingLaid w (g.seen k.disk) bodies →
          OnOk r (IsReady g.seen g.may_leave l.area l.disk bodies)) →
          OnOk r (base_in_use (size_of l.area) (g.seen l.disk) ≡ base_of l.area) →
          OnOk r (IsAtRest g.seen g.may_leave l.disk) → Keeps
      flip_cases root is_risen (Ok m) a kept picks rest =
          let fine : k.failed ≡ false = a.0 in
          let v : Laying = a.1.0 in
          let is : k.stage ≡ Stage.Laid v = a.1.1 in
          let next : KeeperState D = record k
          { disk = l.disk; area = v.area; mark = m; covered = v.image.end; stage = Stage.Idle } in
          let same : l ≡ next = a.1.3.1 in
          let area_is : l.area ≡ v.area = ap (λ (x : KeeperState D). x.area) same in
          let bs : List (List ℕ) =
          bodies g.seen g.may_leave format start wear records now freezes images received k had fine
          v
          is in
          let ready : IsReady g.seen g.may_leave v.area l.disk bs =
          subst (λ (x : Area). IsReady g.seen g.may_leave x l.disk bs) area_is
          (kept v bs is
          (bodies_some g.seen g.may_leave format start wear records now freezes images received k
          had fine
          v is)
          (had.imaging fine v is).laid) in
          let there : base_in_use (size_of v.area) (g.seen l.disk) ≡ base_of v.area =
          subst (λ (x : Area). base_in_use (size_of x) (g.seen l.disk) ≡ base_of x) area_is picks
          in (
            subst (HasReceived g.seen g.may_leave format start wear records now freezes images
                received)
                (sym same)
                (is_flipped g.seen g.may_leave format start wear records now freezes images received
                k had
                fine v
                is l.disk m a.1.3.0 ready there rest root),
            flip_run fine v is a.1.2,
          )
      flip_cases root is_risen (Err Refusal.Failed) a kept picks rest = same_keeper a.1
      flip_cases root is_risen (Err Refusal.Unfinished) a kept picks rest = same_keeper a.2
      flip_cases root is_risen (Err Refusal.Fault) a kept picks rest =
          failed_keeper Stage.Idle a.1.3.1 (flip_run a.0 a.1.0 a.1.1 a.1.2)
      flip_cases root is_risen (Err e) a kept picks rest = absurd a.1.3

    -- What a piece answers and leaves.
    module _ (any_moment : (w : Laying) → k.stage ≡ Stage.Laid w →
        LeavesOnly g.moment g.left_since k.disk l.disk
        (LeavesElsewhere (g.may_leave k.disk) w.area))
        (elsewhere : (w : Laying) → k.stage ≡ Stage.Laid w →
        SameOutside (base_of w.area) (size_of w.area) (g.seen k.disk) (g.seen l.disk))
        (kept : (bodies : List (List ℕ)) → IsReady g.seen g.may_leave k.area k.disk bodies →
        IsReady g.seen g.may_leave l.area l.disk bodies) where
      piece_run : (fine : k.failed ≡ false) (v : Laying) → k.stage ≡ Stage.Laid v →
          LeavesKept g start records k l
      piece_run fine v is =
          weaker g.moment g.left_since k.disk l.disk (LeavesElsewhere (g.may_leave k.disk) v.area)
          (YieldsUpTo start records k.mark) (any_moment v is)
          (piece_yields g.seen g.may_leave format start wear records now freezes images received k
          had fine
          v is)

      piece_cases : (is_risen : Type 0) (r : Result Bool Refusal) → PieceAnswers k is_risen l r →
          ((w v : Laying) (bodies : List (List ℕ)) → k.stage ≡ Stage.Laid w →
          l.stage ≡ Stage.Laid v →
          IsBeingLaid w (g.seen k.disk) bodies → OnOk r (IsBeingLaid v (g.seen l.disk) bodies)) →
          Keeps
      piece_cases is_risen (Ok more) a laid =
          let fine : k.failed ≡ false = a.0 in
          let u : Laying = a.1.0 in
          let v : Laying = a.1.1 in
          let is : k.stage ≡ Stage.Laid u = a.1.2 in
          let next : KeeperState D = record k { disk = l.disk; stage = Stage.Laid v } in
          let same : l ≡ next = a.1.4 in
          let bs : List (List ℕ) =
          bodies g.seen g.may_leave format start wear records now freezes images received k had fine
          u
          is in
          let ready : IsReady g.seen g.may_leave k.area l.disk
          (map spelling (had.old ++ had.kept)) =
          subst (λ (x : Area). IsReady g.seen g.may_leave x l.disk
          (map spelling (had.old ++ had.kept))) (ap (λ (x : KeeperState D). x.area) same)
          (kept (map spelling (had.old ++ had.kept)) (had.in_use fine).ready) in
          let left : (c : List ℕ) → g.may_leave l.disk c →
          LeavesElsewhere (g.may_leave k.disk) u.area c =
          leaves_now g.moment g.left_since k.disk l.disk
          (LeavesElsewhere (g.may_leave k.disk) u.area) (g.may_leave l.disk) (any_moment u is)
          counts_now in (
            subst (HasReceived g.seen g.may_leave format start wear records now freezes images
                received)
                (sym same)
                (is_laid g.seen g.may_leave format start wear records now freezes images received k
                had
                fine u is
                l.disk v a.1.3.same left (elsewhere u is) ready
                (laid u v bs is (ap (λ (x : KeeperState D). x.stage) same)
                (had.imaging fine u is).laid)),
            piece_run fine u is,
          )
      piece_cases is_risen (Err Refusal.Failed) a laid = same_keeper a.1
      piece_cases is_risen (Err Refusal.Fault) a laid =
          failed_keeper (Stage.Laid a.2.1) a.2.4 (piece_run a.0 a.2.0 a.2.2)
      piece_cases is_risen (Err e) a laid = absurd a

  pub flip_keeps : LeavesOnly g.moment g.left_since k.disk l.disk
      (LeavesRoot (g.may_leave k.disk) (g.seen k.disk)) →
      ((w : Laying) (bodies : List (List ℕ)) → k.stage ≡ Stage.Laid w → left_of w ≡ [] →
      bodies ≢ [] →
      IsBeingLaid w (g.seen k.disk) bodies → IsRooted g.seen g.may_leave k.area k.disk →
      LeavesOnly g.moment g.left_since k.disk l.disk
      (PicksWhole k.area (g.seen k.disk) w.area bodies)) →
      Torn 512 1 (g.seen k.disk) (g.seen l.disk) → (is_risen : Type 0) (r : Result ℕ Refusal) →
      FlipAnswers k is_risen l r →
      ((w : Laying) (bodies : List (List ℕ)) → k.stage ≡ Stage.Laid w → bodies ≢ [] →
      IsBeingLaid w (g.seen k.disk) bodies →
      OnOk r (IsReady g.seen g.may_leave l.area l.disk bodies)) →
      OnOk r (base_in_use (size_of l.area) (g.seen l.disk) ≡ base_of l.area) →
      OnOk r (IsAtRest g.seen g.may_leave l.disk) → ImageKeeps g k l
  flip_keeps any_moment whole root is_risen r a kept picks rest format start wear records now
      freezes
      images
      received had =
      flip_cases format start wear records now freezes images received had any_moment whole root
      is_risen r
      a kept
      picks rest

  -- u is the image in progress, and v what is left of it then
  pub piece_keeps : (u v : Laying) → k.stage ≡ Stage.Laid u → l.stage ≡ Stage.Laid v →
      LeavesOnly g.moment g.left_since k.disk l.disk
      (LeavesElsewhere (g.may_leave k.disk) u.area) →
      SameOutside (base_of u.area) (size_of u.area) (g.seen k.disk) (g.seen l.disk) →
      ((bodies : List (List ℕ)) → IsReady g.seen g.may_leave k.area k.disk bodies →
      IsReady g.seen g.may_leave l.area l.disk bodies) → (is_risen : Type 0)
      (r : Result Bool Refusal) → PieceAnswers k is_risen l r →
      ((bodies : List (List ℕ)) → IsBeingLaid u (g.seen k.disk) bodies →
      OnOk r (IsBeingLaid v (g.seen l.disk) bodies)) → ImageKeeps g k l
  piece_keeps u v is_u is_v any_moment elsewhere kept is_risen r a laid format start wear records
      now
      freezes images received had =
      piece_cases format start wear records now freezes images received had
      (λ w is. subst (λ (x : Laying). LeavesOnly g.moment g.left_since k.disk l.disk
      (LeavesElsewhere (g.may_leave k.disk) x.area)) (laid_same u w (sym is_u ∙ is)) any_moment)
      (λ w is. subst (λ (x : Laying). SameOutside (base_of x.area) (size_of x.area) (g.seen k.disk)
      (g.seen l.disk)) (laid_same u w (sym is_u ∙ is)) elsewhere)
      kept is_risen r a
      (λ w x bodies was then being.
      subst (λ (y : Laying). OnOk r (IsBeingLaid y (g.seen l.disk) bodies))
      (laid_same v x (sym is_v ∙ then))
      (laid bodies (subst (λ (y : Laying). IsBeingLaid y (g.seen k.disk) bodies)
      (sym (laid_same u w (sym is_u ∙ was))) being)))

-- the area in use stays ready while a piece is written beside it
pub piece_ready : {D : Type 0} (g : Ghosts D) (k : KeeperState D) (w : Laying) (new : D) →
    IsKeeper g.seen k → k.stage ≡ Stage.Laid w →
    SameOutside (base_of w.area) (size_of w.area) (g.seen k.disk) (g.seen new) →
    LeavesOnly g.moment g.left_since k.disk new (LeavesElsewhere (g.may_leave k.disk) w.area) →
    ((t : ℕ) (c : List ℕ) → t ≤ g.moment new → g.may_leave new c → g.left_since new t c) →
    (bodies : List (List ℕ)) → IsReady g.seen g.may_leave k.area k.disk bodies →
    IsReady g.seen g.may_leave k.area new bodies
piece_ready g k w new held is elsewhere run counts_now bodies ready =
    still_ready g.seen g.may_leave k.area w.area (length (g.seen k.disk)) k.disk new bodies held.one
    (beside_is g.seen k w held is).other elsewhere
    (leaves_now g.moment g.left_since k.disk new (LeavesElsewhere (g.may_leave k.disk) w.area)
    (g.may_leave new) run counts_now)
    ready

-- a call that leaves the keeper as it was
pub image_still : {D : Type 0} (g : Ghosts D) (k : KeeperState D) →
    ((c : List ℕ) → g.left_since k.disk (g.moment k.disk) c → g.may_leave k.disk c) →
    ImageKeeps g k k
image_still g k only_now format start wear records now freezes images received had = (
  had,
  still_kept g.seen g.may_leave format start wear records now freezes images received k had g.moment
      g.left_since
      only_now,
)
