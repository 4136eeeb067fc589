-- An image in progress: what was received stays on another disk, with one more of its blocks, and
-- as it becomes the store.
use Rattle.std.proofs.Common.{◌≡◌, ◌≢◌, ◌⊎◌, inl, inr, ⊎_elim, ℕ, zero, suc, ◌+◌, ◌*◌, ◌%◌, ◌≤◌}
use Rattle.std.proofs.Common.{◌<◌, max, Bool, false, List, [], ◌∷◌, ◌++◌, length}
use Rattle.std.proofs.Common.{map, take, get_or, refl, sym, ◌∙◌, ap, subst, arith, append_assoc}
use Rattle.std.proofs.Common.{length-append, eq-or-lt_of_le, Contains}
use Rattle.std.proofs.lemmas.List.{append-nil}
use Rattle.std.proofs.lemmas.List.Elements.{All-cons, All-weaker, Contains-append_right}
use Rattle.calls.specs.declared.format.Format.{Format}
use Rattle.calls.specs.Contents.{Collection}
use Rattle.disk_model.specs.Disk.{Torn, IsAtRest, LeavesOnly}
use Rattle.gate_block.specs.declared.area.Area.{Area}
use Rattle.gate_block.specs.Row.{IsRow, SameOutside}
use Rattle.gate_block.specs.Area.{base_of, size_of, offset_of, bytes_of, IsReady}
use Rattle.gate_block.specs.Area.{LeavesElsewhere}
use Rattle.gate_block.specs.Layout.{base_in_use}
use Rattle.records.specs.declared.record.Record.{Record}
use Rattle.records.specs.Records.{spelling}
use Rattle.records.specs.Acts.{places}
use Rattle.records.specs.declared.block.Block.{Block}
use Rattle.records.specs.declared.block.Image.{Image}
use Rattle.records.proofs.Places.{places_append}
use Rattle.checkpoint.specs.declared.laying.Laying.{Laying}
use Rattle.checkpoint.specs.declared.stage.Ending.{Ending}
use Rattle.checkpoint.specs.declared.stage.Stage.{Stage}
use Rattle.checkpoint.specs.Imaging.{IsOther, IsBeingLaid, IsRooted, LeavesRoot, PicksWhole}
use Rattle.checkpoint.specs.Imaging.{IsSameImage, IsAwaited, EndsThere, left_of, bodies_of}
use Rattle.checkpoint.specs.ImageAnswers.{IsStarted}
use Rattle.checkpoint.specs.Keepers.{KeeperState, IsOneOfTwo}
use Rattle.checkpoint.specs.Stored.{StandIn}
use Rattle.checkpoint.specs.DiskHeads.{IsHeaded, IsInUse}
use Rattle.checkpoint.specs.Crash.{YieldsUpTo}
use Rattle.checkpoint.specs.Keeping.{BegunImage, IsImageFor, IsApart, IsHolding, IsImaging}
use Rattle.checkpoint.specs.Keeping.{HasReceived}
use Rattle.checkpoint.proofs.Apart.{back, apart}
use Rattle.checkpoint.proofs.Flipping.{laid_same}
use Rattle.checkpoint.proofs.StandLemmas.{shorter_beginning}
use Rattle.checkpoint.proofs.HeadLemmas.{same_front, same_at, head_header, head_headed}
use Rattle.checkpoint.proofs.YieldLemmas.{row_yields}
use Rattle.checkpoint.proofs.GroupLemmas.{apart_behind, whole_bodies, some_groups}
use Rattle.records.proofs.Carrying.{joined-append}
use Rattle.checkpoint.proofs.ReceivedLemmas.{idle_laid, idle_awaited}
use Rattle.replay.specs.Journals.{IsHeader, records_in}
use Rattle.replay.specs.Steps.{State}

both_hold : {D : Type 0} (moment : D → ℕ) (left_since : D → ℕ → List ℕ → Type 0) (old new : D)
    (P Q R : List ℕ → Type 0) → LeavesOnly moment left_since old new P →
    LeavesOnly moment left_since old new Q → ((c : List ℕ) → P c → Q c → R c) →
    LeavesOnly moment left_since old new R
both_hold moment left_since old new P Q R first second here = record {
  later = first.later;
  each = λ c left. here c (first.each c left) (second.each c left);
  before = λ t c le left. ⊎_elim (λ was. inl was)
      (λ p. ⊎_elim (λ was. inl was) (λ q. inr (here c p q)) (second.before t c le left))
      (first.before t c le left);
}

-- ---- heads of disks

-- the area that a root byte picks is one of two
one_more : (size r : ℕ) → r < 2 → (4096 + size * r ≡ 4096) ⊎ (4096 + size * r ≡ 4096 + size)
one_more size zero less = inl (omega arith)
one_more size (suc zero) less = inr (omega arith)
one_more size (suc (suc r)) less = absurd (omega (arith, less))

headed_one : (f : Format) (area : Area) (c : List ℕ) → IsHeaded f area c →
    IsOneOfTwo area (length c)
headed_one f area c headed = record {
  whole = headed.header.whole;
  base = ⊎_elim (λ first. inl (sym headed.picks ∙ first))
      (λ second. inr (sym headed.picks ∙ second))
      (one_more (size_of area) (get_or c 512 0 % 2) (omega arith));
}

-- ---- small things

empty_map : (blocks : List (List Record)) → map spelling blocks ≡ [] → blocks ≡ []
empty_map [] e = refl
empty_map (b ∷ blocks) e = absurd (omega (arith, ap length e))

awaited_same : (e x : Ending) → Stage.Awaited e ≡ Stage.Awaited x → e ≡ x
awaited_same e x is = cc

awaited_laid : (e : Ending) (l : Laying) (A : Type 0) → Stage.Awaited e ≡ Stage.Laid l → A
awaited_laid e l A is = cc

-- the image that is awaited ends at the end that is held
pub awaiting : (s : Stage) (image : Image) → IsAwaited s image →
    (e : Ending) × (s ≡ Stage.Awaited e) × EndsThere e image
awaiting (Stage.Awaited e) image there = (e, refl, there)
awaiting Stage.Idle image there = absurd there
awaiting (Stage.Laid w) image there = absurd there

-- all of an image that begins is left
none_laid : (v : Laying) (disk : List ℕ) → offset_of v.area ≡ 0 →
    IsBeingLaid v disk (bodies_of (left_of v))
none_laid v disk at = record {
  laid = [];
  stands = record { offset = at; holds = λ some. absurd (some refl) };
  all = refl;
}

-- ---- another disk, and another image in progress, with the same blocks in use

module _ {D : Type 0} (seen : D → List ℕ) (may_leave : D → List ℕ → Type 0)
    (format : Format) (start : List Collection) (wear : ℕ) (records : List Record) (now : State)
    (freezes : List ℕ) (images : List BegunImage) (received : List Block) (k : KeeperState D)
    (had : HasReceived seen may_leave format start wear records now freezes images received k) where
  pub on_disk : (disk : D) (failed : Bool) (stage : Stage) →
      ((c : List ℕ) → may_leave disk c → YieldsUpTo start records k.mark c) →
      (failed ≡ false → IsInUse seen may_leave format k.area disk (had.old ++ had.kept)) →
      (failed ≡ false → (e : Ending) → stage ≡ Stage.Awaited e →
      IsHolding freezes (length had.covered + length (records_in had.kept)) e) →
      (failed ≡ false → (l : Laying) → stage ≡ Stage.Laid l →
      IsImaging seen format start wear records now images disk k.area
      (length had.covered + length (records_in had.kept)) l) →
      HasReceived seen may_leave format start wear records now freezes images received
      (record k { disk = disk; failed = failed; stage = stage })
  on_disk disk failed stage stop in_use holding imaging = record {
    good = had.good;
    brought = had.brought;
    parts = had.parts;
    groups = had.groups;
    carried = had.carried;
    last = had.last;
    held = had.held;
    rest = had.rest;
    begins = had.begins;
    uncrossed = had.uncrossed;
    frozen = had.frozen;
    old = had.old;
    covered = had.covered;
    stands = had.stands;
    source = had.source;
    kept = had.kept;
    later = had.later;
    split = had.split;
    reaches = had.reaches;
    even = had.even;
    covers = had.covers;
    marked = had.marked;
    stop = stop;
    in_use = in_use;
    holding = holding;
    imaging = imaging;
  }

  -- ---- an end is held

  module _ (e : Ending) (behind : length (records_in (had.groups ++ had.last)) ≤ e.end)
      (over : k.covered ≤ e.end) where
    -- so nothing that is kept is past it
    ahead : length had.covered + length (records_in had.kept) ≤ e.end
    ahead =
        let most : length (records_in had.groups) ≤ e.end = omega (
          arith,
          behind,
          ap length (joined-append had.groups had.last),
          length-append (records_in had.groups) (records_in had.last),
        ) in
        ⊎_elim
        (λ (same : length (records_in had.groups) ≡
        length had.covered + length (records_in had.kept)). omega (arith, same, most))
        (λ (past : length (records_in had.groups) <
        length had.covered + length (records_in had.kept)).
        omega (arith, over, had.covers, ap (λ g. length (records_in g)) (had.even past)))
        (eq-or-lt_of_le had.reaches)

    holds : IsHolding (e.end ∷ freezes) (length had.covered + length (records_in had.kept)) e
    holds = record { frozen = (0, omega arith, refl); ahead = ahead }

    pub is_held : HasReceived seen may_leave format start wear records now (e.end ∷ freezes) images
        received
        (record k { stage = Stage.Awaited e })
    is_held = record {
      good = had.good;
      brought = had.brought;
      parts = had.parts;
      groups = had.groups;
      carried = had.carried;
      last = had.last;
      held = had.held;
      rest = had.rest;
      begins = had.begins;
      uncrossed = All-cons (λ p. IsApart 0 (had.groups ++ had.last) p) e.end freezes
          (apart_behind 0 (had.groups ++ had.last) e.end (omega (arith, behind))) had.uncrossed;
      frozen = All-weaker (λ i. Contains freezes (length i.covered))
          (λ i. Contains (e.end ∷ freezes) (length i.covered))
          (λ i one. Contains-append_right (e.end ∷ []) freezes _ one) images had.frozen;
      old = had.old;
      covered = had.covered;
      stands = had.stands;
      source = had.source;
      kept = had.kept;
      later = had.later;
      split = had.split;
      reaches = had.reaches;
      even = had.even;
      covers = had.covers;
      marked = had.marked;
      stop = had.stop;
      in_use = had.in_use;
      holding = λ fine x is. subst (λ (y : Ending). IsHolding (e.end ∷ freezes)
          (length had.covered + length (records_in had.kept)) y) (awaited_same e x is) holds;
      imaging = λ fine l is. awaited_laid e l _ is;
    }

  -- ---- the image that is awaited begins

  module _ (e : Ending) (fine : k.failed ≡ false) (awaited : k.stage ≡ Stage.Awaited e)
      (image : Image) (there : EndsThere e image) (some : image.blocks.items ≢ [])
      (begun : BegunImage) (is_for : IsImageFor image begun)
      (stands : StandIn format start wear records now begun.blocks begun.covered)
      (area : Area) (started : IsStarted k.area area) where
    abbrev laying : Laying
    laying = record { area = area; image = image }

    held : IsHolding freezes (length had.covered + length (records_in had.kept)) e
    held = had.holding fine e awaited

    at_end : e.end ≡ length begun.covered
    at_end = sym there.0 ∙ is_for.end

    imaging : IsImaging seen format start wear records now (begun ∷ images) k.disk k.area
        (length had.covered + length (records_in had.kept)) laying
    imaging = record {
      other = started.other;
      image = begun;
      begun = (0, omega arith, refl);
      some = some_groups image.blocks.items begun.blocks is_for.whole some;
      stands = stands;
      end = is_for.end;
      place = is_for.place;
      laid = subst (λ bs. IsBeingLaid laying (seen k.disk) bs)
          (whole_bodies image.blocks.items begun.blocks is_for.whole)
          (none_laid laying (seen k.disk) started.offset);
      ahead = omega (arith, held.ahead, there.0);
    }

    pub is_begun : HasReceived seen may_leave format start wear records now freezes (begun ∷ images)
        received
        (record k { stage = Stage.Laid laying })
    is_begun = record {
      good = had.good;
      brought = had.brought;
      parts = had.parts;
      groups = had.groups;
      carried = had.carried;
      last = had.last;
      held = had.held;
      rest = had.rest;
      begins = had.begins;
      uncrossed = had.uncrossed;
      frozen = All-cons (λ i. Contains freezes (length i.covered)) begun images
          (subst (Contains freezes) at_end held.frozen) had.frozen;
      old = had.old;
      covered = had.covered;
      stands = had.stands;
      source = ⊎_elim (λ empty. inl empty)
          (λ one. inr (Contains-append_right (begun ∷ []) images _ one)) had.source;
      kept = had.kept;
      later = had.later;
      split = had.split;
      reaches = had.reaches;
      even = had.even;
      covers = had.covers;
      marked = had.marked;
      stop = had.stop;
      in_use = had.in_use;
      holding = λ f x is. awaited_laid x laying _ (sym is);
      imaging = λ f v is. subst (λ (x : Laying). IsImaging seen format start wear records now
          (begun ∷ images) k.disk k.area (length had.covered + length (records_in had.kept)) x)
          (laid_same laying v is) imaging;
    }

-- ---- an image in progress: one that is all written is the store, and one more of its blocks is
-- laid

module _ {D : Type 0} (seen : D → List ℕ) (may_leave : D → List ℕ → Type 0)
    (format : Format) (start : List Collection) (wear : ℕ) (records : List Record) (now : State)
    (freezes : List ℕ) (images : List BegunImage) (received : List Block) (k : KeeperState D)
    (had : HasReceived seen may_leave format start wear records now freezes images received k)
    (fine : k.failed ≡ false) (l : Laying) (is : k.stage ≡ Stage.Laid l) where
  abbrev used : IsInUse seen may_leave format k.area k.disk (had.old ++ had.kept)
  used = had.in_use fine

  abbrev pub image : IsImaging seen format start wear records now images k.disk k.area
      (length had.covered + length (records_in had.kept)) l
  image = had.imaging fine l is

  abbrev blocks : List (List Record)
  blocks = image.image.blocks

  abbrev pub covered : List Record
  covered = image.image.covered

  abbrev pub bodies : List (List ℕ)
  bodies = map spelling blocks

  pub bodies_some : bodies ≢ []
  bodies_some e = image.some (empty_map blocks e)

  pub rooted : IsRooted seen may_leave k.area k.disk
  rooted = record {
    picks = used.head.headed.picks;
    root_at_rest = λ c left. same_at 4096 512 c (seen k.disk) (omega arith)
        (used.head.head_at_rest c left);
    area_at_rest = used.ready.at_rest;
  }

  -- what was stored before is a beginning of what the image covers
  marked_new : k.mark ≤ places covered
  marked_new =
      let stored : List Record = had.covered ++ records_in had.kept in
      let parts : stored ++ had.later ≡ covered ++ image.stands.since =
      append_assoc had.covered (records_in had.kept) had.later ∙
      sym (ap (λ x. had.covered ++ x) had.split) ∙ sym had.stands.split ∙ image.stands.split in
      let more = shorter_beginning stored covered had.later image.stands.since parts
      (omega (
        arith,
        length-append had.covered (records_in had.kept),
        image.ahead,
        image.end,
      )) in
      omega (
        arith,
        had.marked,
        places_append had.covered (records_in had.kept),
        ap places more.1,
        places_append stored more.0,
      )

  -- what a stop leaves while the root byte is written has the header of the disk
  moment_header : (c : List ℕ) → LeavesRoot (may_leave k.disk) (seen k.disk) c →
      IsHeader used.head.headed.version (size_of k.area) c
  moment_header c leaves =
      ⊎_elim (λ left. head_header used.head.headed.version (size_of k.area) 4096 (seen k.disk) c
      (omega arith)
      (used.head.head_at_rest c left) (used.head.same_size c left) used.head.headed.header)
      (λ (torn : Torn 512 1 (seen k.disk) c). head_header used.head.headed.version
      (size_of k.area) 512 (seen k.disk) c
      (omega arith) torn.before torn.size used.head.headed.header)
      leaves

  -- the header, and the root byte, of the image's area
  image_headed : (c : List ℕ) → IsHeader used.head.headed.version (size_of k.area) c →
      base_in_use (size_of k.area) c ≡ base_of l.area → IsHeaded format l.area c
  image_headed c header picks = record {
    version = used.head.headed.version;
    allowed = used.head.headed.allowed;
    header = subst (λ n. IsHeader used.head.headed.version n c) (sym image.other.size) header;
    picks = ap (λ n. base_in_use n c) image.other.size ∙ picks;
  }

  none_behind : map spelling (blocks ++ []) ≡ bodies
  none_behind = ap (map spelling) (append-nil blocks)

  -- the blocks of the image, alone in their area, yield what is known
  image_yields : (m : ℕ) (c : List ℕ) → m ≤ places covered → IsHeaded format l.area c →
      IsRow bodies (bytes_of l.area c) →
      YieldsUpTo start records m c
  image_yields m c few headed row =
      row_yields format start wear records now blocks covered image.stands had.good []
      image.stands.since
      refl l.area m c (omega (arith, few)) headed
      (subst (λ x. IsRow x (bytes_of l.area c)) (sym none_behind) row)

  moment_yields : (c : List ℕ) → LeavesRoot (may_leave k.disk) (seen k.disk) c →
      PicksWhole k.area (seen k.disk) l.area bodies c →
      YieldsUpTo start records k.mark c
  moment_yields c leaves whole =
      ⊎_elim
      (λ (old : (base_in_use (size_of k.area) c ≡ base_of k.area) ×
      (bytes_of k.area c ≡ bytes_of k.area (seen k.disk))).
      row_yields format start wear records now had.old had.covered had.stands had.good had.kept
      had.later
      had.split k.area k.mark c had.marked
      (record {
        version = used.head.headed.version;
        allowed = used.head.headed.allowed;
        header = moment_header c leaves;
        picks = old.0;
      })
      (subst (λ x. IsRow (map spelling (had.old ++ had.kept)) x) (sym old.1) used.ready.holds))
      (λ (new : (base_in_use (size_of k.area) c ≡ base_of l.area) ×
      IsRow bodies (bytes_of l.area c)).
      image_yields k.mark c marked_new (image_headed c (moment_header c leaves) new.0) new.1)
      whole

  -- at each moment of the flip
  pub flip_kept : (moment : D → ℕ) (left_since : D → ℕ → List ℕ → Type 0) (disk : D) →
      LeavesOnly moment left_since k.disk disk (LeavesRoot (may_leave k.disk) (seen k.disk)) →
      LeavesOnly moment left_since k.disk disk (PicksWhole k.area (seen k.disk) l.area bodies) →
      LeavesOnly moment left_since k.disk disk
      (YieldsUpTo start records k.mark)
  flip_kept moment left_since disk first second =
      both_hold moment left_since k.disk disk _ _ _ first second moment_yields

  -- once the root byte is written and synced
  module _ (disk : D) (mark : ℕ) (mark_is : mark ≡ max k.mark l.image.place)
      (ready : IsReady seen may_leave l.area disk bodies)
      (picks : base_in_use (size_of l.area) (seen disk) ≡ base_of l.area)
      (rest : IsAtRest seen may_leave disk) (torn : Torn 512 1 (seen k.disk) (seen disk)) where
    now_headed : IsHeaded format l.area (seen disk)
    now_headed = record {
      version = used.head.headed.version;
      allowed = used.head.headed.allowed;
      header = subst (λ n. IsHeader used.head.headed.version n (seen disk)) (sym image.other.size)
          (head_header used.head.headed.version (size_of k.area) 512 (seen k.disk) (seen disk)
          (omega arith) torn.before
          torn.size used.head.headed.header);
      picks = picks;
    }

    few : mark ≤ places covered
    few = omega (arith, mark_is, marked_new, image.place)

    pub is_flipped : HasReceived seen may_leave format start wear records now freezes images received
        (record k {
          disk = disk;
          area = l.area;
          covered = l.image.end;
          stage = Stage.Idle;
          mark = mark;
        })
    is_flipped = record {
      good = had.good;
      brought = had.brought;
      parts = had.parts;
      groups = had.groups;
      carried = had.carried;
      last = had.last;
      held = had.held;
      rest = had.rest;
      begins = had.begins;
      uncrossed = had.uncrossed;
      frozen = had.frozen;
      old = blocks;
      covered = covered;
      stands = image.stands;
      source = inr image.begun;
      kept = [];
      later = image.stands.since;
      split = refl;
      reaches = omega (arith, had.reaches, image.ahead, image.end);
      even = λ less. refl;
      covers = image.end;
      marked = omega (arith, few);
      stop = λ c left.
          subst (YieldsUpTo start records mark)
          (sym (rest c left)) (image_yields mark (seen disk) few now_headed ready.holds);
      in_use = λ same. record {
        ready = subst (λ x. IsReady seen may_leave l.area disk x) (sym none_behind) ready;
        head = record {
          headed = now_headed;
          head_at_rest = λ c left. ap (λ x. take 4096 x) (rest c left);
          same_size = λ c left. ap length (rest c left);
        };
      };
      holding = λ same e one. idle_awaited e _ one;
      imaging = λ same v one. idle_laid v _ one;
    }

  -- what changes in the image's area alone leaves the head and the area in use
  pub one : IsOneOfTwo k.area (length (seen k.disk))
  one = headed_one format k.area (seen k.disk) used.head.headed

  turned : IsOneOfTwo l.area (length (seen k.disk)) × IsOther l.area k.area
  turned = back k.area l.area (length (seen k.disk)) one image.other

  area_same : (d c : List ℕ) → SameOutside (base_of l.area) (size_of l.area) d c →
      bytes_of k.area c ≡ bytes_of k.area d
  area_same d c same = apart l.area k.area (length (seen k.disk)) d c turned.0 turned.1 same

  head_same : (d c : List ℕ) → SameOutside (base_of l.area) (size_of l.area) d c →
      take 4096 c ≡ take 4096 d
  head_same d c same = same_front 4096 (base_of l.area) c d
      (⊎_elim (λ first. omega (arith, first)) (λ second. omega (arith, second)) turned.0.base)
      same.before

  abbrev Piecing : List ℕ → Type 0
  Piecing c = LeavesElsewhere (may_leave k.disk) l.area c

  piece_head : (c : List ℕ) → Piecing c → take 4096 c ≡ take 4096 (seen k.disk)
  piece_head c leaves = head_same leaves.0 c leaves.2 ∙ used.head.head_at_rest leaves.0 leaves.1

  piece_size : (c : List ℕ) → Piecing c → length c ≡ length (seen k.disk)
  piece_size c leaves = leaves.2.same_size ∙ used.head.same_size leaves.0 leaves.1

  pub piece_yields : (c : List ℕ) → Piecing c →
      YieldsUpTo start records k.mark c
  piece_yields c leaves =
      row_yields format start wear records now had.old had.covered had.stands had.good had.kept
      had.later
      had.split k.area k.mark c had.marked
      (head_headed format k.area (seen k.disk) c (piece_head c leaves) (piece_size c leaves)
      used.head.headed)
      (subst (λ x. IsRow (map spelling (had.old ++ had.kept)) x)
      (sym (area_same leaves.0 c leaves.2 ∙ used.ready.at_rest leaves.0 leaves.1))
      used.ready.holds)

  -- a block more of the image is laid
  module _ (disk : D) (v : Laying) (same : IsSameImage l v)
      (piecing : (c : List ℕ) → may_leave disk c → Piecing c)
      (elsewhere : SameOutside (base_of l.area) (size_of l.area) (seen k.disk) (seen disk))
      (ready : IsReady seen may_leave k.area disk (map spelling (had.old ++ had.kept)))
      (laid : IsBeingLaid v (seen disk) bodies) where
    still_used : IsInUse seen may_leave format k.area disk (had.old ++ had.kept)
    still_used =
        let head : take 4096 (seen disk) ≡ take 4096 (seen k.disk) =
        head_same (seen k.disk) (seen disk) elsewhere in record {
          ready = ready;
          head = record {
            headed = head_headed format k.area (seen k.disk) (seen disk) head elsewhere.same_size
                used.head.headed;
            head_at_rest = λ c left. piece_head c (piecing c left) ∙ sym head;
            same_size = λ c left. piece_size c (piecing c left) ∙ sym elsewhere.same_size;
          };
        }

    still_imaging : IsImaging seen format start wear records now images disk k.area
        (length had.covered + length (records_in had.kept)) v
    still_imaging = record {
      other = record {
        size = same.size ∙ image.other.size;
        base = ap (λ n. base_of k.area + n) same.base ∙ image.other.base;
      };
      image = image.image;
      begun = image.begun;
      some = image.some;
      stands = image.stands;
      end = same.end ∙ image.end;
      place = same.place ∙ image.place;
      laid = laid;
      ahead = omega (arith, image.ahead, same.end);
    }

    pub is_laid : HasReceived seen may_leave format start wear records now freezes images received
        (record k { disk = disk; failed = k.failed; stage = Stage.Laid v })
    is_laid =
        on_disk seen may_leave format start wear records now freezes images received k had disk
        k.failed
        (Stage.Laid v)
        (λ c left. piece_yields c (piecing c left)) (λ f. still_used)
        (λ f e is. awaited_laid e v _ (sym is))
        (λ f x e. subst (λ (y : Laying). IsImaging seen format start wear records now images disk
        k.area
        (length had.covered + length (records_in had.kept)) y) (laid_same v x e) still_imaging)
