-- A turn of a keeper, answer by answer: it has received what it took, and at each moment a stop
-- yields what is known.
use Rattle.std.proofs.Common.{◌≡◌, ⊎_elim, ℕ, ◌+◌, ◌≤◌, ◌<◌, max, Bool, true, false}
use Rattle.std.proofs.Common.{true≢false, List, [], ◌∷◌, ◌++◌, length, map, take, refl, sym, ◌∙◌}
use Rattle.std.proofs.Common.{ap}
use Rattle.std.proofs.Common.{subst, arith, append_assoc, length-append, eq-or-lt_of_le, Option}
use Rattle.std.proofs.Common.{Some, None, Result, Ok, Err, Contains}
use Rattle.std.proofs.lemmas.List.Elements.{All-contains}
use Rattle.std.proofs.lemmas.List.{map-append, append-nil}
use mathlib.Core.List.{IsPrefix}
use Rattle.calls.specs.declared.refusal.Refusal.{Refusal}
use Rattle.calls.specs.declared.format.Format.{Format}
use Rattle.calls.specs.Contents.{Collection}
use Rattle.disk_model.specs.Disk.{LeavesOnly}
use Rattle.disk_model.specs.declared.disk.Disk.{Ghosts}
use Rattle.disk_model.proofs.Walk.{weaker}
use Rattle.gate_block.specs.declared.area.Area.{Area}
use Rattle.gate_block.specs.Row.{IsRow, IsBlockOf, SameOutside}
use Rattle.gate_block.specs.Area.{base_of, size_of, bytes_of, IsReady, LeavesBlocks}
use Rattle.gate_block.specs.Layout.{base_in_use}
use Rattle.gate_block.proofs.Facts.{leaves_blocks_now}
use Rattle.records.specs.declared.block.Block.{Block}
use Rattle.records.proofs.Places.{places_append}
use Rattle.records.specs.declared.record.Record.{Record}
use Rattle.records.specs.Records.{spelling}
use Rattle.records.specs.Acts.{places}
use Rattle.replay.specs.Journals.{IsHeader, records_in}
use Rattle.replay.specs.Steps.{State}
use Rattle.checkpoint.specs.declared.turn.Turn.{Turn}
use Rattle.checkpoint.specs.declared.laying.Laying.{Laying}
use Rattle.checkpoint.specs.declared.stage.Ending.{Ending}
use Rattle.checkpoint.specs.declared.stage.Stage.{Stage}
use Rattle.checkpoint.specs.Imaging.{IsBeingLaid}
use Rattle.std.specs.Option.{option_to_list}
use Rattle.checkpoint.specs.Keepers.{KeeperState, IsPast, OnKept, IsBrought, BringAnswers}
use Rattle.records.specs.Carried.{IsCarried, Carries}
use Rattle.checkpoint.specs.DiskHeads.{IsHeaded, HasHead, IsInUse}
use Rattle.checkpoint.specs.Crash.{YieldsUpTo}
use Rattle.checkpoint.specs.Keeping.{BegunImage, IsApart, Uncrossed, IsHolding, IsImaging}
use Rattle.checkpoint.specs.Keeping.{HasReceived}
use Rattle.checkpoint.specs.Keeping.{LeavesKept, TurnKeeps}
use Rattle.checkpoint.proofs.StandLemmas.{same_beginning, shorter_beginning}
use Rattle.checkpoint.proofs.HeadLemmas.{head_headed, lies_behind, outside_head}
use Rattle.checkpoint.proofs.YieldLemmas.{row_yields}
use Rattle.records.proofs.Carrying.{joined-append, joined-push, some_record}
use Rattle.records.proofs.Carrying.{carries_append, carries_one, one_carried, carries_parts}
use Rattle.checkpoint.proofs.GroupLemmas.{same_groups, apart_back, apart_frozen}
use Rattle.checkpoint.proofs.ReceivedLemmas.{all_carried, all_begin, use_yields, still_kept}

-- ---- small things

none_carried : (end place : ℕ) (gs : List (List Record)) → Carries end place [] gs → gs ≡ []
none_carried end place [] is = refl
none_carried end place (g ∷ gs) is = absurd is

-- where nothing that is brought is covered, all records of the blocks that were brought are stored,
-- and no others
all_stored : (front covered : ℕ) (kept : List (List Record)) →
    front ≤ covered + length (records_in kept) →
    (front < covered + length (records_in kept) → kept ≡ []) → covered ≤ front →
    front ≡ covered + length (records_in kept)
all_stored front covered kept reaches even below =
    ⊎_elim (λ same. same)
    (λ less. let none : length (records_in kept) ≡ 0 =
    ap (λ k. length (records_in k)) (even less) in omega (arith, none, below, reaches))
    (eq-or-lt_of_le reaches)

-- ---- a block is received, and held

module _ {D : Type 0} (seen : D → List ℕ) (may_leave : D → List ℕ → Type 0)
    (format : Format) (start : List Collection) (wear : ℕ) (records : List Record) (now : State)
    (freezes : List ℕ) (images : List BegunImage) (received : List Block) (k : KeeperState D)
    (had : HasReceived seen may_leave format start wear records now freezes images received k)
    (none : k.held ≡ None) (b : Block) (groups : List (List Record))
    (carried : Carries 0 0 (received ++ b ∷ []) groups)
    (begins : IsPrefix (records_in groups) records) (uncrossed : Uncrossed freezes groups) where
  abbrev apart : (first more : List (List Record)) × (groups ≡ first ++ more) ×
      Carries 0 0 received first ×
      Carries (0 + length (records_in first)) (0 + places (records_in first)) (b ∷ []) more
  apart = carries_parts 0 0 received (b ∷ []) groups carried

  last_none : had.last ≡ []
  last_none = none_carried (length (records_in had.groups)) (places (records_in had.groups))
      had.last
      (subst (λ h. Carries (length (records_in had.groups)) (places (records_in had.groups))
      (option_to_list h) had.last) none had.held)

  first_is : apart.0 ≡ had.groups
  first_is =
      let split : records_in apart.0 ++ (records_in apart.1 ++ begins.0) ≡
      records_in (had.groups ++ had.last) ++ had.rest =
      sym (append_assoc (records_in apart.0) (records_in apart.1) begins.0) ∙
      ap (λ l. l ++ begins.0) (sym (joined-append apart.0 apart.1)) ∙
      ap (λ g. records_in g ++ begins.0) (sym apart.2) ∙ begins.1 ∙
      all_begin seen may_leave format start wear records now freezes images received k had in
      (same_groups 0 0 received apart.0 (had.groups ++ had.last) (records_in apart.1 ++ begins.0)
      had.rest apart.3
      (all_carried seen may_leave format start wear records now freezes images received k had)
      split).0 ∙
      ap (λ l. had.groups ++ l) last_none ∙ append-nil had.groups

  groups_are : groups ≡ had.groups ++ apart.1
  groups_are = apart.2 ∙ ap (λ l. l ++ apart.1) first_is

  pub received_one : HasReceived seen may_leave format start wear records now freezes images
      (received ++ b ∷ [])
      (record k { held = Some b })
  received_one = record {
    good = had.good;
    brought = had.brought;
    parts = ap (λ l. l ++ b ∷ [])
        (had.parts ∙ ap (λ h. had.brought ++ option_to_list h) none ∙ append-nil had.brought);
    groups = had.groups;
    carried = had.carried;
    last = apart.1;
    held = subst (λ g. Carries (length (records_in g)) (places (records_in g)) (b ∷ []) apart.1)
        first_is
        (subst (λ n. Carries n (places (records_in apart.0)) (b ∷ []) apart.1) (omega arith)
        (subst (λ n. Carries (0 + length (records_in apart.0)) n (b ∷ []) apart.1) (omega arith)
        apart.4));
    rest = begins.0;
    begins = sym begins.1 ∙ ap (λ g. records_in g ++ begins.0) groups_are ∙
        ap (λ l. l ++ begins.0) (joined-append had.groups apart.1) ∙
        append_assoc (records_in had.groups) (records_in apart.1) begins.0;
    uncrossed = subst (λ g. Uncrossed freezes g) groups_are uncrossed;
    frozen = had.frozen;
    old = had.old;
    covered = had.covered;
    stands = had.stands;
    source = had.source;
    kept = had.kept;
    later = had.later;
    split = had.split;
    reaches = had.reaches;
    even = had.even;
    covers = had.covers;
    marked = had.marked;
    stop = had.stop;
    in_use = had.in_use;
    holding = had.holding;
    imaging = had.imaging;
  }

-- ---- the held block is brought

module _ {D : Type 0} (seen : D → List ℕ) (may_leave : D → List ℕ → Type 0)
    (format : Format) (start : List Collection) (wear : ℕ) (records : List Record) (now : State)
    (freezes : List ℕ) (images : List BegunImage) (received : List Block) (k : KeeperState D)
    (b : Block)
    (had : HasReceived seen may_leave format start wear records now freezes images received
    (record k { held = Some b })) where
  abbrev front : List Record
  front = records_in had.groups

  abbrev found : (rs : List Record) × (had.last ≡ rs ∷ []) ×
      IsCarried (length front) (places front) b rs
  found = one_carried (length front) (places front) b had.last had.held

  abbrev rs : List Record
  rs = found.0

  carries : IsCarried (length front) (places front) b rs
  carries = found.2

  abbrev groups_now : List (List Record)
  groups_now = had.groups ++ rs ∷ []

  front_now : records_in groups_now ≡ front ++ rs
  front_now = joined-push had.groups rs

  size : length (records_in groups_now) ≡ length front + length rs
  size = ap length front_now ∙ length-append front rs

  count : places (records_in groups_now) ≡ places front + places rs
  count = ap places front_now ∙ places_append front rs

  records_apart : records ≡ front ++ (rs ++ had.rest)
  records_apart = had.begins ∙ ap (λ g. front ++ (records_in g ++ had.rest)) found.1 ∙
      ap (λ l. front ++ (l ++ had.rest)) (append-nil rs)

  records_now : records ≡ records_in groups_now ++ had.rest
  records_now = records_apart ∙ sym (append_assoc front rs had.rest) ∙
      ap (λ l. l ++ had.rest) (sym front_now)

  carried_now : Carries 0 0 (had.brought ++ b ∷ []) groups_now
  carried_now =
      carries_append 0 0 had.brought (b ∷ []) had.groups (rs ∷ []) had.carried
      (subst (λ n. Carries n (0 + places front) (b ∷ []) (rs ∷ [])) (omega arith)
      (subst (λ n. Carries (length front) n (b ∷ []) (rs ∷ [])) (omega arith)
      (carries_one (length front) (places front) b rs carries)))

  uncrossed_last : Uncrossed freezes groups_now
  uncrossed_last = subst (λ l. Uncrossed freezes (had.groups ++ l)) found.1 had.uncrossed

  -- the blocks that are kept then, the area and the disk
  is_brought : (disk : D) (area : Area) (mark : ℕ) (fails : Bool) (kept : List (List Record))
      (later : List Record) → had.stands.since ≡ records_in kept ++ later →
      length (records_in groups_now) ≤ length had.covered + length (records_in kept) →
      (length (records_in groups_now) < length had.covered + length (records_in kept) →
      kept ≡ []) → mark ≤ places had.covered + places (records_in kept) →
      ((c : List ℕ) → may_leave disk c →
      YieldsUpTo start records mark c) →
      (fails ≡ false → IsInUse seen may_leave format area disk (had.old ++ kept)) →
      (fails ≡ false → (e : Ending) → k.stage ≡ Stage.Awaited e →
      IsHolding freezes (length had.covered + length (records_in kept)) e) →
      (fails ≡ false → (l : Laying) → k.stage ≡ Stage.Laid l →
      IsImaging seen format start wear records now images disk area
      (length had.covered + length (records_in kept)) l) →
      HasReceived seen may_leave format start wear records now freezes images received
      (record k { disk = disk; area = area; mark = mark; held = None; failed = fails })
  is_brought disk area mark fails kept later split reaches even marked stop in_use holding imaging =
      record {
        good = had.good;
        brought = had.brought ++ b ∷ [];
        parts = had.parts ∙ sym (append-nil (had.brought ++ b ∷ []));
        groups = groups_now;
        carried = carried_now;
        last = [];
        held = tt;
        rest = had.rest;
        begins = records_now;
        uncrossed = subst (λ g. Uncrossed freezes g) (sym (append-nil groups_now)) uncrossed_last;
        frozen = had.frozen;
        old = had.old;
        covered = had.covered;
        stands = had.stands;
        source = had.source;
        kept = kept;
        later = later;
        split = split;
        reaches = reaches;
        even = even;
        covers = had.covers;
        marked = marked;
        stop = stop;
        in_use = in_use;
        holding = holding;
        imaging = imaging;
      }

  -- a block that the image covers is let go
  let_go : k.failed ≡ false → b.end ≤ k.covered → (mark : ℕ) → mark ≡ max k.mark b.place →
      HasReceived seen may_leave format start wear records now freezes images received
      (record k { held = None; mark = mark })
  let_go fine ends mark mark_is =
      let below : length (records_in groups_now) ≤ length had.covered =
      omega (arith, size, carries.end_is, had.covers, ends) in
      let none : had.kept ≡ [] = had.even
      (omega (arith, size, below, some_record (length front) (places front) b rs carries)) in
      let part = shorter_beginning (records_in groups_now) had.covered had.rest had.stands.since
      (sym records_now ∙ had.stands.split) below in
      let few : mark ≤ places had.covered + places (records_in had.kept) =
      omega (
        arith,
        mark_is,
        had.marked,
        carries.place_is,
        count,
        ap places part.1,
        places_append (records_in groups_now) part.0,
      ) in
      is_brought k.disk k.area mark k.failed had.kept had.later had.split
      (omega (arith, below)) (λ less. none) few
      (use_yields seen may_leave format start wear records now freezes images received
      (record k { held = Some b }) had (had.in_use fine) mark few) had.in_use had.holding
      had.imaging

  -- a block that is not covered begins behind all that is stored
  module _ (late : k.covered < b.end) where
    before : length had.covered ≤ length front
    before =
        ⊎_elim
        (λ (none : had.covered ≡ []). omega (arith, ap length none))
        (λ one.
        let apart : IsApart (0 + length front) (rs ∷ []) (length had.covered) =
        apart_back 0 had.groups (rs ∷ []) (length had.covered)
        (apart_frozen freezes groups_now (length had.covered) uncrossed_last
        (All-contains (λ i. Contains freezes (length i.covered)) images
        (record { covered = had.covered; blocks = had.old }) had.frozen one)) in
        ⊎_elim
        (λ (first : length had.covered ≤ 0 + length front). omega (arith, first))
        (λ (behind : 0 + length front + length rs ≤ length had.covered).
        absurd (omega (arith, behind, late, had.covers, carries.end_is))) apart.0)
        had.source

    reached : length front ≡ length had.covered + length (records_in had.kept)
    reached = all_stored (length front) (length had.covered) had.kept had.reaches had.even before

    same : (front ≡ had.covered ++ records_in had.kept) × (rs ++ had.rest ≡ had.later)
    same =
        let stored = had.stands.split ∙ ap (λ l. had.covered ++ l) had.split ∙
        sym (append_assoc had.covered (records_in had.kept) had.later) in
        same_beginning front (had.covered ++ records_in had.kept) (rs ++ had.rest) had.later
        (sym records_apart ∙ stored)
        (reached ∙ sym (length-append had.covered (records_in had.kept)))

    kept_now : records_in (had.kept ++ rs ∷ []) ≡ records_in had.kept ++ rs
    kept_now = joined-push had.kept rs

    split_now : had.stands.since ≡ records_in (had.kept ++ rs ∷ []) ++ had.rest
    split_now =
        had.split ∙ ap (λ l. records_in had.kept ++ l) (sym same.1) ∙
        sym (append_assoc (records_in had.kept) rs had.rest)
        ∙ ap (λ l. l ++ had.rest) (sym kept_now)

    stored_now : length (records_in groups_now) ≡
        length had.covered + length (records_in (had.kept ++ rs ∷ []))
    stored_now = omega (
      arith,
      size,
      reached,
      ap length kept_now,
      length-append (records_in had.kept) rs,
    )

    places_now : b.place ≡ places had.covered + places (records_in (had.kept ++ rs ∷ []))
    places_now = omega (
      arith,
      carries.place_is,
      ap places same.0,
      places_append had.covered (records_in had.kept),
      ap places kept_now,
      places_append (records_in had.kept) rs,
    )

    -- what is kept is not past the block
    mark_below : k.mark ≤ b.place
    mark_below = omega (
      arith,
      had.marked,
      places_now,
      ap places kept_now,
      places_append (records_in had.kept) rs,
    )

    bodies_are : map spelling (had.old ++ (had.kept ++ rs ∷ [])) ≡
        map spelling (had.old ++ had.kept) ++ spelling rs ∷ []
    bodies_are = ap (map spelling) (sym (append_assoc had.old had.kept (rs ∷ []))) ∙
        map-append spelling (had.old ++ had.kept) (rs ∷ [])

    -- the blocks with that one behind them yield what it commits
    more_yields : (area : Area) (m : ℕ) (c : List ℕ) → m ≤ b.place → IsHeaded format area c →
        IsRow (map spelling (had.old ++ had.kept) ++ spelling rs ∷ []) (bytes_of area c) →
        YieldsUpTo start records m c
    more_yields area m c few headed row =
        row_yields format start wear records now had.old had.covered had.stands had.good
        (had.kept ++ rs ∷ []) had.rest split_now area m c (omega (arith, few, places_now)) headed
        (subst (λ l. IsRow l (bytes_of area c)) (sym bodies_are) row)

    module _ (in_use : IsInUse seen may_leave format k.area k.disk (had.old ++ had.kept)) where
      abbrev Moment : List ℕ → Type 0
      Moment c = LeavesBlocks (may_leave k.disk) k.area (map spelling (had.old ++ had.kept))
          (spelling rs) c

      -- what a stop at a moment of the append leaves has the head from before it
      moment_head : (c : List ℕ) → Moment c → take 4096 c ≡ take 4096 (seen k.disk)
      moment_head c leaves =
          let d = leaves.elsewhere.0 in
          outside_head k.area d c (lies_behind format k.area (seen k.disk) in_use.head.headed)
          leaves.elsewhere.2 ∙ in_use.head.head_at_rest d leaves.elsewhere.1

      moment_size : (c : List ℕ) → Moment c → length c ≡ length (seen k.disk)
      moment_size c leaves = leaves.elsewhere.2.same_size ∙
          in_use.head.same_size leaves.elsewhere.0 leaves.elsewhere.1

      moment_headed : (c : List ℕ) → Moment c → IsHeaded format k.area c
      moment_headed c leaves = head_headed format k.area (seen k.disk) c (moment_head c leaves)
          (moment_size c leaves) in_use.head.headed

      moment_yields : (c : List ℕ) → Moment c → YieldsUpTo start records k.mark c
      moment_yields c leaves =
          ⊎_elim
          (row_yields format start wear records now had.old had.covered had.stands had.good had.kept
          had.later had.split k.area k.mark c had.marked (moment_headed c leaves))
          (more_yields k.area k.mark c mark_below (moment_headed c leaves))
          leaves.blocks

      module _ (disk : D) (area : Area) (base_same : base_of area ≡ base_of k.area)
          (size_same : size_of area ≡ size_of k.area)
          (size_kept : length (seen disk) ≡ length (seen k.disk))
          (elsewhere : SameOutside (base_of k.area) (size_of k.area) (seen k.disk) (seen disk))
          (laid : (l : Laying) (bodies : List (List ℕ)) → k.stage ≡ Stage.Laid l →
          IsBeingLaid l (seen k.disk) bodies → IsBeingLaid l (seen disk) bodies)
          (left : (c : List ℕ) → may_leave disk c → Moment c)
          (not_past : ¬ IsPast k.stage b.end) (fine : k.failed ≡ false) where
        head_now : take 4096 (seen disk) ≡ take 4096 (seen k.disk)
        head_now = outside_head k.area (seen k.disk) (seen disk)
            (lies_behind format k.area (seen k.disk) in_use.head.headed) elsewhere

        -- the area is at the same place
        area_headed : (c : List ℕ) → IsHeaded format k.area c → IsHeaded format area c
        area_headed c headed = record {
          version = headed.version;
          allowed = headed.allowed;
          header = subst (λ n. IsHeader headed.version n c) (sym size_same)
              headed.header;
          picks = ap (λ n. base_in_use n c) size_same ∙ headed.picks ∙
              sym base_same;
        }

        has_head : HasHead seen may_leave format area disk
        has_head = record {
          headed = area_headed (seen disk)
              (head_headed format k.area (seen k.disk) (seen disk) head_now size_kept
              in_use.head.headed);
          head_at_rest = λ c now. moment_head c (left c now) ∙ sym head_now;
          same_size = λ c now. moment_size c (left c now) ∙ sym size_kept;
        }

        -- no block past an end that is held is appended
        still_before : (e : Ending) → k.stage ≡ Stage.Awaited e → b.end ≤ e.end
        still_before e is = let within : e.end < b.end →
            ⊥ = subst (λ i. IsPast i b.end → ⊥) is not_past in omega (arith, within)

        holding : (e : Ending) → k.stage ≡ Stage.Awaited e →
            IsHolding freezes (length had.covered + length (records_in (had.kept ++ rs ∷ []))) e
        holding e is = record {
          frozen = (had.holding fine e is).frozen;
          ahead = omega (arith, stored_now, size, carries.end_is, still_before e is);
        }

        -- nor one past an image
        still_ahead : (l : Laying) → k.stage ≡ Stage.Laid l → b.end ≤ l.image.end
        still_ahead l is = let within : l.image.end < b.end →
            ⊥ = subst (λ i. IsPast i b.end → ⊥) is not_past in omega (arith, within)

        imaging : (l : Laying) → k.stage ≡ Stage.Laid l →
            IsImaging seen format start wear records now images disk area
            (length had.covered + length (records_in (had.kept ++ rs ∷ []))) l
        imaging l is =
            let was = had.imaging fine l is in record {
              other = record {
                size = was.other.size ∙ sym size_same;
                base = omega (arith, was.other.base, base_same, size_same);
              };
              image = was.image;
              begun = was.begun;
              some = was.some;
              stands = was.stands;
              end = was.end;
              place = was.place;
              laid = laid l (map spelling was.image.blocks) is was.laid;
              ahead = omega (
                arith,
                stored_now,
                size,
                carries.end_is,
                still_ahead l is,
              );
            }

        appended : (fails : Bool) (mark : ℕ) → mark ≤ b.place →
            ((c : List ℕ) → may_leave disk c →
            YieldsUpTo start records mark c) →
            (fails ≡ false → IsInUse seen may_leave format area disk
            (had.old ++ (had.kept ++ rs ∷ []))) →
            HasReceived seen may_leave format start wear records now freezes images received
            (record k { disk = disk; area = area; mark = mark; held = None; failed = fails })
        appended fails mark few stop used =
            is_brought disk area mark fails (had.kept ++ rs ∷ []) had.rest split_now
            (omega (arith, stored_now)) (λ less. absurd (omega (arith, stored_now, less)))
            (omega (arith, few, places_now)) stop used (λ f. holding) (λ f. imaging)

        is_kept : (mark : ℕ) → mark ≡ max k.mark b.place →
            IsReady seen may_leave area disk
            (map spelling (had.old ++ had.kept) ++ spelling rs ∷ []) →
            HasReceived seen may_leave format start wear records now freezes images received
            (record k { disk = disk; area = area; mark = mark; held = None; failed = false })
        is_kept mark mark_is ready =
            let few : mark ≤ b.place = omega (arith, mark_is, mark_below) in
            appended false mark few
            (λ c now.
            more_yields area mark c few (area_headed c (moment_headed c (left c now)))
            (subst (λ l. IsRow (map spelling (had.old ++ had.kept) ++ spelling rs ∷ []) l)
            (sym (ready.at_rest c now)) ready.holds))
            (λ f. record {
              ready = subst (λ l. IsReady seen may_leave area disk l)
                  (sym bodies_are) ready;
              head = has_head;
            })

        -- the disk failed
        is_faulted : HasReceived seen may_leave format start wear records now freezes images
            received
            (record k { disk = disk; area = area; held = None; failed = true })
        is_faulted = appended true k.mark mark_below (λ c now. moment_yields c (left c now))
            (λ f. absurd (true≢false f))

-- ---- whatever a turn answers

-- What a keeper tells of a block that it brings, beside the answer, and what the disk's laws say of
-- the disk before it and behind it.
pub record Brings {D : Type 0} (g : Ghosts D) (k : KeeperState D) (b : Block)
    (r : Result Turn Refusal) (l : KeeperState D) : Type 0 where
  pub kept : (bodies : List (List ℕ)) (body : List ℕ) → IsBlockOf body b.bytes.items →
      k.covered < b.end → IsReady g.seen g.may_leave k.area k.disk bodies →
      OnKept r (IsReady g.seen g.may_leave l.area l.disk (bodies ++ body ∷ []))
  pub any_moment : (bodies : List (List ℕ)) (body : List ℕ) → IsBlockOf body b.bytes.items →
      IsReady g.seen g.may_leave k.area k.disk bodies →
      LeavesOnly g.moment g.left_since k.disk l.disk
      (LeavesBlocks (g.may_leave k.disk) k.area bodies body)
  pub elsewhere : SameOutside (base_of k.area) (size_of k.area) (g.seen k.disk) (g.seen l.disk)
  pub laid : (w : Laying) (bodies : List (List ℕ)) → k.stage ≡ Stage.Laid w →
      IsBeingLaid w (g.seen k.disk) bodies → IsBeingLaid w (g.seen l.disk) bodies
  pub base : base_of l.area ≡ base_of k.area
  pub size : size_of l.area ≡ size_of k.area
  pub covered : l.covered ≡ k.covered
  pub stage : l.stage ≡ k.stage
  pub only_now : (c : List ℕ) → g.left_since k.disk (g.moment k.disk) c → g.may_leave k.disk c
  pub counts_now : (t : ℕ) (c : List ℕ) → t ≤ g.moment l.disk → g.may_leave l.disk c →
      g.left_since l.disk t c

module _ {D : Type 0} (g : Ghosts D) (format : Format) (start : List Collection) (wear : ℕ)
    (records : List Record)
    (now : State) (freezes : List ℕ) (images : List BegunImage) (received : List Block)
    (k l : KeeperState D)
    (b : Block)
    (had : HasReceived g.seen g.may_leave format start wear records now freezes images received
    (record k { held = Some b })) where
  abbrev Both : KeeperState D → Type 0
  Both n = HasReceived g.seen g.may_leave format start wear records now freezes images received n
      × LeavesKept g start records k n

  -- the keeper is this one
  keeper_is : (n : KeeperState D) → l.disk ≡ n.disk → l.area ≡ n.area → l.mark ≡ n.mark →
      l.held ≡ n.held → l.failed ≡ n.failed → l.covered ≡ n.covered → l.stage ≡ n.stage →
      l ≡ n
  keeper_is n disk area mark held failed covered stage = λ i. record {
    disk = disk i;
    area = area i;
    mark = mark i;
    held = held i;
    failed = failed i;
    covered = covered i;
    stage = stage i;
  }

  module _ (fine : k.failed ≡ false) (r : Result Turn Refusal) (brings : Brings g k b r l) where
    -- no device was called
    settled : (held : Option Block) (mark : ℕ) → (l.area ≡ k.area) × (l.disk ≡ k.disk) →
        l.held ≡ held → l.mark ≡ mark → l.failed ≡ false →
        HasReceived g.seen g.may_leave format start wear records now freezes images received
        (record k { held = held; mark = mark }) → Both l
    settled held mark same held_is mark_is fails has =
        let n : KeeperState D = record k { held = held; mark = mark } in
        let is : l ≡ n = keeper_is n same.1 same.0 mark_is held_is (fails ∙ sym fine)
        brings.covered brings.stage in
        subst Both (sym is) (
          has,
          still_kept g.seen g.may_leave format start wear records now freezes images received
              (record k { held = Some b }) had g.moment g.left_since brings.only_now,
        )

    module _ (not_covered : ¬ (b.end ≤ k.covered)) (not_past : ¬ IsPast k.stage b.end) where
      late : k.covered < b.end
      late = omega (arith, not_covered)

      abbrev group : List Record
      group = rs g.seen g.may_leave format start wear records now freezes images received k b had

      in_use : IsInUse g.seen g.may_leave format k.area k.disk (had.old ++ had.kept)
      in_use = had.in_use fine

      block_is : IsBlockOf (spelling group) b.bytes.items
      block_is = (carries g.seen g.may_leave format start wear records now freezes images received k
          b
          had).block

      run : LeavesOnly g.moment g.left_since k.disk l.disk
          (LeavesBlocks (g.may_leave k.disk) k.area (map spelling (had.old ++ had.kept))
          (spelling group))
      run = brings.any_moment (map spelling (had.old ++ had.kept)) (spelling group) block_is
          in_use.ready

      left : (c : List ℕ) → g.may_leave l.disk c →
          LeavesBlocks (g.may_leave k.disk) k.area (map spelling (had.old ++ had.kept))
          (spelling group) c
      left = leaves_blocks_now g.moment g.left_since (g.may_leave k.disk) (g.may_leave l.disk)
          k.area k.disk l.disk (map spelling (had.old ++ had.kept)) (spelling group) run
          brings.counts_now

      each_moment : LeavesKept g start records k l
      each_moment = weaker g.moment g.left_since k.disk l.disk _ _ run
          (moment_yields g.seen g.may_leave format start wear records now freezes images received k
          b had
          late
          in_use)

      ready : OnKept r (IsReady g.seen g.may_leave l.area l.disk
          (map spelling (had.old ++ had.kept) ++ spelling group ∷ []))
      ready = brings.kept (map spelling (had.old ++ had.kept)) (spelling group) block_is late
          in_use.ready

      kept_turn : (mark : ℕ) → mark ≡ max k.mark b.place → l.mark ≡ mark → l.held ≡ None →
          l.failed ≡ false →
          IsReady g.seen g.may_leave l.area l.disk
          (map spelling (had.old ++ had.kept) ++ spelling group ∷ []) → Both l
      kept_turn mark mark_is marked none fails ready =
          let n : KeeperState D = record k
          { disk = l.disk; area = l.area; mark = mark; held = None; failed = false } in
          let is : l ≡ n = keeper_is n refl refl marked none fails brings.covered brings.stage
          in (
            subst (HasReceived g.seen g.may_leave format start wear records now freezes images
                received)
                (sym is)
                (is_kept g.seen g.may_leave format start wear records now freezes images received k
                b had
                late
                in_use l.disk l.area brings.base brings.size brings.elsewhere.same_size
                brings.elsewhere brings.laid left not_past fine mark mark_is ready),
            each_moment,
          )

      fault_turn : l.mark ≡ k.mark → l.held ≡ None → l.failed ≡ true → Both l
      fault_turn marked none fails =
          let n : KeeperState D = record k
          { disk = l.disk; area = l.area; held = None; failed = true } in
          let is : l ≡ n = keeper_is n refl refl marked none fails brings.covered brings.stage
          in (
            subst (HasReceived g.seen g.may_leave format start wear records now freezes images
                received)
                (sym is)
                (is_faulted g.seen g.may_leave format start wear records now freezes images received
                k b
                had
                late in_use l.disk l.area brings.base brings.size brings.elsewhere.same_size
                brings.elsewhere brings.laid left not_past fine),
            each_moment,
          )

  pub brings_on : (is_full is_risen : Type 0) → k.failed ≡ false → (r : Result Turn Refusal) →
      Brings g k b r l →
      BringAnswers b k.mark (b.end ≤ k.covered) (IsPast k.stage b.end) is_full
      ((l.area ≡ k.area) × (l.disk ≡ k.disk)) is_risen r l.held l.mark l.failed → Both l
  brings_on is_full is_risen fine (Ok Turn.Idle) brings a = absurd a.2
  brings_on is_full is_risen fine (Ok Turn.Held) brings a =
      settled fine (Ok Turn.Held) brings (Some b) k.mark a.2 a.3 a.4 a.5 had
  brings_on is_full is_risen fine (Ok (Turn.Kept place)) brings a =
      ⊎_elim
      (λ covered.
      settled fine (Ok (Turn.Kept place)) brings None place covered.1 covered.4 covered.3 covered.5
      (let_go g.seen g.may_leave format start wear records now freezes images received k b had fine
      covered.0
      place covered.2))
      (λ brought.
      let kept = brought.2 in
      kept_turn fine (Ok (Turn.Kept place)) brings brought.0 brought.1 place kept.0 kept.1 kept.2
      kept.3 (ready fine (Ok (Turn.Kept place)) brings brought.0 brought.1))
      a
  brings_on is_full is_risen fine (Err Refusal.Full) brings a =
      let stays = a.2 in
      settled fine (Err Refusal.Full) brings (Some b) k.mark stays.1 stays.2 stays.3 stays.4 had
  brings_on is_full is_risen fine (Err Refusal.Fault) brings a =
      let failed = a.2 in
      fault_turn fine (Err Refusal.Fault) brings a.0 a.1 failed.2 failed.1 failed.3
  brings_on is_full is_risen fine (Err e) brings a = absurd a.2

-- ---- over all that may have been received

module _ {D : Type 0} (g : Ghosts D) (receives : List Block → Type 0)
    (one_list : (xs ys : List Block) → receives xs → receives ys → xs ≡ ys)
    (k : KeeperState D) where
  -- nothing was received, and the keeper is as it was
  pub turn_still : receives [] →
      ((c : List ℕ) → g.left_since k.disk (g.moment k.disk) c → g.may_leave k.disk c) →
      TurnKeeps g receives k k
  turn_still none only_now format start wear records now freezes images received more groups these
      carried
      begins
      uncrossed had =
      let is : received ++ more ≡ received =
      ap (λ l. received ++ l) (one_list more [] these none) ∙ append-nil received in (
        subst (λ bs. HasReceived g.seen g.may_leave format start wear records now freezes images bs
            k)
            (sym is)
            had,
        still_kept g.seen g.may_leave format start wear records now freezes images received k had
            g.moment
            g.left_since only_now,
      )

  -- the held block, or the one that was received, with all that was received
  taken : (format : Format) (start : List Collection) (wear : ℕ) (records : List Record)
      (now : State)
      (freezes : List ℕ) (images : List BegunImage) (received more : List Block)
      (groups : List (List Record))
      (b : Block) (held : Option Block) → k.held ≡ held → IsBrought held receives b →
      receives more → Carries 0 0 (received ++ more) groups →
      IsPrefix (records_in groups) records → Uncrossed freezes groups →
      HasReceived g.seen g.may_leave format start wear records now freezes images received k →
      HasReceived g.seen g.may_leave format start wear records now freezes images (received ++ more)
      (record k { held = Some b })
  taken format start wear records now freezes images received more groups b None held_is brought
      these
      carried
      begins uncrossed had =
      let is : more ≡ b ∷ [] = one_list more (b ∷ []) these brought in
      subst (λ l. HasReceived g.seen g.may_leave format start wear records now freezes images
      (received ++ l)
      (record k { held = Some b })) (sym is)
      (received_one g.seen g.may_leave format start wear records now freezes images received k had
      held_is
      b
      groups (subst (λ l. Carries 0 0 (received ++ l) groups) is carried) begins uncrossed)
  taken format start wear records now freezes images received more groups b (Some h) held_is brought
      these
      carried
      begins uncrossed had =
      let is : received ≡ received ++ more =
      sym (ap (λ l. received ++ l) (one_list more [] these brought.1) ∙ append-nil received) in
      let same : k ≡ record k { held = Some b } =
      λ i. record k { held = (held_is ∙ ap Some (sym brought.0)) i } in
      subst (λ bs. HasReceived g.seen g.may_leave format start wear records now freezes images bs
      (record k { held = Some b })) is
      (subst (HasReceived g.seen g.may_leave format start wear records now freezes images received)
      same
      had)

  pub turn_brings : (b : Block) (l : KeeperState D) (is_full is_risen : Type 0) →
      k.failed ≡ false → IsBrought k.held receives b → (r : Result Turn Refusal) →
      Brings g k b r l →
      BringAnswers b k.mark (b.end ≤ k.covered) (IsPast k.stage b.end) is_full
      ((l.area ≡ k.area) × (l.disk ≡ k.disk)) is_risen r l.held l.mark l.failed →
      TurnKeeps g receives k l
  turn_brings b l is_full is_risen fine brought r brings answer format start wear records now
      freezes
      images
      received more groups these carried begins uncrossed had =
      brings_on g format start wear records now freezes images (received ++ more) k l b
      (taken format start wear records now freezes images received more groups b k.held refl brought
      these
      carried
      begins uncrossed had) is_full is_risen fine r brings answer
