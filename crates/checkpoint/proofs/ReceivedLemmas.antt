-- What a keeper has received: where it begins, and what stays while the book's records grow.
use Rattle.std.proofs.Common.{◌≡◌, inl, ℕ, ◌+◌, ◌≤◌, List, [], ◌∷◌, ◌++◌, length, map}
use Rattle.std.proofs.Common.{refl, sym, ◌∙◌, ap, subst, arith, append_assoc, None}
use Rattle.std.specs.List.{AllByRecursion}
use Rattle.std.proofs.lemmas.List.{append-nil}
use Rattle.std.proofs.lemmas.List.Elements.{All-nil}
use mathlib.Core.List.{IsPrefix}
use Rattle.calls.specs.declared.format.Format.{Format}
use Rattle.calls.specs.Contents.{Collection}
use Rattle.disk_model.specs.Disk.{LeavesOnly}
use Rattle.disk_model.proofs.Walk.{started}
use Rattle.gate_block.specs.Row.{IsRow}
use Rattle.gate_block.specs.Area.{bytes_of}
use Rattle.records.specs.declared.record.Record.{Record}
use Rattle.records.specs.Records.{spelling, IsRecord}
use Rattle.records.specs.Acts.{places}
use Rattle.records.specs.declared.block.Block.{Block}
use Rattle.records.proofs.Places.{places_append}
use Rattle.boosted.proofs.Each.{each_append}
use Rattle.steps.specs.Machines.{resting}
use Rattle.steps.proofs.Journalled.{GoesUnheard}
use Rattle.replay.specs.Journals.{records_in}
use Rattle.replay.specs.Steps.{State, Steps}
use Rattle.replay.proofs.LagLemmas.{lags_self}
use Rattle.checkpoint.specs.declared.laying.Laying.{Laying}
use Rattle.checkpoint.specs.declared.stage.Ending.{Ending}
use Rattle.checkpoint.specs.declared.stage.Stage.{Stage}
use Rattle.std.specs.Option.{option_to_list}
use Rattle.checkpoint.specs.Keepers.{KeeperState, IsFresh}
use Rattle.records.specs.Carried.{Carries}
use Rattle.checkpoint.specs.Stored.{AreReadTo, StandIn}
use Rattle.checkpoint.specs.DiskHeads.{IsInUse}
use Rattle.checkpoint.specs.Crash.{YieldsUpTo, committed_of}
use Rattle.checkpoint.specs.Keeping.{BegunImage, HasReceived}
use Rattle.checkpoint.proofs.StandLemmas.{stands_as, stands_push, stands_unheard, stands_whole}
use Rattle.checkpoint.proofs.HeadLemmas.{head_headed}
use Rattle.checkpoint.proofs.YieldLemmas.{row_yields, length-committed, committed_more}
use Rattle.checkpoint.proofs.YieldLemmas.{yields_more}
use Rattle.records.proofs.Carrying.{joined-append, carries_append}
use Rattle.checkpoint.proofs.GroupLemmas.{same_groups}

module _ {D : Type 0} (seen : D → List ℕ) (may_leave : D → List ℕ → Type 0)
    (format : Format) (start : List Collection) (wear : ℕ) (records : List Record) (now : State)
    (freezes : List ℕ) (images : List BegunImage) (received : List Block) (k : KeeperState D)
    (had : HasReceived seen may_leave format start wear records now freezes images received k) where
  -- ---- what was received

  -- the blocks carry these groups
  pub all_carried : Carries 0 0 received (had.groups ++ had.last)
  all_carried =
      subst (λ bs. Carries 0 0 bs (had.groups ++ had.last)) (sym had.parts)
      (carries_append 0 0 had.brought (option_to_list k.held) had.groups had.last had.carried
      (subst (λ n. Carries n (0 + places (records_in had.groups)) (option_to_list k.held) had.last)
      (omega arith)
      (subst (λ n. Carries (length (records_in had.groups)) n (option_to_list k.held) had.last)
      (omega arith) had.held)))

  pub all_begin : records ≡ records_in (had.groups ++ had.last) ++ had.rest
  all_begin =
      had.begins ∙ sym (append_assoc (records_in had.groups) (records_in had.last) had.rest) ∙
      ap (λ l. l ++ had.rest) (sym (joined-append had.groups had.last))

  -- and no others that begin all records
  pub received_once : (groups : List (List Record)) → Carries 0 0 received groups →
      IsPrefix (records_in groups) records → groups ≡ had.groups ++ had.last
  received_once groups carried begins =
      (same_groups 0 0 received groups (had.groups ++ had.last) begins.0 had.rest carried
      all_carried (begins.1 ∙ all_begin)).0

  -- ---- what a stop leaves

  -- the mark counts transactions that are committed
  pub mark_few : k.mark ≤ length (committed_of records)
  mark_few = omega (
    arith,
    had.marked,
    length-committed records [],
    ap places had.stands.split,
    places_append had.covered had.stands.since,
    ap places had.split,
    places_append (records_in had.kept) had.later,
  )

  -- what is in use yields what is known, also more than the mark tells
  pub use_yields : IsInUse seen may_leave format k.area k.disk (had.old ++ had.kept) → (m : ℕ) →
      m ≤ places had.covered + places (records_in had.kept) → (c : List ℕ) → may_leave k.disk c →
      YieldsUpTo start records m c
  use_yields in_use m few c left =
      row_yields format start wear records now had.old had.covered had.stands had.good had.kept
      had.later
      had.split k.area m c few
      (head_headed format k.area (seen k.disk) c (in_use.head.head_at_rest c left)
      (in_use.head.same_size c left) in_use.head.headed)
      (subst (λ l. IsRow (map spelling (had.old ++ had.kept)) l)
      (sym (in_use.ready.at_rest c left)) in_use.ready.holds)

  -- where no device is called, a stop at any moment leaves what it leaves now
  pub still_kept : (moment : D → ℕ) (left_since : D → ℕ → List ℕ → Type 0) →
      ((c : List ℕ) → left_since k.disk (moment k.disk) c → may_leave k.disk c) →
      LeavesOnly moment left_since k.disk k.disk
      (YieldsUpTo start records k.mark)
  still_kept moment left_since only_now =
      started moment left_since k.disk _ (λ c left. had.stop c (only_now c left))

  -- ---- the records grow

  received_more : (more : List Record) (next : State) → AllByRecursion (IsRecord None) more →
      ((blocks : List (List Record)) (covered : List Record)
      (old : StandIn format start wear records now blocks covered) →
      (new : StandIn format start wear (records ++ more) next blocks covered) ×
      (new.since ≡ old.since ++ more)) →
      HasReceived seen may_leave format start wear (records ++ more) next freezes images received k
  received_more more next good moves =
      let stands = moves had.old had.covered had.stands in
      record {
        good = each_append (IsRecord None) records more had.good good;
        brought = had.brought;
        parts = had.parts;
        groups = had.groups;
        carried = had.carried;
        last = had.last;
        held = had.held;
        rest = had.rest ++ more;
        begins = ap (λ l. l ++ more) had.begins ∙
            append_assoc (records_in had.groups) (records_in had.last ++ had.rest) more ∙
            ap (λ l. records_in had.groups ++ l) (append_assoc (records_in had.last) had.rest more);
        uncrossed = had.uncrossed;
        frozen = had.frozen;
        old = had.old;
        covered = had.covered;
        stands = stands.0;
        source = had.source;
        kept = had.kept;
        later = had.later ++ more;
        split = stands.1 ∙ ap (λ l. l ++ more) had.split ∙
            append_assoc (records_in had.kept) had.later more;
        reaches = had.reaches;
        even = had.even;
        covers = had.covers;
        marked = had.marked;
        stop = λ c left. yields_more start (committed_of records) (committed_of (records ++ more))
            k.mark c mark_few (committed_more records more) (had.stop c left);
        in_use = had.in_use;
        holding = had.holding;
        imaging = λ fine l is.
            let i = had.imaging fine l is in record {
              other = i.other;
              image = i.image;
              begun = i.begun;
              some = i.some;
              stands = (moves i.image.blocks i.image.covered i.stands).0;
              end = i.end;
              place = i.place;
              laid = i.laid;
              ahead = i.ahead;
            };
      }

  -- the book has taken a step with a record
  pub received_push : (r : Record) (next : State) → Steps now r next → IsRecord None r →
      HasReceived seen may_leave format start wear (records ++ r ∷ []) next freezes images received
      k
  received_push r next row good =
      received_more (r ∷ []) next (good, tt)
      (λ blocks covered old. stands_push format start wear records now blocks covered r next row
      old)

  -- it has taken one of which no record tells
  pub received_unheard : (next : State) → GoesUnheard now next →
      HasReceived seen may_leave format start wear records next freezes images received k
  received_unheard next step =
      subst (λ rs. HasReceived seen may_leave format start wear rs next freezes images received k)
      (append-nil records)
      (received_more [] next tt
      (λ blocks covered old.
      let one = stands_unheard format start wear records now blocks covered next step old in
      let two = stands_as format start wear records next blocks covered (records ++ [])
      (sym (append-nil records)) one.0 in
      (two.0, two.1 ∙ one.1 ∙ sym (append-nil old.since))))

-- ---- it begins with a store that was opened

pub idle_laid : (l : Laying) (A : Type 0) → Stage.Idle ≡ Stage.Laid l → A
idle_laid l A e = cc

pub idle_awaited : (e : Ending) (A : Type 0) → Stage.Idle ≡ Stage.Awaited e → A
idle_awaited e A is = cc

module _ {D : Type 0} (seen : D → List ℕ) (may_leave : D → List ℕ → Type 0)
    (format : Format) (start : List Collection) (wear : ℕ) (blocks : List (List Record))
    (k : KeeperState D)
    (are_read : AreReadTo blocks (resting format start wear)) (fresh : IsFresh k)
    (in_use : IsInUse seen may_leave format k.area k.disk blocks) where
  abbrev opened : State
  opened = resting format start wear

  none_more : blocks ++ [] ≡ blocks
  none_more = append-nil blocks

  -- Nothing was received yet, whatever records there are.
  pub received_none : (records : List Record) (now : State) →
      AllByRecursion (IsRecord None) records →
      (stands : StandIn format start wear records now blocks []) → stands.since ≡ records →
      HasReceived seen may_leave format start wear records now [] [] [] k
  received_none records now good stands since = record {
    good = good;
    brought = [];
    parts = ap option_to_list (sym fresh.holds_none);
    groups = [];
    carried = tt;
    last = [];
    held = subst (λ h. Carries 0 0 (option_to_list h) []) (sym fresh.holds_none) tt;
    rest = records;
    begins = refl;
    uncrossed = All-nil _;
    frozen = All-nil _;
    old = blocks;
    covered = [];
    stands = stands;
    source = inl refl;
    kept = [];
    later = records;
    split = since;
    reaches = omega arith;
    even = λ less. refl;
    covers = fresh.covers_none;
    marked = omega (arith, fresh.unmarked);
    stop = λ c left.
        row_yields format start wear records now blocks [] stands good [] records since k.area
        k.mark c
        (omega (arith, fresh.unmarked))
        (head_headed format k.area (seen k.disk) c (in_use.head.head_at_rest c left)
        (in_use.head.same_size c left) in_use.head.headed)
        (subst (λ l. IsRow (map spelling l) (bytes_of k.area c)) (sym none_more)
        (subst (λ l. IsRow (map spelling blocks) l) (sym (in_use.ready.at_rest c left))
        in_use.ready.holds));
    in_use = λ fine. subst (λ bs. IsInUse seen may_leave format k.area k.disk bs) (sym none_more)
        in_use;
    holding = λ fine e is. idle_awaited e _ (sym fresh.no_image ∙ is);
    imaging = λ fine l is. idle_laid l _ (sym fresh.no_image ∙ is);
  }

  pub received_starts : HasReceived seen may_leave format start wear [] opened [] [] [] k
  received_starts =
      let whole = stands_whole format start wear [] opened blocks opened refl (lags_self opened)
      refl
      opened
      are_read (lags_self opened) in
      received_none [] opened tt whole.0 whole.1
