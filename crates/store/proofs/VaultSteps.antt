-- Each step of the keeper keeps what lies under its lock.
use Rattle.calls.specs.declared.format.Format.{Format}
use Rattle.std.proofs.Common.{◌≡◌, ◌≢◌, inl, inr, ℕ, ◌+◌, ◌≤◌, Some, None, Result, Ok, Err, List}
use Rattle.std.proofs.Common.{[], ◌∷◌, ◌++◌, length, refl, sym, ap, ◌∙◌, subst, arith}
use Rattle.std.proofs.Common.{append_assoc, ◌<◌, max, take, true}
use Rattle.std.specs.Prelude.{All}
use Rattle.std.proofs.lemmas.List.Elements.{All-nil, All-push, All-append, All-weaker}
use Rattle.std.specs.Borrow.{MutBor}
use Rattle.std.specs.Prelude.{IfErr}
use Rattle.std.specs.List.{AllByRecursion}
use Rattle.disk_model.specs.Disk.{Rises}
use Rattle.gate_block.specs.Area.{size_of, offset_of}
use Rattle.checkpoint.specs.declared.turn.Turn.{Turn}
use mathlib.Core.List.{IsPrefix}
use Rattle.calls.specs.Contents.{Collection}
use Rattle.calls.specs.declared.refusal.Refusal.{Refusal}
use Rattle.disk_model.specs.declared.disk.Disk as disks
use Rattle.records.specs.declared.record.Record.{Record}
use Rattle.records.specs.declared.block.Image.{Image}
use Rattle.records.specs.Carried.{Carries}
use Rattle.records.proofs.Carrying.{joined-append, carries_parts}
use Rattle.images.specs.Gathers.{GatherState, Packs}
use Rattle.steps.specs.Machines.{resting}
use Rattle.replay.specs.Journals.{records_in}
use Rattle.replay.specs.Steps.{State}
use Rattle.txn.specs.Books.{BookState}
use Rattle.checkpoint.specs.ImageAnswers.{BeginAnswers}
use Rattle.checkpoint.specs.Keepers.{KeeperState, IsFresh, IsPast, TurnAnswers}
use Rattle.checkpoint.specs.Keeping.{Uncrossed, HasReceived, TurnKeeps, ImageKeeps, BeginKeeps}
use Rattle.checkpoint.specs.Keeping.{begun_with, LeavesKept}
use Rattle.checkpoint.specs.Crash.{YieldsUpTo, committed_of}
use Rattle.checkpoint.specs.DiskHeads.{IsInUse}
use Rattle.checkpoint.specs.Stored.{AreReadTo}
use Rattle.checkpoint.proofs.GroupLemmas.{uncrossed_front}
use Rattle.checkpoint.proofs.ReceivedLemmas.{received_none}
use Rattle.engine.specs.Marks.{mark_behind, mark_flipped}
use Rattle.recovery.proofs.OpenedStores as openings
use Rattle.engine.proofs.KeeperLemmas.{begun_same}
use Rattle.engine.proofs.KeeperLemmas.{mark_rises, mark_is, some_received}
use Rattle.checkpoint.proofs.YieldLemmas.{prefix_take, yields_fewer}
use Rattle.group_commit.specs.Accords.{AccordState}
use Rattle.images.specs.Gathers.{nothing_gathered}
use Rattle.group_commit.specs.Ends.{Receives, WasEmptyAt}
use Rattle.group_commit.specs.declared.mark.Raised.{Raised}
use Rattle.group_commit.specs.Marks.{KeeperMark, top}
use Rattle.group_commit.specs.Rising.{raised_to}
use Rattle.group_commit.specs.Orders.{ReceiverState}
use Rattle.group_commit.specs.Parties.{Among}
use Rattle.desks.specs.declared.naming.Naming.{Ghosts}
use Rattle.desks.specs.Desks.{AreRecorded, PacksImages, frozen_ends}
use Rattle.desks.proofs.Recording.{opened_stands}
use Rattle.store.specs.Openings.{OpenedState, IsNamed}
use Rattle.store.specs.Turns.{Brings, IsTurnRefusal, IsWithin, StaysCaused, brought_to}
use Rattle.store.specs.Turns.{flipped_to, stops_behind, stops_by}
use Rattle.store.specs.Vaults.{LeavesSince, ReceivesAny, IsVault, IsKeptSince}
use Rattle.store.proofs.Causes.{not_both}
use Rattle.store.proofs.Ends.{received_back, received_there}

abbrev Book : Type 0
Book = BookState (List Collection)

-- what holds of each of these holds of one
each_among : {X : Type 0} (P : X → Type 0) (x : X) (xs : List X) → AllByRecursion P xs →
    Among x xs → P x
each_among P x [] all among = absurd among
each_among P x (y ∷ ys) all (inl same) = subst P (sym same) all.0
each_among P x (y ∷ ys) all (inr among) = each_among P x ys all.1 among

-- what is packed is frozen
pub some_frozen : (g : GatherState) (image : Image) → Packs g image → g.frozen ≢ None
some_frozen g image packs none =
    let both : Some packs.frozen ≡ None = sym packs.is_frozen ∙ none in absurd cc

-- fewer of the transactions are known
yields_less : (start : List Collection) (records : List Record) (count less : ℕ)
    (bytes : List ℕ) → less ≤ count → YieldsUpTo start records count bytes →
    YieldsUpTo start records less bytes
yields_less start records count less bytes le y =
    yields_fewer start (committed_of records) (take count (committed_of records))
    (take less (committed_of records)) bytes (prefix_take (committed_of records) less count le) y

yields_some : (start : List Collection) (records : List Record) (count : ℕ) (bytes : List ℕ) →
    YieldsUpTo start records count bytes → YieldsUpTo start records 0 bytes
yields_some start records count bytes y =
    yields_less start records count 0 bytes (omega arith) y

-- a mark that is not past what was kept is not so behind a turn
brought_within : (raised : List Raised) (moment n : ℕ) (r : Result Turn Refusal) →
    (top raised).count ≤ n → IsWithin r n → (top (brought_to raised moment r)).count ≤ n
brought_within raised moment n (Ok (Turn.Kept place)) less told = omega (arith, less, told)
brought_within raised moment n (Ok Turn.Idle) less told = less
brought_within raised moment n (Ok Turn.Held) less told = less
brought_within raised moment n (Err e) less told = less

module _ {D : Type 0} (g : disks.Ghosts D) where
  -- a stop since this moment leaves what one now does
  abbrev pub Since : D → Type 0
  Since disk = (bytes : List ℕ) → g.left_since disk (g.moment disk) bytes → g.may_leave disk bytes

  -- ---- opening

  -- nothing was received by a keeper that was just opened
  opening : (format : Format) (start : List Collection) (wear : ℕ) (keeper : KeeperState D)
      (blocks : List (List Record)) → AreReadTo blocks (resting format start wear) →
      IsFresh keeper →
      IsInUse g.seen g.may_leave format keeper.area keeper.disk blocks → (records : List Record)
      (now : State) → AreRecorded format start wear records now [] →
      HasReceived g.seen g.may_leave format start wear records now [] [] [] keeper
  opening format start wear keeper blocks read fresh in_use records now recorded =
      let stands = opened_stands format start wear [] blocks records now read recorded in
      received_none g.seen g.may_leave format start wear blocks keeper read fresh in_use records now
      recorded.good stands.0 stands.1

  module _ {J : Type 0} (j : Ghosts J) where
    -- nothing was received of a store that was opened
    pub vault_opens : (o : OpenedState D) → IsNamed j g o → j.sound → IsFresh o.keeper →
        Since o.keeper.disk → ReceivesAny j g [] [] [] o.keeper
    vault_opens o named s fresh only_now records now groups recorded carried begin apart =
        let sound = named.sound s in
        let told = sound.is_opened in
        let start = sym (ap (λ (b : Book). b.state.now) told.book_is) ∙ named.start in
        let format = sym (ap (λ (b : Book). b.state.format) told.book_is) ∙ named.format in
        let wear = sym (ap (λ (b : Book). b.state.wear) told.book_is) ∙ named.wear in
        let blocks = told.blocks ++ told.written in
        let read = openings.are_read sound.bytes o.book o.keeper.area (g.seen o.keeper.disk) told in
        let had = opening j.origin.format j.origin.start j.origin.wear o.keeper blocks
        (subst (λ c. AreReadTo blocks (resting j.origin.format c j.origin.wear)) start
        (subst (λ f. AreReadTo blocks (resting f told.undone.now j.origin.wear)) format
        (subst (λ n. AreReadTo blocks (resting told.undone.format told.undone.now n)) wear read)))
        fresh
        (subst (λ f. IsInUse g.seen g.may_leave f o.keeper.area o.keeper.disk blocks) format
        (openings.in_use g.seen g.may_leave sound.bytes o.book o.keeper.disk o.keeper.area told
        sound.ready)) records now recorded in (
          ([], had),
          record {
            later = omega (arith, named.opened_at);
            each = λ bytes left. yields_some j.origin.start records o.keeper.mark bytes
                (had.stop bytes (only_now bytes
                (subst (λ t. g.left_since o.keeper.disk t bytes) (sym named.opened_at) left)));
            before = λ t bytes early left. inl (named.left_since t bytes left);
          },
          All-nil (IsKeptSince j g o.keeper (YieldsUpTo j.origin.start records)),
        )

    -- A call of the keeper goes on so: what a stop since the opening left stays what it was.
    pub leaves_on : (records : List Record) (k l : KeeperState D) →
        LeavesSince j g k.disk (YieldsUpTo j.origin.start records 0) →
        LeavesKept g j.origin.start records k l →
        LeavesSince j g l.disk (YieldsUpTo j.origin.start records 0)
    leaves_on records k l since kept = record {
      later = omega (arith, since.later, kept.later);
      each = λ bytes left. elim (kept.before j.opened_at bytes since.later left) [
        | inl before ↦ since.each bytes before
        | inr yields ↦ yields_some j.origin.start records k.mark bytes yields
      ];
      before = λ t bytes early left.
          elim (kept.before t bytes (omega (arith, early, since.later)) left) [
            | inl before ↦ since.before t bytes early before
            | inr yields ↦ inr (yields_some j.origin.start records k.mark bytes yields)
          ];
    }

    -- And what one left since the mark was raised.
    pub kept_on : (records : List Record) (k l : KeeperState D) (raised : List Raised) →
        All (IsKeptSince j g k (YieldsUpTo j.origin.start records)) raised →
        LeavesKept g j.origin.start records k l → k.mark ≤ l.mark →
        All (IsKeptSince j g l (YieldsUpTo j.origin.start records)) raised
    kept_on records k l raised all kept rises =
        All-weaker (IsKeptSince j g k (YieldsUpTo j.origin.start records))
        (IsKeptSince j g l (YieldsUpTo j.origin.start records)) (λ x is. record {
          opened = is.opened;
          past = omega (arith, is.past, kept.later);
          within = omega (arith, is.within, rises);
          each = λ bytes left. elim (kept.before x.moment bytes is.past left) [
            | inl before ↦ is.each bytes before
            | inr yields ↦
                yields_less j.origin.start records k.mark x.count bytes is.within yields
          ];
        }) raised all

    -- The mark is raised now, to what is kept.
    kept_now : (records : List Record) (l : KeeperState D) (raised : List Raised) (place : ℕ) →
        j.opened_at ≤ g.moment l.disk → place ≤ l.mark → (top raised).count ≤ l.mark →
        Since l.disk →
        ((bytes : List ℕ) → g.may_leave l.disk bytes →
        YieldsUpTo j.origin.start records l.mark bytes) →
        All (IsKeptSince j g l (YieldsUpTo j.origin.start records)) raised →
        All (IsKeptSince j g l (YieldsUpTo j.origin.start records))
        (raised_to place (g.moment l.disk) raised)
    kept_now records l raised place opened within below only_now stop all =
        let P : Raised → Type 0 = IsKeptSince j g l (YieldsUpTo j.origin.start records) in
        let x : Raised =
        record { count = max (top raised).count place; moment = g.moment l.disk } in
        let now : P x = record {
          opened = opened;
          past = omega arith;
          within = omega (arith, within, below);
          each = λ bytes left. yields_less j.origin.start records l.mark x.count bytes
              (omega (arith, within, below)) (stop bytes (only_now bytes left));
        } in
        All-append P (x ∷ []) raised (All-push P [] x (All-nil P) now) all

    -- ---- turns

    pub vault_turns : (k : KeeperState D) (receiver : ReceiverState) (seat : KeeperMark)
        (near : AccordState) → IsVault j g k receiver seat near → (r : _) (l : KeeperState D)
        (after : ReceiverState) (now : KeeperMark) → Brings g k receiver r l after →
        Since l.disk →
        now ≡ record {
          table = seat.table;
          raised = brought_to seat.raised (g.moment l.disk) r;
          stops = stops_behind r seat.stops;
        } → IsVault j g l after now near
    vault_turns k receiver seat near is r l after now brings only_now now_is = record {
      handoff = brings.receives.table ∙ is.handoff;
      mark = ap (λ (m : KeeperMark). m.table) now_is ∙ is.mark;
      awaited = is.awaited;
      marked = subst (λ (m : KeeperMark). (top m.raised).count ≤ l.mark) (sym now_is)
          (brought_within seat.raised (g.moment l.disk) l.mark r
          (omega (arith, is.marked, brings.rises)) brings.told);
      caused = subst (λ (m : KeeperMark). 1 ≤ m.stops → l.failed ≡ true) (sym now_is)
          (brings.caused seat.stops is.caused);
      noted = λ some. subst (Among near.gather) (sym brings.receives.noted)
          (is.noted some);
      received = λ s records state groups recorded carried begin apart.
          let all = brings.receives.received in
          let carried' : Carries 0 0 (receiver.received ++ brings.more) groups =
          subst (λ bs. Carries 0 0 bs groups) all carried in
          let parts = carries_parts 0 0 receiver.received brings.more groups carried' in
          let both = ap records_in parts.2 ∙ joined-append parts.0 parts.1 in
          let begin' : IsPrefix (records_in parts.0) records = (
            records_in parts.1 ++ begin.0,
            sym (append_assoc (records_in parts.0) (records_in parts.1) begin.0) ∙
                ap (λ l. l ++ begin.0) (sym both) ∙ begin.1,
          ) in
          let recorded' : AreRecorded j.origin.format j.origin.start j.origin.wear records state
          receiver.noted =
          subst (AreRecorded j.origin.format j.origin.start j.origin.wear records state)
          brings.receives.noted
          recorded in
          let ends = frozen_ends receiver.noted in
          let apart' : Uncrossed ends groups =
          subst (λ gs. Uncrossed (frozen_ends gs) groups) brings.receives.noted apart in
          let had = is.received s records state parts.0 recorded' parts.3 begin'
          (uncrossed_front ends parts.0 parts.1 (subst (Uncrossed ends) parts.2 apart')) in
          let images = had.0.0 in
          let kept = brings.keeps j.origin.format j.origin.start j.origin.wear records state ends
          images
          receiver.received
          brings.more groups brings.receives carried' begin apart' had.0.1 in (
            (
              images,
              subst (λ bs. HasReceived g.seen g.may_leave j.origin.format j.origin.start
                  j.origin.wear records state
                  (frozen_ends after.noted) images bs l) (sym all)
                  (subst (λ gs. HasReceived g.seen g.may_leave j.origin.format j.origin.start
                  j.origin.wear records state
                  (frozen_ends gs) images (receiver.received ++ brings.more) l)
                  (sym brings.receives.noted) kept.0),
            ),
            leaves_on records k l had.1 kept.1,
            subst (λ (m : KeeperMark).
                All (IsKeptSince j g l (YieldsUpTo j.origin.start records)) m.raised) (sym now_is)
                (kept_brought records l seat.raised r
                (omega (arith, had.1.later, kept.1.later)) brings.told
                (omega (arith, is.marked, brings.rises)) only_now kept.0.stop
                (kept_on records k l seat.raised had.2 kept.1 brings.rises)),
          );
    }
      where
        kept_brought : (records : List Record) (l : KeeperState D) (raised : List Raised)
            (r : Result Turn Refusal) → j.opened_at ≤ g.moment l.disk → IsWithin r l.mark →
            (top raised).count ≤ l.mark → Since l.disk →
            ((bytes : List ℕ) → g.may_leave l.disk bytes →
            YieldsUpTo j.origin.start records l.mark bytes) →
            All (IsKeptSince j g l (YieldsUpTo j.origin.start records)) raised →
            All (IsKeptSince j g l (YieldsUpTo j.origin.start records))
            (brought_to raised (g.moment l.disk) r)
        kept_brought records l raised (Ok (Turn.Kept place)) opened told below only_now stop all =
            kept_now records l raised place opened told below only_now stop all
        kept_brought records l raised (Ok Turn.Idle) opened told below only_now stop all = all
        kept_brought records l raised (Ok Turn.Held) opened told below only_now stop all = all
        kept_brought records l raised (Err e) opened told below only_now stop all = all

    -- the flag was set where the keeper has failed
    pub vault_notes : (k : KeeperState D) (receiver : ReceiverState) (seat : KeeperMark)
        (near : AccordState) → IsVault j g k receiver seat near → (stops : ℕ) →
        (1 ≤ stops → k.failed ≡ true) →
        IsVault j g k receiver (record seat { stops = stops }) near
    vault_notes k receiver seat near is stops caused = record {
      handoff = is.handoff;
      mark = is.mark;
      awaited = is.awaited;
      marked = is.marked;
      caused = caused;
      noted = is.noted;
      received = is.received;
    }

    -- a piece of an image
    pub vault_images : (k : KeeperState D) (receiver : ReceiverState) (seat : KeeperMark)
        (near : AccordState) → IsVault j g k receiver seat near → (l : KeeperState D) →
        ImageKeeps g k l → k.mark ≤ l.mark → (stops : ℕ) → (1 ≤ stops → l.failed ≡ true) →
        IsVault j g l receiver (record seat { stops = stops }) near
    vault_images k receiver seat near is l keeps rises stops caused = record {
      handoff = is.handoff;
      mark = is.mark;
      awaited = is.awaited;
      marked = omega (arith, is.marked, rises);
      caused = caused;
      noted = is.noted;
      received = λ s records state groups recorded carried begin apart.
          let had = is.received s records state groups recorded carried begin apart in
          let kept = keeps j.origin.format j.origin.start j.origin.wear records state
          (frozen_ends receiver.noted)
          had.0.0
          receiver.received had.0.1 in (
            (had.0.0, kept.0),
            leaves_on records k l had.1 kept.1,
            kept_on records k l seat.raised had.2 kept.1 rises,
          );
    }

    -- and a flip, which tells the mark what is kept
    pub vault_flips : (k : KeeperState D) (receiver : ReceiverState) (seat : KeeperMark)
        (near : AccordState) → IsVault j g k receiver seat near → (r : Result ℕ Refusal)
        (l : KeeperState D) (now : KeeperMark) → ImageKeeps g k l → k.mark ≤ l.mark →
        mark_flipped k.mark r ≡ l.mark → Since l.disk → StaysCaused r k.failed l.failed →
        now ≡ record {
          table = seat.table;
          raised = flipped_to seat.raised (g.moment l.disk) r;
          stops = stops_behind r seat.stops;
        } → IsVault j g l receiver now near
    vault_flips k receiver seat near is (Err e) l now keeps rises flipped only_now caused now_is =
        subst (λ (m : KeeperMark). IsVault j g l receiver m near) (sym now_is)
        (vault_images k receiver seat near is l keeps rises (stops_by e seat.stops)
        (caused seat.stops is.caused))
    vault_flips k receiver seat near is (Ok place) l now keeps rises flipped only_now caused
        now_is =
        let laid = vault_images k receiver seat near is l keeps rises seat.stops
        (caused seat.stops is.caused) in
        subst (λ (m : KeeperMark). IsVault j g l receiver m near) (sym now_is) (record {
          handoff = is.handoff;
          mark = is.mark;
          awaited = is.awaited;
          marked = omega (arith, is.marked, rises, flipped);
          caused = laid.caused;
          noted = is.noted;
          received = λ s records state groups recorded carried begin apart.
              let had = laid.received s records state groups recorded carried begin apart in (
                had.0,
                had.1,
                kept_now records l seat.raised place had.1.later
                    (omega (arith, rises, flipped)) (omega (arith, is.marked, rises)) only_now
                    had.0.1.stop had.2,
              );
        })

    -- an image that was packed of what is known to be frozen is begun, or refused
    pub vault_begins : (k : KeeperState D) (receiver : ReceiverState) (seat : KeeperMark)
        (near : AccordState) → IsVault j g k receiver seat near → (image : Image) (behind : ℕ)
        (l : KeeperState D) (r : Result (Unit {0}) Refusal) → Packs near.gather image →
        BeginAnswers k image behind l r → BeginKeeps g image r k l → (stops : ℕ) →
        (1 ≤ stops → l.failed ≡ true) → IsVault j g l receiver (record seat { stops = stops }) near
    vault_begins k receiver seat near is image behind l r packs answers keeps stops caused =
        record {
          handoff = is.handoff;
          mark = is.mark;
          awaited = is.awaited;
          marked = omega (arith, is.marked, (begun_same k image behind l r answers).1);
          caused = caused;
          noted = is.noted;
          received = λ s records state groups recorded carried begin apart.
              let had = is.received s records state groups recorded carried begin apart in
              let there = is.noted (some_frozen near.gather image packs) in
              let of = each_among (PacksImages j.origin.format j.origin.start j.origin.wear records
              state) near.gather
              receiver.noted
              recorded.stand there image packs in
              let kept = keeps j.origin.format j.origin.start j.origin.wear records state
              (frozen_ends receiver.noted)
              had.0.0
              receiver.received of.begun of.is_for of.stands had.0.1 in
              let same = (begun_same k image behind l r answers).1 in (
                (begun_with of.begun had.0.0 r, kept.0),
                leaves_on records k l had.1 kept.1,
                kept_on records k l seat.raised had.2 kept.1 (omega (arith, same)),
              );
        }

    -- that nothing is frozen is known of every keeper
    pub vault_forgets : (k : KeeperState D) (receiver : ReceiverState) (seat : KeeperMark)
        (near after : AccordState) → IsVault j g k receiver seat near →
        after ≡ record { table = near.table; gather = nothing_gathered } →
        IsVault j g k receiver seat after
    vault_forgets k receiver seat near after is after_is =
        subst (IsVault j g k receiver seat) (sym after_is) (record {
          handoff = is.handoff;
          mark = is.mark;
          awaited = is.awaited;
          marked = is.marked;
          caused = is.caused;
          noted = λ some. absurd (some refl);
          received = is.received;
        })

-- ---- a turn over the hand-off

-- what a turn of the keeper answers, over the receiving end of a hand-off
abbrev Answered : {D : Type 0} → disks.Ghosts D → KeeperState D → KeeperState D →
    MutBor ReceiverState → MutBor ReceiverState → Result Turn Refusal → Type 0
Answered g k l before after r =
    TurnAnswers k.held (λ bs. Receives before bs after) (WasEmptyAt before) k.failed k.mark
    (λ b. b.end ≤ k.covered) (λ b. IsPast k.stage b.end)
    (λ b. size_of k.area < offset_of k.area + length b.bytes.items)
    ((l.area ≡ k.area) × (l.disk ≡ k.disk)) (Rises (g.fault_count k.disk) (g.fault_count l.disk))
    r l.held l.mark l.failed

turn_refused : {D : Type 0} (g : disks.Ghosts D) (k l : KeeperState D)
    (before after : MutBor ReceiverState) (r : Result Turn Refusal) →
    Answered g k l before after r → IfErr r IsTurnRefusal
turn_refused g k l before after (Ok turn) a = tt
turn_refused g k l before after (Err Refusal.Failed) a = tt
turn_refused g k l before after (Err Refusal.Full) a = tt
turn_refused g k l before after (Err Refusal.Fault) a = tt
turn_refused g k l before after (Err e) a = absurd a.1.2.2

-- a turn that is told as a fault is one of a keeper that has failed
turn_caused : {D : Type 0} (g : disks.Ghosts D) (k l : KeeperState D)
    (before after : MutBor ReceiverState) (r : Result Turn Refusal) →
    Answered g k l before after r → StaysCaused r k.failed l.failed
turn_caused g k l before after (Err Refusal.Failed) a stops was said = a.5
turn_caused g k l before after (Err Refusal.Fault) a stops was said = a.1.2.2.3
turn_caused g k l before after (Err e) a stops was said = not_both k.failed (was said) a.0
turn_caused g k l before after (Ok Turn.Idle) a stops was said = not_both k.failed (was said) a.0
turn_caused g k l before after (Ok turn) a stops was said = not_both k.failed (was said) a.0

brought_mark : (m n : ℕ) (r : Result Turn Refusal) → mark_behind m r ≡ n → m ≤ n →
    IsWithin r n
brought_mark m n (Ok (Turn.Kept place)) is rises = omega (arith, is, rises)
brought_mark m n (Ok Turn.Idle) is rises = tt
brought_mark m n (Ok Turn.Held) is rises = tt
brought_mark m n (Err e) is rises = tt

pub turn_brings : {D : Type 0} (g : disks.Ghosts D) (k l : KeeperState D)
    (before after : MutBor ReceiverState) (left : ReceiverState) →
    (before.ghost_name ≡ after.ghost_name → left ≡ after.now) → (r : Result Turn Refusal) →
    Answered g k l before after r → TurnKeeps g (λ bs. Receives before bs after) k l →
    l.stage ≡ k.stage → Brings g k before.now r l left
turn_brings g k l before after left back r answers keeps stage =
    let got = some_received k.held (λ bs. Receives before bs after) (WasEmptyAt before) k.failed
    l.failed k.mark l.mark (λ b. b.end ≤ k.covered) (λ b. IsPast k.stage b.end)
    (λ b. size_of k.area < offset_of k.area + length b.bytes.items)
    ((l.area ≡ k.area) × (l.disk ≡ k.disk)) (Rises (g.fault_count k.disk) (g.fault_count l.disk))
    r l.held answers in
    let rises = mark_rises k.held (λ bs. Receives before bs after) (WasEmptyAt before) k.failed
    l.failed k.mark l.mark (λ b. b.end ≤ k.covered) (λ b. IsPast k.stage b.end)
    (λ b. size_of k.area < offset_of k.area + length b.bytes.items)
    ((l.area ≡ k.area) × (l.disk ≡ k.disk)) (Rises (g.fault_count k.disk) (g.fault_count l.disk))
    r l.held answers in
    let is = mark_is k.held (λ bs. Receives before bs after) (WasEmptyAt before) k.failed
    l.failed k.mark l.mark (λ b. b.end ≤ k.covered) (λ b. IsPast k.stage b.end)
    (λ b. size_of k.area < offset_of k.area + length b.bytes.items)
    ((l.area ≡ k.area) × (l.disk ≡ k.disk)) (Rises (g.fault_count k.disk) (g.fault_count l.disk))
    r l.held answers in
    let same = sym got.1.same in
    let given = back same in
    record {
      more = got.0;
      receives = received_back before after got.0 left back got.1;
      keeps =
          λ format start wear records now freezes images received more groups takes carried begin apart
          had. keeps format start wear records now freezes images received more groups
          (received_there before after more left same given takes) carried begin apart had;
      stage = stage;
      rises = rises;
      told = brought_mark k.mark l.mark r is rises;
      refused = turn_refused g k l before after r answers;
      caused = turn_caused g k l before after r answers;
    }
