-- One step more of a world: its past goes on.
use Rattle.calls.specs.declared.format.Format.{Format}
use Rattle.std.proofs.Common.{◌≡◌, ⊎_elim, ℕ, ◌≤◌, Bool, Option, Some, None}
use Rattle.std.proofs.Common.{Result, Ok, Err, List, [], ◌∷◌, ◌++◌, length, take, refl, sym, ◌∙◌}
use Rattle.std.proofs.Common.{ap}
use Rattle.std.proofs.Common.{subst, arith, append_assoc}
use Rattle.std.specs.List.{AllByRecursion}
use Rattle.std.proofs.lemmas.List.{append-nil}
use Rattle.boosted.proofs.Each.{each_back}
use Rattle.calls.specs.Contents.{Collection}
use Rattle.calls.specs.declared.refusal.Refusal.{Refusal}
use Rattle.disk_model.specs.Disk.{LeavesOnly}
use Rattle.disk_model.proofs.Walk.{weaker}
use Rattle.records.specs.declared.record.Record.{Record}
use Rattle.records.specs.Records.{IsRecord}
use Rattle.records.specs.declared.block.Block.{Block}
use Rattle.records.specs.declared.block.Image.{Image}
use Rattle.steps.specs.Machine.{journalled}
use Rattle.replay.specs.Steps.{State, Repeats}
use Rattle.txn.specs.declared.actions.Action.{Action}
use Rattle.txn.specs.declared.actions.BookStep.{BookStep}
use Rattle.txn.specs.Books as books
use Rattle.txn.specs.Histories.{records_by, without_count}
use Rattle.txn.specs.Handing.{HasHanded}
use Rattle.txn.proofs.Handings.{records_by-push, records_then, taken_left, takes_on, cuts_on}
use Rattle.txn.proofs.Handings.{images_more}
use Rattle.checkpoint.specs.Crash.{Yields, committed_of}
use Rattle.checkpoint.specs.Keepers.{KeeperState}
use Rattle.checkpoint.specs.Keeping.{BegunImage, HasReceived}
use Rattle.checkpoint.specs.Stored.{StandIn}
use Rattle.checkpoint.proofs.StandLemmas.{stands_push, stands_unheard}
use Rattle.checkpoint.proofs.ReceivedLemmas.{received_push, received_unheard, still_kept, mark_few}
use Rattle.world.specs.declared.step.Step.{Step}
use Rattle.world.specs.declared.step.Answer.{Answer}
use Rattle.world.specs.Pasts.{Past, action_of, of_no_client, committed_in, told, outcome}
use Rattle.txn.specs.Books.{NamedBook}
use Rattle.world.specs.Pasts.{BookTakes, CoreStep}
use Rattle.world.specs.Worlds.{Parts, HasPast, StandsForBook}
use Rattle.world.proofs.PastLemmas.{are_push, are_still, committed_are}
use Rattle.world.proofs.PastLemmas.{greatest_told-push, yields_on}
use Rattle.recovery.proofs.CommittedReads.{as_many_committed, history_yields}
use Rattle.catalog.specs.Meaning.{catalog_meaning, catalog_making}

-- ---- the records of a book grow

received_leads : {D : Type 0} (seen : D → List ℕ) (may_leave : D → List ℕ → Type 0)
    (format : Format) (start : List Collection) (wear : ℕ) (records : List Record) (now : State)
    (freezes : List ℕ)
    (images : List BegunImage) (received : List Block) (k : KeeperState D) →
    HasReceived seen may_leave format start wear records now freezes images received k →
    (rs : List Record) (next : State) → AllByRecursion (IsRecord None) rs → Repeats rs now next →
    HasReceived seen may_leave format start wear (records ++ rs) next freezes images received k
received_leads seen may_leave format start wear records now freezes images received k had [] next
    good
    leads =
    subst (λ l. HasReceived seen may_leave format start wear l next freezes images received k)
    (sym (append-nil records))
    (subst (λ s. HasReceived seen may_leave format start wear records s freezes images received k)
    leads
    had)
received_leads seen may_leave format start wear records now freezes images received k had (r ∷ rs)
    next
    good leads =
    let one = received_push seen may_leave format start wear records now freezes images received k
    had r
    leads.0 leads.1 good.0 in
    subst (λ l. HasReceived seen may_leave format start wear l next freezes images received k)
    (append_assoc records (r ∷ []) rs)
    (received_leads seen may_leave format start wear (records ++ r ∷ []) leads.0 freezes images
    received k
    one rs next good.1 leads.2)

-- What stands for a beginning of them still does.
stands_leads : (format : Format) (start : List Collection) (wear : ℕ) (records : List Record)
    (now : State)
    (blocks : List (List Record)) (covered : List Record) →
    StandIn format start wear records now blocks covered → (rs : List Record) (next : State) →
    Repeats rs now next → StandIn format start wear (records ++ rs) next blocks covered
stands_leads format start wear records now blocks covered stands [] next leads =
    subst (λ l. StandIn format start wear l next blocks covered) (sym (append-nil records))
    (subst (λ s. StandIn format start wear records s blocks covered) leads stands)
stands_leads format start wear records now blocks covered stands (r ∷ rs) next leads =
    let one = stands_push format start wear records now blocks covered r leads.0 leads.1 stands in
    subst (λ l. StandIn format start wear l next blocks covered) (append_assoc records (r ∷ []) rs)
    (stands_leads format start wear (records ++ r ∷ []) leads.0 blocks covered one.0 rs next
    leads.2)

-- An image stands for a book with a step more, where its blocks do.
pub stands_on : (format : Format) (start : List Collection) (wear : ℕ) (steps : List BookStep)
    (x : BookStep)
    (now next : State) (image : Image) → StandsForBook format start wear steps now image →
    ((blocks : List (List Record)) (covered : List Record) →
    StandIn format start wear (records_by steps) now blocks covered →
    StandIn format start wear (records_by (steps ++ x ∷ [])) next blocks covered) →
    StandsForBook format start wear (steps ++ x ∷ []) next image
stands_on format start wear steps x now next image stands goes = record {
  is_in =
      images_more catalog_meaning catalog_making (λ v. v) format start wear steps x image
      stands.is_in;
  begun = stands.begun;
  is_for = stands.is_for;
  stands = goes stands.begun.blocks stands.begun.covered stands.stands;
}

-- It stands for it where the step adds no record, and leaves the state.
pub stands_still : (format : Format) (start : List Collection) (wear : ℕ) (steps : List BookStep)
    (x : BookStep)
    (now next : State) (image : Image) → records_by (steps ++ x ∷ []) ≡ records_by steps →
    next ≡ now → StandsForBook format start wear steps now image →
    StandsForBook format start wear (steps ++ x ∷ []) next image
stands_still format start wear steps x now next image all same stands =
    stands_on format start wear steps x now next image stands
    (λ blocks covered stood. subst (λ l. StandIn format start wear l next blocks covered) (sym all)
    (subst (λ s. StandIn format start wear (records_by steps) s blocks covered) (sym same) stood))

-- The pending records behind a step are good; nothing is asked of them behind one that adds none.
abbrev pub AreGoodBehind : Step → NamedBook → Type 0
AreGoodBehind Step.Draw t = Unit {0}
AreGoodBehind Step.Cut t = Unit {0}
AreGoodBehind Step.Look t = Unit {0}
AreGoodBehind s t = AllByRecursion (IsRecord None) t.pending

-- the book's step of no client
abbrev pub alone_step : Action → BookStep
alone_step action = record { client = None; action = action }

-- only a cut has a number of records
uncut : (b : NamedBook) (action : Action) (t : NamedBook) →
    books.Takes catalog_meaning catalog_making b action t → without_count action ≡ action
uncut b (Action.Cut count a) t took = absurd took
uncut b (Action.Make name kind a) t took = refl
uncut b (Action.Enter n a) t took = refl
uncut b (Action.Ask n target call when a) t took = refl
uncut b (Action.Commit n a) t took = refl
uncut b (Action.Back n a) t took = refl
uncut b (Action.Ended n a) t took = refl
uncut b (Action.Gather a) t took = absurd took
uncut b (Action.Freeze a) t took = absurd took

module _ {D : Type 0} (seen : D → List ℕ) (may_leave : D → List ℕ → Type 0)
    (start : List Collection) (past : Past) (w : Parts D)
    (had : HasPast seen may_leave start past w) where
  -- the mark counts transactions that the records commit
  few_kept : w.keeper.mark ≤ length (committed_of (records_by had.steps))
  few_kept = mark_few seen may_leave had.format start had.wear (records_by had.steps)
      (journalled w.book.state)
      had.freezes had.begun had.received w.keeper had.keeps

  -- What is yielded of what the records commit is yielded of what the past did.
  yields_now : (c : List ℕ) → Yields start (committed_of (records_by had.steps))
      (take w.keeper.mark (committed_of (records_by had.steps))) c →
      Yields start (committed_in past) (take w.mark (committed_in past)) c
  yields_now c y =
      subst (λ m. Yields start (committed_in past) (take m (committed_in past)) c) (sym had.marked)
      (subst (λ ts. Yields start ts (take w.keeper.mark ts) c)
      (sym (committed_are past had.steps had.are))
      (history_yields had.format start had.wear had.steps (books.standing w.book) had.handed.legal
      w.keeper.mark few_kept c y))

  -- what a stop leaves now, or at a moment, is what the past yields that goes on so
  pub yields_then : (x : Step × Answer) (c : List ℕ) →
      Yields start (committed_of (records_by had.steps))
      (take w.keeper.mark (committed_of (records_by had.steps))) c →
      Yields start (committed_in (past ++ x ∷ [])) (take w.mark (committed_in past)) c
  yields_then x c y = yields_on start past (x ∷ []) (take w.mark (committed_in past)) c
      (yields_now c y)

  pub moments_then : (moment : D → ℕ) (left_since : D → ℕ → List ℕ → Type 0) (disk : D)
      (x : Step × Answer) →
      LeavesOnly moment left_since w.keeper.disk disk
      (Yields start (committed_of (records_by had.steps))
      (take w.keeper.mark (committed_of (records_by had.steps)))) →
      LeavesOnly moment left_since w.keeper.disk disk
      (Yields start (committed_in (past ++ x ∷ [])) (take w.mark (committed_in past)))
  moments_then moment left_since disk x leaves =
      weaker moment left_since w.keeper.disk disk
      (Yields start (committed_of (records_by had.steps))
      (take w.keeper.mark (committed_of (records_by had.steps))))
      (Yields start (committed_in (past ++ x ∷ [])) (take w.mark (committed_in past))) leaves
      (yields_then x)

  -- where the disk stays, a stop leaves what the past yields
  pub rests : (moment : D → ℕ) (left_since : D → ℕ → List ℕ → Type 0) →
      ((c : List ℕ) → left_since w.keeper.disk (moment w.keeper.disk) c →
      may_leave w.keeper.disk c) →
      LeavesOnly moment left_since w.keeper.disk w.keeper.disk
      (Yields start (committed_in past) (take w.mark (committed_in past)))
  rests moment left_since only_now =
      weaker moment left_since w.keeper.disk w.keeper.disk
      (Yields start (committed_of (records_by had.steps))
      (take w.keeper.mark (committed_of (records_by had.steps))))
      (Yields start (committed_in past) (take w.mark (committed_in past)))
      (still_kept seen may_leave had.format start had.wear (records_by had.steps)
      (journalled w.book.state)
      had.freezes had.begun had.received w.keeper had.keeps moment left_since only_now) yields_now

  -- and what it yields that goes on
  pub quiet : (moment : D → ℕ) (left_since : D → ℕ → List ℕ → Type 0) →
      ((c : List ℕ) → left_since w.keeper.disk (moment w.keeper.disk) c →
      may_leave w.keeper.disk c) → (x : Step × Answer) →
      LeavesOnly moment left_since w.keeper.disk w.keeper.disk
      (Yields start (committed_in (past ++ x ∷ [])) (take w.mark (committed_in past)))
  quiet moment left_since only_now x =
      moments_then moment left_since w.keeper.disk x
      (still_kept seen may_leave had.format start had.wear (records_by had.steps)
      (journalled w.book.state)
      had.freezes had.begun had.received w.keeper had.keeps moment left_since only_now)

  -- the mark counts transactions that are committed
  pub few_marked : w.mark ≤ length (committed_in past)
  few_marked = omega (
    arith,
    few_kept,
    had.marked,
    ap length (committed_are past had.steps had.are),
    as_many_committed had.format start had.wear had.steps (books.standing w.book) had.handed.legal,
  )

  -- a step in which the book and the keeper take no part
  pub passes : (x : Step × Answer) → action_of x.0 x.1 ≡ None → told x.0 x.1 ≤ w.mark →
      HasPast seen may_leave start (past ++ x ∷ []) w
  passes x none tells = record {
    format = had.format;
    wear = had.wear;
    steps = had.steps;
    are = are_still past x had.steps had.are none;
    received = had.received;
    groups = had.groups;
    freezes = had.freezes;
    images = had.images;
    handed = had.handed;
    begun = had.begun;
    are_begun = had.are_begun;
    keeps = had.keeps;
    packs = had.packs;
    marked = had.marked;
    told = greatest_told-push past x.0 x.1 w.mark had.told tells;
  }

  -- a step of the book that hands nothing over
  pub takes : (x : Step × Answer) (action : Action) (t : NamedBook) →
      action_of x.0 x.1 ≡ Some action → told x.0 x.1 ≤ w.mark →
      books.Takes catalog_meaning catalog_making w.book action t →
      AllByRecursion (IsRecord None) t.pending →
      HasPast seen may_leave start (past ++ x ∷ []) (record w { book = t })
  takes x action t is tells took good =
      let step = alone_step action in
      let rs = records_then had.steps action in
      let left = taken_left catalog_meaning catalog_making (λ v. v) had.format start had.wear
      had.steps w.book
      t
      (had.received ++ w.transit) had.groups had.freezes had.images had.handed None action took in
      let more : AllByRecursion (IsRecord None) rs = each_back (IsRecord None) w.book.pending rs
      (subst (AllByRecursion (IsRecord None)) left.pending good) in
      let keeps : HasReceived seen may_leave had.format start had.wear (records_by had.steps ++ rs)
      (journalled t.state) had.freezes had.begun had.received w.keeper =
      ⊎_elim
      (λ (leads : Repeats rs (journalled w.book.state) (journalled t.state)).
      received_leads seen may_leave had.format start had.wear (records_by had.steps)
      (journalled w.book.state) had.freezes had.begun had.received w.keeper had.keeps rs
      (journalled t.state) more leads)
      (λ unheard. subst (λ l. HasReceived seen may_leave had.format start had.wear l
      (journalled t.state)
      had.freezes had.begun had.received w.keeper)
      (sym (append-nil (records_by had.steps)) ∙
      ap (λ l. records_by had.steps ++ l) (sym unheard.0))
      (received_unheard seen may_leave had.format start had.wear (records_by had.steps)
      (journalled w.book.state) had.freezes had.begun had.received w.keeper had.keeps
      (journalled t.state) unheard.1))
      left.leads in
      let all : records_by had.steps ++ rs ≡ records_by (had.steps ++ step ∷ []) =
      sym (records_by-push had.steps step) in
      let goes : (blocks : List (List Record)) (covered : List Record) →
      StandIn had.format start had.wear (records_by had.steps) (journalled w.book.state) blocks
      covered →
      StandIn had.format start had.wear (records_by (had.steps ++ step ∷ [])) (journalled t.state)
      blocks
      covered =
      λ blocks covered stands. subst (λ l. StandIn had.format start had.wear l (journalled t.state)
      blocks
      covered) all
      (⊎_elim
      (λ (leads : Repeats rs (journalled w.book.state) (journalled t.state)).
      stands_leads had.format start had.wear (records_by had.steps) (journalled w.book.state) blocks
      covered
      stands rs (journalled t.state) leads)
      (λ unheard. subst (λ l. StandIn had.format start had.wear l (journalled t.state) blocks
      covered)
      (sym (append-nil (records_by had.steps)) ∙
      ap (λ l. records_by had.steps ++ l) (sym unheard.0))
      (stands_unheard had.format start had.wear (records_by had.steps) (journalled w.book.state)
      blocks covered
      (journalled t.state) unheard.1 stands).0)
      left.leads) in
      record {
        format = had.format;
        wear = had.wear;
        steps = had.steps ++ step ∷ [];
        are = are_push past x had.steps (step ∷ []) had.are
            (ap (λ v. alone_step v ∷ []) (uncut w.book action t took) ∙ ap of_no_client (sym is));
        received = had.received;
        groups = had.groups;
        freezes = had.freezes;
        images = had.images;
        handed = takes_on catalog_meaning catalog_making (λ v. v) had.format start had.wear
            had.steps w.book t
            (had.received ++ w.transit) had.groups had.freezes had.images had.handed None action
            took good;
        begun = had.begun;
        are_begun = had.are_begun;
        keeps = subst (λ l. HasReceived seen may_leave had.format start had.wear l
            (journalled t.state)
            had.freezes had.begun had.received w.keeper) all keeps;
        packs = λ image packed. stands_on had.format start had.wear had.steps step
            (journalled w.book.state)
            (journalled t.state) image (had.packs image packed) goes;
        marked = had.marked;
        told = greatest_told-push past x.0 x.1 w.mark had.told tells;
      }

  -- a block is handed over, or none
  pub cuts : (a : Result Bool Refusal) (t : NamedBook) (waits : List Block) →
      action_of Step.Cut (outcome Answer.Cut a) ≡ Some (Action.Cut 0 a) →
      books.CutAnswers w.book (λ bs. waits ≡ w.transit ++ bs) (4 ≤ length w.transit) a t →
      HasPast seen may_leave start (past ++ (Step.Cut, outcome Answer.Cut a) ∷ [])
      (record w { book = t; transit = waits })
  cuts a t waits acts cut =
      let on = cuts_on catalog_meaning catalog_making (λ v. v) had.format start had.wear had.steps
      w.book t
      (had.received ++ w.transit) had.groups had.freezes had.images had.handed None
      (λ bs. waits ≡ w.transit ++ bs) (4 ≤ length w.transit) a cut in
      let step = alone_step (Action.Cut on.0 a) in
      let all : records_by (had.steps ++ step ∷ []) ≡ records_by had.steps =
      records_by-push had.steps step ∙ append-nil (records_by had.steps) in
      let same : journalled t.state ≡ journalled w.book.state =
      ap (λ (x : NamedBook). journalled x.state) cut.1 in
      record {
        format = had.format;
        wear = had.wear;
        steps = had.steps ++ step ∷ [];
        are = are_push past (Step.Cut, outcome Answer.Cut a) had.steps (step ∷ []) had.are
            (ap of_no_client (sym acts));
        received = had.received;
        groups = had.groups ++ on.2;
        freezes = had.freezes;
        images = had.images;
        handed = subst (λ l. HasHanded catalog_meaning catalog_making (λ v. v) had.format start
            had.wear
            (had.steps ++ step ∷ []) t l (had.groups ++ on.2) had.freezes had.images)
            (append_assoc had.received w.transit on.1 ∙ ap (λ l. had.received ++ l) (sym on.3))
            on.4;
        begun = had.begun;
        are_begun = had.are_begun;
        keeps = subst (λ l. HasReceived seen may_leave had.format start had.wear l
            (journalled t.state)
            had.freezes had.begun had.received w.keeper) (sym all)
            (subst (λ s. HasReceived seen may_leave had.format start had.wear (records_by had.steps)
            s
            had.freezes had.begun had.received w.keeper) (sym same) had.keeps);
        packs = λ image packed. stands_still had.format start had.wear had.steps step
            (journalled w.book.state) (journalled t.state) image all same (had.packs image packed);
        marked = had.marked;
        told = greatest_told-push past Step.Cut (outcome Answer.Cut a) w.mark had.told
            (omega arith);
      }

  -- a step that hands nothing over, or in which the book takes no part
  book_takes : (x : Step × Answer) (o : Option Action) (t : NamedBook) (waits : List Block) →
      action_of x.0 x.1 ≡ o → told x.0 x.1 ≤ w.mark → BookTakes w.book o t →
      AllByRecursion (IsRecord None) t.pending → waits ≡ w.transit →
      HasPast seen may_leave start (past ++ x ∷ []) (record w { book = t; transit = waits })
  book_takes x None t waits is tells took good same =
      rw (took, same) (passes x is tells)
  book_takes x (Some action) t waits is tells took good same =
      rw (same) (takes x action t is tells took good)

  -- every step that calls no keeper
  pub core_past : (x : Step × Answer) (t : NamedBook) (waits : List Block) → AreGoodBehind x.0 t →
      CoreStep w.book w.transit w.mark x t waits →
      HasPast seen may_leave start (past ++ x ∷ []) (record w { book = t; transit = waits })
  core_past (Step.Draw, a) t waits good step =
      rw (step.1, step.2) (passes (Step.Draw, a) refl (omega arith))
  core_past (Step.Make name kind, a) t waits good step =
      book_takes (Step.Make name kind, a) (action_of (Step.Make name kind) a) t waits refl
      (omega arith) step.1 good step.2
  core_past (Step.Enter n, a) t waits good step =
      book_takes (Step.Enter n, a) (action_of (Step.Enter n) a) t waits refl (omega arith) step.1
      good step.2
  core_past (Step.Ask n at call when, a) t waits good step =
      book_takes (Step.Ask n at call when, a) (action_of (Step.Ask n at call when) a) t waits refl
      (omega arith) step.1 good step.2
  core_past (Step.Commit n, a) t waits good step =
      book_takes (Step.Commit n, a) (action_of (Step.Commit n) a) t waits refl (omega arith) step.1
      good step.2
  core_past (Step.Back n, a) t waits good step =
      book_takes (Step.Back n, a) (action_of (Step.Back n) a) t waits refl (omega arith) step.1 good
      step.2
  core_past (Step.Ended n, a) t waits good step =
      book_takes (Step.Ended n, a) (action_of (Step.Ended n) a) t waits refl (omega arith) step.1
      good step.2
  core_past (Step.Cut, Answer.Cut handed) t waits good step = cuts (Ok handed) t waits refl step
  core_past (Step.Cut, Answer.Refused Refusal.NotNow) t waits good step =
      cuts (Err Refusal.NotNow) t waits refl step
  core_past (Step.Cut, Answer.Refused Refusal.Imaging) t waits good step =
      rw (step.0, step.1) (passes (Step.Cut, Answer.Refused Refusal.Imaging) refl (omega arith))
  core_past (Step.Cut, Answer.Refused Refusal.Full) t waits good step =
      rw (step.0, step.1) (passes (Step.Cut, Answer.Refused Refusal.Full) refl (omega arith))
  core_past (Step.Cut, a) t waits good step = absurd step
  core_past (Step.Look, Answer.Marked m) t waits good step =
      rw (step.0, step.2) (passes (Step.Look, Answer.Marked m) refl (omega (arith, step.1)))
  core_past (Step.Look, a) t waits good step =
      rw (step.1, step.2) (passes (Step.Look, a) refl (omega arith))
  core_past (Step.Turn, a) t waits good step = absurd step
  core_past (Step.Gather, a) t waits good step = absurd step
  core_past (Step.Freeze, a) t waits good step = absurd step
  core_past (Step.Pack, a) t waits good step = absurd step
  core_past (Step.Piece, a) t waits good step = absurd step
  core_past (Step.Flip, a) t waits good step = absurd step
