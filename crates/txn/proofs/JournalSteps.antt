-- A step of the journal, on one shelf or beside all, is one of the book.
use Rattle.std.proofs.Common.{cond, ◌≡◌, ℕ, ◌+◌, ◌<◌, ◌^◌, inl, inr, List, [], ◌∷◌}
use Rattle.std.proofs.Common.{Result, Ok, Err, Bool, true, false, refl, sym, ◌∙◌, ap, subst, arith}
use Rattle.calls.specs.declared.call.Call.{Call}
use Rattle.calls.specs.declared.reply.Reply.{Reply}
use Rattle.calls.specs.declared.refusal.Refusal.{Refusal}
use Rattle.calls.specs.declared.when.When.{When}
use Rattle.calls.specs.Contents.{Content, Collection}
use Rattle.calls.specs.Reads.{reads}
use Rattle.calls.specs.Rules.{need_of}
use Rattle.calls.specs.Transactions.{Event}
use Rattle.abstract_locks.specs.Holds.{IsClear, IsBusyRefusal}
use Rattle.undo_log.specs.LeftCalls.{GoesTwice}
use Rattle.boosted.specs.Meaning.{Meaning, HasRoom}
use Rattle.boosted.specs.Laws.{BoostedLaws}
use Rattle.catalog.specs.declared.four.Four.{Four}
use Rattle.catalog.specs.Fours.{Which, which_of, put}
use Rattle.catalog.specs.Making.{Making, MakingLaws}
use Rattle.catalog.specs.Shelving.{ShelfLaws}
use Rattle.catalog.specs.Woven.{Label}
use Rattle.steps.specs.Shelves.{ShelfState}
use Rattle.steps.specs.Looks.{CanTake, TakeRefused, CanTell, MayStarve}
use Rattle.records.specs.declared.record.Record.{Record}
use Rattle.records.specs.Records.{FitsCall, FitsReply}
use Rattle.records.specs.Short.{AreShort}
use Rattle.records.specs.Told.{Tells}
use Rattle.records.proofs.Items.{widest_call}
use Rattle.records.specs.Cuts.{CutsOff}
use Rattle.records.specs.declared.block.Block.{Block}
use Rattle.steps.specs.Machine.{State, IsRunning, IsSettled, BeginRow, CallRow, ReadRow}
use Rattle.steps.specs.Machine.{LaterRow}
use Rattle.steps.specs.Machines.{HasRoomFor}
use Rattle.steps.specs.Sound.{IsSound}
use Rattle.steps.specs.Wholes.{state_on, contents, whole_state, IsJoined, StepsOn}
use Rattle.steps.specs.Wholes.{StepsBeside}
use Rattle.steps.specs.TransactionTables.{alone}
use Rattle.steps.proofs.BookLaws.{BookLaws, book_laws}
use Rattle.steps.proofs.Joining as joining
use Rattle.steps.proofs.Steps.{begin_settles, call_settles, later_settles}
use Rattle.steps.proofs.Readings.{read_settles}
use Rattle.steps.proofs.InvariantRows.{call_room}
use Rattle.images.specs.Gatherings.{noted, effect_at}
use Rattle.images.proofs.Running.{are_run}
use Rattle.txn.specs.declared.actions.Action.{Action}
use Rattle.txn.specs.declared.actions.Target.{Target}
use Rattle.txn.specs.Rows.{IsOpen, OpenRefused, IsDenied, CanGet}
use Rattle.txn.specs.Rows.{IsMade, record_of, later_record}
use Rattle.txn.specs.Books.{BookState, standing, IsKept, Takes, CutAnswers, Appends, Moves}
use Rattle.txn.specs.Books.{lsn}
use Rattle.txn.specs.Shelved.{JournalState, book_state, standing_of, journal_lsn, Writes}
use Rattle.txn.specs.Shelved.{Charges, Settles, IsBook, LeadsOn, LeadsBeside, Serves}
use Rattle.txn.proofs.BookInvariant.{cut_keeps, enter_keeps, call_keeps, read_keeps, later_keeps}
use Rattle.txn.proofs.CallRecords.{is_record}
use Rattle.txn.proofs.Goings.{goes_still, goes_ran, lsn_after}

module _ {S T N : Type 0} (whole : N → Four T → S) where
  -- What the journal writes, the book appends.
  pub appended : {j k : JournalState N} {r : Record} (f g : Four (ShelfState T)) → Writes j r k →
      Appends (book_state whole j f) r (book_state whole k g)
  appended {j} {k} f g writes = record {
    room = writes.room;
    is = ap (λ (v : JournalState N). record (book_state whole v f) {
      state = whole_state whole k.names k.transactions g;
      gathering = k.gathering;
    }) writes.is;
  }

  -- Where only the transactions change, the book moves.
  pub moved : (j k : JournalState N) (f g : Four (ShelfState T)) → Charges j k →
      Moves (book_state whole j f) (book_state whole k g)
  moved j k f g is = ap (λ (v : JournalState N). record (book_state whole v f) {
    state = whole_state whole k.names k.transactions g;
    gathering = k.gathering;
  }) is

-- ---- refusals, of what stands of the journal alone

module _ {S T N : Type 0} (whole : N → Four T → S) (j : JournalState N) (f : Four (ShelfState T))
    (n : ℕ) where
  pub runs_whole : IsRunning (alone j.transactions) n →
      IsRunning (whole_state whole j.names j.transactions f) n
  runs_whole running = record { live = running.live; standing = running.standing }

  pub opens_whole : (ask : Type 0) → IsOpen (Unit {0}) (standing_of j) n → ask →
      IsOpen ask (standing (book_state whole j f)) n
  opens_whole ask is asked = record {
    running = runs_whole is.running;
    asked = asked;
    unworn = is.unworn;
    few = is.few;
    room = is.room;
  }

  pub open_refused : (ask : Type 0) (e : Refusal) → OpenRefused (Unit {0}) (standing_of j) n e →
      ask → OpenRefused ask (standing (book_state whole j f)) n e
  open_refused ask Refusal.NoSuchTxn is asked = is
  open_refused ask Refusal.Falling is asked = is
  open_refused ask Refusal.Worn is asked = (runs_whole is.0, asked, is.2)
  open_refused ask Refusal.TooManyCalls is asked = (runs_whole is.0, asked, is.2, is.3)
  open_refused ask Refusal.Backlog is asked = (runs_whole is.0, asked, is.2, is.3, is.4)
  open_refused ask e is asked = absurd is

module _ {S T N : Type 0} {meaning : Meaning S ℕ} {making : Making S}
    {collections : S → List Collection} {shelf : Meaning T ℕ} {index : T → Which}
    {holds : T → ℕ → Content → Type 0} {labels : N → List Label} {whole : N → Four T → S}
    {fits : N → Four T → Type 0} (calls : BoostedLaws meaning) (makings : MakingLaws meaning making)
    (told : Tells meaning making collections)
    (shelves : ShelfLaws labels whole fits meaning making collections shelf index holds) where
  laws : BookLaws meaning making (λ f s. AreShort f (collections s))
  laws = book_laws calls makings told

  abbrev Book : JournalState N → Four (ShelfState T) → Type 0
  Book j f = IsBook meaning making collections whole fits j f

  abbrev Kept : BookState S → Type 0
  Kept b = IsKept meaning making (λ f s. AreShort f (collections s)) (IsSound meaning making) b

  abbrev Served : {R : Type 0} → (Result R Refusal → Action) → Result R Refusal →
      BookState S → BookState S → Type 0
  Served action result b c = Serves meaning making collections action result b c

  abbrev On : (BookState S → BookState S → Type 0) → Which → JournalState N → ShelfState T →
      JournalState N → ShelfState T → Type 0
  On Told w j s k t = LeadsOn meaning making collections whole fits Told w j s k t

  abbrev Beside : (BookState S → BookState S → Type 0) → JournalState N → JournalState N → Type 0
  Beside Told j k = LeadsBeside meaning making collections whole fits Told j k

  -- A row of the machine that keeps a book, and is told of it so.
  abbrev Keeps : (State S → State S → Type 0) → (BookState S → BookState S → Type 0) →
      BookState S → BookState S → Type 0
  Keeps Row Told b c = Kept b → Row b.state c.state → Kept c × Told b c

  -- a refused step
  pub refused_on : {R : Type 0} {action : Result R Refusal → Action} {e : Refusal} (w : Which)
      (j : JournalState N) (s : ShelfState T) →
      ((rest : Four (ShelfState T)) → Book j (put rest w s) → let b = book_state whole j
      (put rest w s) in Takes meaning making b (action (Err e)) b) →
      On (Served action (Err e)) w j s j s
  refused_on w j s answer = record {
    told = λ rest is. record { answer = answer rest is; settles = λ d v. v; goes = tt; notes = tt };
    kept = λ rest is. is;
  }

  -- a step whose row the machine has in parts
  pub leads_on : {Row : State S → State S → Type 0} {Told : BookState S → BookState S → Type 0}
      {w : Which} {j k : JournalState N} {s t : ShelfState T} → k.names ≡ j.names →
      StepsOn meaning making collections whole fits Row w j.names j.transactions s k.transactions
      t →
      ((rest : Four (ShelfState T)) → Keeps Row Told (book_state whole j (put rest w s))
      (book_state whole k (put rest w t))) → On Told w j s k t
  leads_on {Row} {Told} {w} {j} {k} {s} {t} same steps keeps =
      let both : (rest : Four (ShelfState T)) → Book j (put rest w s) → Book k (put rest w t) ×
      Told (book_state whole j (put rest w s)) (book_state whole k (put rest w t)) =
      λ rest is.
      let c = book_state whole k (put rest w t) in
      let row = subst (λ m. Row (whole_state whole j.names j.transactions (put rest w s))
      (whole_state whole m k.transactions (put rest w t))) (sym same) (steps.row rest is.joined) in
      let done = keeps rest is.kept row in (
        record {
          joined = subst (λ m. IsJoined meaning making collections whole fits m k.transactions
              (put rest w t)) (sym same) (steps.joined rest is.joined);
          kept = done.0;
        },
        done.1,
      ) in
      record { told = λ rest is. (both rest is).1; kept = λ rest is. (both rest is).0 }

  pub leads_beside : {Row : State S → State S → Type 0} {Told : BookState S → BookState S → Type 0}
      {j k : JournalState N} → k.names ≡ j.names →
      StepsBeside meaning making collections whole fits Row j.names j.transactions k.transactions →
      ((f : Four (ShelfState T)) → Keeps Row Told (book_state whole j f) (book_state whole k f)) →
      Beside Told j k
  leads_beside {Row} {Told} {j} {k} same steps keeps =
      let both : (f : Four (ShelfState T)) → Book j f → Book k f ×
      Told (book_state whole j f) (book_state whole k f) =
      λ f is.
      let row = subst (λ m. Row (whole_state whole j.names j.transactions f)
      (whole_state whole m k.transactions f)) (sym same) (steps.row f is.joined) in
      let done = keeps f is.kept row in (
        record {
          joined = subst (λ m. IsJoined meaning making collections whole fits m k.transactions f)
              (sym same) (steps.joined f is.joined);
          kept = done.0;
        },
        done.1,
      ) in
      record { told = λ f is. (both f is).1; kept = λ f is. (both f is).0 }

  -- ---- records are handed over

  pub cut_beside : (sends : List Block → Type 0) (full : Type 0) (result : Result Bool Refusal)
      (j k : JournalState N) →
      CutsOff j.pending j.freezes j.end j.place sends full result k.pending k.freezes k.end
      k.place →
      k ≡ record j { pending = k.pending; freezes = k.freezes; end = k.end; place = k.place } →
      Beside (λ b c. CutAnswers b sends full result c × Settles meaning b c) j k
  cut_beside sends full result j k cuts same =
      let answer : (f : Four (ShelfState T)) →
      CutAnswers (book_state whole j f) sends full result (book_state whole k f) =
      λ f. (cuts, ap (λ v. book_state whole v f) same) in
      record {
        told = λ f is. (
          answer f,
          λ d v. subst (λ (u : JournalState N). IsSettled meaning
              (whole_state whole u.names u.transactions f) d) (sym same) v,
        );
        kept = λ f is. record {
          joined = subst (λ (u : JournalState N). IsJoined meaning making collections whole fits
              u.names u.transactions f) (sym same) is.joined;
          kept = cut_keeps meaning making (λ form s. AreShort form (collections s)) laws
              (book_state whole j f) is.kept sends full result (book_state whole k f) (answer f);
        };
      }

  -- ---- a transaction begins

  pub enter_beside : (j k : JournalState N) (n : ℕ) →
      BeginRow (alone j.transactions) n (alone k.transactions) → j.transactions.wear < 2 ^ 61 →
      Writes j (Record.Begin n) k → k.names ≡ j.names → k.gathering ≡ j.gathering →
      Beside (Served (Action.Enter n) (Ok tt)) j k
  enter_beside j k n row unworn writes same still =
      leads_beside same (joining.begin_joins shelves laws j.names j.transactions k.transactions n
      row)
      (λ f kept row.
      let b = book_state whole j f in
      let c = book_state whole k f in
      let to = appended whole f f writes in (
        enter_keeps meaning making (λ form s. AreShort form (collections s)) laws b kept n c row
            to,
        record {
          answer = (row, unworn, to);
          settles = λ d v. begin_settles meaning making laws.rules b.state kept.upheld.holds n
              c.state d row v;
          goes = goes_still calls told b c (ap (λ (v : State S). v.now) row.is) still
              (omega (arith, lsn_after b c (Record.Begin n) to));
          notes = still;
        },
      ))

  -- ---- calls

  module _ (j : JournalState N) (s : ShelfState T) (n at : ℕ) (call : Call) where
    abbrev Asked : When → Result Reply Refusal → JournalState N → ShelfState T → Type 0
    Asked when result k t =
        On (Served (Action.Ask n (Target.Number at) call when) result) (which_of at) j s k t

    abbrev Refuses : When → Refusal → Type 0
    Refuses when e = Asked when (Err e) j s

    abbrev Opens : Type 0
    Opens = IsOpen (Unit {0}) (standing_of j) n

    abbrev CanTakeHere : When → Type 0
    CanTakeHere when = CanTake shelf when j.transactions.format s.now at call

    can_take : (when : When) (rest : Four (ShelfState T)) → Book j (put rest (which_of at) s) →
        CanTakeHere when → CanTake meaning when j.transactions.format
        (whole j.names (contents (put rest (which_of at) s))) at call
    can_take When.Now rest is asks =
        joining.asked_join shelves laws j.names j.transactions rest at s
        is.joined j.transactions.format call asks
    can_take When.AtCommit rest is defers =
        joining.deferred_join shelves laws j.names j.transactions
        rest at s is.joined call defers

    take_refused : (when : When) (rest : Four (ShelfState T)) →
        Book j (put rest (which_of at) s) → (e : Refusal) →
        TakeRefused shelf when j.transactions.format s.now at call e →
        TakeRefused meaning when j.transactions.format
        (whole j.names (contents (put rest (which_of at) s))) at call e
    take_refused When.Now rest is e why =
        joining.refused_join shelves laws j.names j.transactions rest
        at s is.joined j.transactions.format call e why
    take_refused When.AtCommit rest is e why = joining.defer_refused_join shelves laws j.names
        j.transactions rest at s is.joined call e why

    -- It is refused as its shelf shows,
    pub misplaced : (when : When) (e : Refusal) → IsRunning (alone j.transactions) n →
        TakeRefused shelf when j.transactions.format s.now at call e → Refuses when e
    misplaced when e running why = refused_on (which_of at) j s
        (λ rest is. (
          refl,
          inr (inl (
            runs_whole whole j (put rest (which_of at) s) n running,
            take_refused when rest is e why,
          )),
        ))

    -- as the journal has no room,
    pub unopened : (when : When) (e : Refusal) → OpenRefused (Unit {0}) (standing_of j) n e →
        CanTakeHere when → Refuses when e
    unopened when e why takes = refused_on (which_of at) j s
        (λ rest is. (
          refl,
          inl (open_refused whole j (put rest (which_of at) s) n _ e why
              (can_take when rest is takes)),
        ))

    -- for a reason that stands behind these,
    in_vain : (when : When) (e : Refusal) → Opens → CanTakeHere when →
        ((rest : Four (ShelfState T)) → Book j (put rest (which_of at) s) → IsDenied meaning when
        (standing (book_state whole j (put rest (which_of at) s))) n at call e) →
        Refuses when e
    in_vain when e opened takes why = refused_on (which_of at) j s
        (λ rest is. (
          refl,
          inr (inr (
            opens_whole whole j (put rest (which_of at) s) n _ opened
                (can_take when rest is takes),
            why rest is,
          )),
        ))

    -- for want of memory for the reply,
    pub starved : (when : When) → Opens → CanTakeHere when → MayStarve shelf when call →
        Refuses when Refusal.NoMemory
    starved When.Now opened takes value =
        in_vain When.Now Refusal.NoMemory opened takes (λ rest is. inl value)
    starved When.AtCommit opened takes value = absurd value

    module _ (reply : Reply) where
      abbrev event : Event
      event = record { at = at; call = call; reply = reply }

      -- The call leaves nothing that is going already.
      abbrev IsOnce : When → Type 0
      IsOnce when = when ≡ When.Now → GoesTwice j.transactions.entries n event → ⊥

      answered : shelf.answers s.now at call reply → (rest : Four (ShelfState T)) →
          Book j (put rest (which_of at) s) →
          meaning.answers (whole j.names (contents (put rest (which_of at) s))) at call reply
      answered answers rest is = joining.answered_join shelves laws j.names j.transactions rest at s
          is.joined call reply answers

      busy_here : (rest : Four (ShelfState T)) → Book j (put rest (which_of at) s) → (r : Reply)
          (e : Refusal) → IsBusyRefusal s.holds n at (need_of call r) e → IsBusyRefusal
          (whole_state whole j.names j.transactions (put rest (which_of at) s)).holds n at
          (need_of call r) e
      busy_here rest is r e busy = joining.busy_join shelves laws j.names j.transactions rest at s
          is.joined n (need_of call r) e busy

      clear_here : (rest : Four (ShelfState T)) → Book j (put rest (which_of at) s) → (r : Reply) →
          IsClear s.holds n at (need_of call r) → IsClear
          (whole_state whole j.names j.transactions (put rest (which_of at) s)).holds n at
          (need_of call r)
      clear_here rest is r clear = joining.clear_join shelves laws j.names j.transactions rest at s
          is.joined n (need_of call r) clear

      -- as it would leave what is going already,
      pub twice : Opens → CanTakeHere When.Now → shelf.answers s.now at call reply →
          GoesTwice j.transactions.entries n event → Refuses When.Now Refusal.AlreadyGoing
      twice opened takes answers goes = in_vain When.Now Refusal.AlreadyGoing opened takes
          (λ rest is. (reply, answered answers rest is, goes))

      -- as a need is in its way,
      pub busy : (when : When) → Opens → CanTakeHere when →
          CanTell shelf when s.now at call reply → IsOnce when → (e : Refusal) →
          IsBusyRefusal s.holds n at (need_of call reply) e → Refuses when e
      busy When.Now opened takes answers once (Refusal.Busy m) way =
          in_vain When.Now (Refusal.Busy m) opened takes
          (λ rest is. (
            reply,
            answered answers rest is,
            once refl,
            busy_here rest is reply
                (Refusal.Busy m) way,
          ))
      busy When.AtCommit opened takes tells once (Refusal.Busy m) way =
          in_vain When.AtCommit (Refusal.Busy m) opened takes
          (λ rest is. busy_here rest is Reply.Done (Refusal.Busy m)
          (subst (λ r. IsBusyRefusal s.holds n at (need_of call r) (Refusal.Busy m)) tells.0 way))
      busy when opened takes tells once e way = absurd way

      -- or for want of memory to note it.
      pub hungry : (when : When) → Opens → CanTakeHere when →
          CanTell shelf when s.now at call reply → IsOnce when →
          IsClear s.holds n at (need_of call reply) → Refuses when Refusal.NoMemory
      hungry When.Now opened takes answers once clear =
          in_vain When.Now Refusal.NoMemory opened takes
          (λ rest is. inr (
            reply,
            answered answers rest is,
            once refl,
            clear_here rest is reply clear,
          ))
      hungry When.AtCommit opened takes tells once clear =
          in_vain When.AtCommit Refusal.NoMemory opened takes
          (λ rest is. clear_here rest is Reply.Done
          (subst (λ r. IsClear s.holds n at (need_of call r)) tells.0 clear))

      -- Else it can be taken.
      pub can_get : (when : When) → Opens → CanTakeHere when →
          CanTell shelf when s.now at call reply → IsOnce when →
          IsClear s.holds n at (need_of call reply) →
          (rest : Four (ShelfState T)) → Book j (put rest (which_of at) s) →
          CanGet shelf when (state_on j.transactions s) n event
      can_get When.Now opened takes answers once clear rest is = record {
        running = record { live = opened.running.live; standing = opened.running.standing };
        asked = takes;
        told = joining.told_join shelves laws j.names j.transactions rest at s is.joined call reply
            answers;
        few = opened.few;
        answered = answers;
        once = once refl;
        clear = clear;
      }
      can_get When.AtCommit opened takes tells once clear rest is = (
        record {
          running = record { live = opened.running.live; standing = opened.running.standing };
          deferred = takes;
          few = opened.few;
          ready = tells.1;
          clear = subst (λ r. IsClear s.holds n at (need_of call r)) tells.0 clear;
        },
        tells.0,
      )

    -- There is room for one call more.
    pub room_on : Opens → (rest : Four (ShelfState T)) → Book j (put rest (which_of at) s) →
        HasRoomFor (state_on j.transactions s) 1
    room_on opened rest is = (call_room meaning making (λ form s. AreShort form (collections s))
        laws
        (whole_state whole j.names j.transactions (put rest (which_of at) s)) is.kept.upheld n
        at call
        (runs_whole whole j (put rest (which_of at) s) n opened.running) opened.few opened.unworn).0

    pub reach_on : (rest : Four (ShelfState T)) → Book j (put rest (which_of at) s) →
        HasRoom shelf s.now
    reach_on rest is = joining.reach_join shelves laws j.names j.transactions rest at s is.joined

    -- A call is made.
    pub call_on : (reply : Reply) (k : JournalState N) (t : ShelfState T) →
        let e : Event = record { at = at; call = call; reply = reply } in
        Opens → reads call reply ≡ false → (FitsCall call) → (FitsReply reply) → at < 256 →
        CallRow shelf (state_on j.transactions s) n e (state_on k.transactions t) →
        Writes j (record_of n e) k → k.names ≡ j.names →
        k.gathering ≡ noted j.gathering (effect_at (journal_lsn j + 1) e ∷ []) →
        Asked When.Now (Ok reply) k t
    call_on reply k t opened written fit fits_reply few row writes same notes =
        let e : Event = record { at = at; call = call; reply = reply } in
        leads_on same (joining.call_joins shelves laws j.names j.transactions k.transactions s t n e
        row)
        (λ rest kept row.
        let f = put rest (which_of at) s in
        let b = book_state whole j f in
        let c = book_state whole k (put rest (which_of at) t) in
        let to = appended whole f (put rest (which_of at) t) writes in
        let room = row.room in
        let good = is_record n at (collections b.state.now) call reply
        (kept.upheld.numbers n opened.running.live) few row.can.asked.1
        ((told.answers b.state.now at call reply).0 row.can.answered) fit fits_reply in (
          call_keeps meaning making (λ form s. AreShort form (collections s)) laws b kept n e c
              row to good,
          record {
            answer = (
              subst (λ only. IsMade meaning making standing Appends Moves only b n e c)
                  (sym written) (row, to),
              opened.unworn,
            );
            settles = λ d v. call_settles meaning making laws.rules b.state kept.upheld.holds n
                e c.state d row v;
            goes = goes_ran calls told b c (effect_at (lsn b + 1) e ∷ []) b.state.wear
                kept.upheld.reached (omega arith)
                (are_run meaning (lsn b + 1) (e ∷ []) b.state.now c.state.now
                (c.state.now, (row.can.answered, ap (λ (v : State S). v.now) row.is), refl)
                (widest_call b.state.format call row.can.asked.2, tt)) notes
                (lsn_after b c (record_of n e) to);
            notes = notes ∙ sym (ap (λ r. cond r b.gathering (noted b.gathering
                (effect_at (lsn b + 1) e ∷ []))) written);
          },
        ))

    -- One that only reads is noted.
    pub read_on : (reply : Reply) (k : JournalState N) (t : ShelfState T) →
        let e : Event = record { at = at; call = call; reply = reply } in
        Opens → reads call reply ≡ true →
        ReadRow shelf (state_on j.transactions s) n e (state_on k.transactions t) → Charges j k →
        Asked When.Now (Ok reply) k t
    read_on reply k t opened only_reads row charges =
        let e : Event = record { at = at; call = call; reply = reply } in
        leads_on (ap (λ (v : JournalState N). v.names) charges)
        (joining.read_joins shelves laws j.names j.transactions k.transactions s t n e row)
        (λ rest kept row.
        let f = put rest (which_of at) s in
        let b = book_state whole j f in
        let c = book_state whole k (put rest (which_of at) t) in
        let to = moved whole j k f (put rest (which_of at) t) charges in (
          read_keeps meaning making (λ form s. AreShort form (collections s)) laws b kept n e c
              row to,
          record {
            answer = (
              subst (λ only. IsMade meaning making standing Appends Moves only b n e c)
                  (sym only_reads) (row, opened.room, to),
              opened.unworn,
            );
            settles = λ d v. read_settles meaning making laws.rules b.state c.state n e d
                kept.upheld.holds row v;
            goes = goes_still calls told b c (ap (λ (v : State S). v.now) row.is)
                (ap (λ (v : JournalState N). v.gathering) charges)
                (omega (arith, ap (λ (v : BookState S). lsn v) to));
            notes = ap (λ (v : JournalState N). v.gathering) charges ∙
                sym (ap (λ r. cond r b.gathering
                (noted b.gathering (effect_at (lsn b + 1) e ∷ []))) only_reads);
          },
        ))

    -- A call is deferred.
    pub later_on : (k : JournalState N) (t : ShelfState T) → Opens → at < 256 →
        LaterRow shelf (state_on j.transactions s) n at call (state_on k.transactions t) →
        Writes j (later_record n at call) k → k.names ≡ j.names → k.gathering ≡ j.gathering →
        Asked When.AtCommit (Ok Reply.Done) k t
    later_on k t opened few row writes same still =
        leads_on same (joining.later_joins shelves laws j.names j.transactions k.transactions s t n
        at call
        row)
        (λ rest kept row.
        let f = put rest (which_of at) s in
        let b = book_state whole j f in
        let c = book_state whole k (put rest (which_of at) t) in
        let to = appended whole f (put rest (which_of at) t) writes in (
          later_keeps meaning making (λ form s. AreShort form (collections s)) laws b kept n at
              call c row to few,
          record {
            answer = ((row, to, refl), opened.unworn);
            settles = λ d v. later_settles meaning making laws.rules b.state kept.upheld.holds n
                at call c.state d row v;
            goes = goes_still calls told b c (ap (λ (v : State S). v.now) row.is) still
                (omega (arith, lsn_after b c (later_record n at call) to));
            notes = still;
          },
        ))
