-- What a book does, its named collections do.
use Rattle.std.proofs.Common.{◌≡◌, inl, inr, ℕ, Bool, true, false, Option, Some, None}
use Rattle.std.proofs.Common.{Result, Ok, Err, List, [], ◌∷◌, ◌++◌, ◌+◌, ◌≤◌, length, ap, ◌∙◌}
use Rattle.std.proofs.Common.{subst}
use Rattle.std.specs.Prelude.{◌*◌}
use Rattle.std.specs.FinMap as maps
use Rattle.std.specs.Prelude.{MatchOption}
use Rattle.calls.specs.declared.kind.Kind.{Kind}
use Rattle.calls.specs.declared.call.Call.{Call}
use Rattle.calls.specs.declared.reply.Reply.{Reply}
use Rattle.calls.specs.declared.refusal.Refusal.{Refusal}
use Rattle.calls.specs.declared.when.When.{When}
use Rattle.calls.specs.declared.format.Format.{Format}
use Rattle.calls.specs.Contents.{Collection}
use Rattle.calls.specs.Limits.{max_collections}
use Rattle.calls.specs.Reads.{reads}
use Rattle.calls.specs.Rules.{inverse_of}
use Rattle.calls.specs.Transactions.{Event, Asked, Leads, laters_of, own}
use Rattle.boosted.specs.Meaning as boosted
use Rattle.boosted.specs.Meaning.{Meaning, CanAsk, CanDefer, AskRefusal, DeferRefusal}
use Rattle.catalog.specs.Making as naming
use Rattle.catalog.specs.Making.{Making, IsPlaceOf, FindRefused, names_of}
use Rattle.catalog.specs.Meaning.{catalog_meaning, catalog_making}
use Rattle.steps.specs.Looks.{CanTake, TakeRefused}
use Rattle.records.specs.declared.record.Record.{Record}
use Rattle.records.specs.Short.{AreShort}
use Rattle.records.specs.Told.{Tells}
use Rattle.images.specs.Gathers.{GatherState}
use Rattle.images.specs.Gatherings.{GatheringState, GoesAlong}
use Rattle.steps.specs.Machine.{State, Does, IsRunning, IsLeft, CanBegin, BeginRow, EndedRow}
use Rattle.steps.specs.Machine.{FallRow, UnreadRow, MakeRow, CanCall, CallRow, ReadRow}
use Rattle.steps.specs.Machine.{LaterRow, CommitRow, WrittenBackRow}
use Rattle.steps.specs.Sound.{IsSound}
use Rattle.txn.specs.declared.actions.Action.{Action}
use Rattle.txn.specs.declared.actions.Target.{Target}
use Rattle.txn.specs.Books.{BookState, standing, lsn, Appends, Moves, Takes, IsKept}
use Rattle.txn.specs.Freezing.{IsGatheredOf, FreezeAnswers}
use Rattle.txn.specs.Rows.{Standing, MakeRefused, EnterRefused, IsOpen, OpenRefused}
use Rattle.txn.specs.Rows.{IsUnhindered, AskedInVain, DeferredInVain, IsDenied, RefusesAsk}
use Rattle.txn.specs.Rows.{AppendRefused, CommitRefused, BackRefused, EndedRefused}
use Rattle.txn.specs.Rows.{IsMade, IsUndone, IsDeferred, IsGranted, AskAnswers, NotFound, IsFound}
use Rattle.desks.specs.Told.{told_state, told_book}

-- ---- refusals

-- what asking is refused for goes along with what is misplaced
ask_refusal : (f : Format) (P Q : Type 0) (M N : Refusal → Type 0) (c : Call) → (P → Q) →
    ((e : Refusal) → M e → N e) → (e : Refusal) → AskRefusal f P M c e → AskRefusal f Q N c e
ask_refusal f P Q M N c here other Refusal.BadArg r = (here r.0, r.1)
ask_refusal f P Q M N c here other Refusal.TooLong r = (here r.0, r.1, r.2)
ask_refusal f P Q M N c here other e r = other e r

defer_refusal : (P Q : Type 0) (M N : Refusal → Type 0) (c : Call) → (P → Q) →
    ((e : Refusal) → M e → N e) → (e : Refusal) → DeferRefusal P M c e → DeferRefusal Q N c e
defer_refusal P Q M N c here other Refusal.BadArg r = (here r.0, r.1)
defer_refusal P Q M N c here other e r = other e r

module _ {S : Type 0} {meaning : Meaning S ℕ} {making : Making S}
    {collections : S → List Collection} (told : Tells meaning making collections) where
  abbrev f : State S → State (List Collection)
  f s = told_state collections s

  abbrev g : Standing S → Standing (List Collection)
  g b = record { state = f b.state; pending = b.pending; places = b.places }

  abbrev h : BookState S → BookState (List Collection)
  h b = told_book collections b

  -- ---- the machine

  runs : (s : State S) (n : ℕ) → IsRunning s n → IsRunning (f s) n
  runs s n is = record { live = is.live; standing = is.standing }

  left : (s t : State S) (n : ℕ) → IsLeft s n t → IsLeft (f s) n (f t)
  left s t n is = record { holds = is.holds; is = ap f is.is }

  begins : (s : State S) (n : ℕ) → CanBegin s n → CanBegin (f s) n
  begins s n can = record { number = can.number; fresh = can.fresh; few = can.few }

  does : (s : S) (e : Event) (t : S) → Does meaning s e t →
      Does catalog_meaning (collections s) e (collections t)
  does s e t step = (
    (told.answers s e.at e.call e.reply).0 step.0,
    ap collections step.1 ∙ told.leaves s e.at e.call e.reply step.0,
  )

  leads : (es : List Event) (s t : S) → Leads (Does meaning) es s t →
      Leads (Does catalog_meaning) es (collections s) (collections t)
  leads [] s t is = ap collections is
  leads (e ∷ es) s t is = (collections is.0, does s e is.0 is.1, leads es is.0 t is.2)

  undoes : (s t : S) (at : ℕ) (o : Option Call) →
      MatchOption o (t ≡ s) (λ back. (r : Reply) × boosted.Does meaning s at back r t) →
      MatchOption o (collections t ≡ collections s)
      (λ back. (r : Reply) × boosted.Does catalog_meaning (collections s) at back r (collections t))
  undoes s t at None is = ap collections is
  undoes s t at (Some back) is =
      (is.0, does s (record { at = at; call = back; reply = is.0 }) t is.1)

  asks : (format : Format) (s : S) (at : ℕ) (c : Call) → CanAsk meaning format s at c →
      CanAsk catalog_meaning format (collections s) at c
  asks format s at c can = ((told.belongs s at c).0 can.0, can.1, can.2)

  defers : (s : S) (at : ℕ) (c : Call) → CanDefer meaning s at c →
      CanDefer catalog_meaning (collections s) at c
  defers s at c can = ((told.belongs s at c).0 can.0, can.1)

  takes : (when : When) (format : Format) (s : S) (at : ℕ) (c : Call) →
      CanTake meaning when format s at c → CanTake catalog_meaning when format (collections s) at c
  takes When.Now format s at c can = asks format s at c can
  takes When.AtCommit format s at c can = defers s at c can

  take_refused : (when : When) (format : Format) (s : S) (at : ℕ) (c : Call) (e : Refusal) →
      TakeRefused meaning when format s at c e →
      TakeRefused catalog_meaning when format (collections s) at c e
  take_refused When.Now format s at c e r = ask_refusal format _ _ _ _ c
      (told.belongs s at c).0 (λ e. (told.misplaced s at c e).0) e r
  take_refused When.AtCommit format s at c e r = defer_refusal _ _ _ _ c
      (told.belongs s at c).0 (λ e. (told.misplaced s at c e).0) e r

  calls : (s : State S) (n : ℕ) (e : Event) → CanCall meaning s n e →
      CanCall catalog_meaning (f s) n e
  calls s n e can = record {
    running = runs s n can.running;
    asked = asks s.format s.now e.at e.call can.asked;
    told = can.told;
    few = can.few;
    answered = (told.answers s.now e.at e.call e.reply).0 can.answered;
    once = can.once;
    clear = can.clear;
  }

  module _ (s t : State S) where
    make_row : (name : List ℕ) (kind : Kind) → MakeRow making s name kind t →
        MakeRow catalog_making (f s) name kind (f t)
    make_row name kind row = record {
      new = subst (λ l. naming.IsNew l name) (told.names s.now) row.new;
      next = collections row.next;
      made = told.makes s.now row.next name kind row.made;
      is = ap f row.is;
    }

    begin_row : (n : ℕ) → BeginRow s n t → BeginRow (f s) n (f t)
    begin_row n row = record { can = begins s n row.can; room = row.room; is = ap f row.is }

    ended_row : (n : ℕ) → EndedRow s n t → EndedRow (f s) n (f t)
    ended_row n row = record {
      live = row.live;
      undone = row.undone;
      left = left s t n row.left;
    }

    fall_row : (n : ℕ) → FallRow s n t → FallRow (f s) n (f t)
    fall_row n row = record { live = row.live; undone = row.undone; is = ap f row.is }

    unread_row : (n : ℕ) → UnreadRow s n t → UnreadRow (f s) n (f t)
    unread_row n row = record {
      live = row.live;
      call = row.call;
      rest = row.rest;
      newest = row.newest;
      only_reads = row.only_reads;
      is = ap f row.is;
    }

    call_row : (n : ℕ) (e : Event) → CallRow meaning s n e t →
        CallRow catalog_meaning (f s) n e (f t)
    call_row n e row = record {
      can = calls s n e row.can;
      room = row.room;
      holds = row.holds;
      is = ap f row.is ∙ ap (λ (v : List Collection). let u : State (List Collection) = record {
        now = v;
        live = s.live;
        entries = s.entries ++ (n, Asked e) ∷ [];
        holds = t.holds;
        wear = s.wear + 1;
        format = s.format;
      } in u) (told.leaves s.now e.at e.call e.reply row.can.answered);
    }

    read_row : (n : ℕ) (e : Event) → ReadRow meaning s n e t →
        ReadRow catalog_meaning (f s) n e (f t)
    read_row n e row = record {
      can = calls s n e row.can;
      only_reads = row.only_reads;
      room = row.room;
      holds = row.holds;
      is = ap f row.is;
    }

    later_row : (n at : ℕ) (call : Call) → LaterRow meaning s n at call t →
        LaterRow catalog_meaning (f s) n at call (f t)
    later_row n at call row = record {
      can = record {
        running = runs s n row.can.running;
        deferred = defers s.now at call row.can.deferred;
        few = row.can.few;
        ready = (told.answers s.now at call Reply.Done).0 row.can.ready;
        clear = row.can.clear;
      };
      room = row.room;
      holds = row.holds;
      is = ap f row.is;
    }

    commit_row : (n : ℕ) → CommitRow meaning s n t → CommitRow catalog_meaning (f s) n (f t)
    commit_row n row = record {
      running = runs s n row.running;
      next = collections row.next;
      runs = leads (laters_of (own n s.entries)) s.now row.next row.runs;
      left = left _ t n row.left;
    }

    back_row : (n : ℕ) → WrittenBackRow meaning s n t →
        WrittenBackRow catalog_meaning (f s) n (f t)
    back_row n row = let back = row.back in record {
      back = record {
        live = back.live;
        call = back.call;
        rest = back.rest;
        newest = back.newest;
        next = collections back.next;
        undoes = undoes s.now back.next back.call.at
            (inverse_of back.call.call back.call.reply) back.undoes;
        is = ap f back.is;
      };
      written = row.written;
    }

  -- ---- refusals of a book

  module _ (b : Standing S) where
    find_refused : (name : List ℕ) (e : Refusal) → FindRefused (making.names b.state.now) name e →
        FindRefused (names_of (collections b.state.now)) name e
    find_refused name e r = subst (λ l. FindRefused l name e) (told.names b.state.now) r

    make_refused : (name : List ℕ) (e : Refusal) →
        MakeRefused (making.names b.state.now) b name e →
        MakeRefused (names_of (collections b.state.now)) (g b) name e
    make_refused name Refusal.Backlog r = r
    make_refused name e r =
        (r.0, subst (λ l. naming.MakeRefused l name e) (told.names b.state.now) r.1)

    enter_refused : (n : ℕ) (e : Refusal) → EnterRefused b n e → EnterRefused (g b) n e
    enter_refused n Refusal.BadArg r = r
    enter_refused n Refusal.AlreadyLive r = r
    enter_refused n Refusal.TooManyLive r = r
    enter_refused n Refusal.Worn r = (begins b.state n r.0, r.1)
    enter_refused n Refusal.Backlog r = (begins b.state n r.0, r.1, r.2)
    enter_refused n Refusal.NoMemory r =
        record { begins = begins b.state n r.begins; unworn = r.unworn; room = r.room }
    enter_refused n e r = absurd r

    open_refused : (P Q : Type 0) → (P → Q) → (n : ℕ) (e : Refusal) → OpenRefused P b n e →
        OpenRefused Q (g b) n e
    open_refused P Q ask n Refusal.NoSuchTxn r = r
    open_refused P Q ask n Refusal.Falling r = r
    open_refused P Q ask n Refusal.Worn r = (runs b.state n r.0, ask r.1, r.2)
    open_refused P Q ask n Refusal.TooManyCalls r = (runs b.state n r.0, ask r.1, r.2, r.3)
    open_refused P Q ask n Refusal.Backlog r = (runs b.state n r.0, ask r.1, r.2, r.3, r.4)
    open_refused P Q ask n e r = absurd r

    opens : (P Q : Type 0) → (P → Q) → (n : ℕ) → IsOpen P b n → IsOpen Q (g b) n
    opens P Q ask n is = record {
      running = runs b.state n is.running;
      asked = ask is.asked;
      unworn = is.unworn;
      few = is.few;
      room = is.room;
    }

    unhindered : (n at : ℕ) (c : Call) → IsUnhindered meaning b n at c →
        IsUnhindered catalog_meaning (g b) n at c
    unhindered n at c r = (r.0, (told.answers b.state.now at c r.0).0 r.1, r.2, r.3)

    asked_in_vain : (n at : ℕ) (c : Call) (e : Refusal) → AskedInVain meaning b n at c e →
        AskedInVain catalog_meaning (g b) n at c e
    asked_in_vain n at c Refusal.AlreadyGoing r =
        (r.0, (told.answers b.state.now at c r.0).0 r.1, r.2)
    asked_in_vain n at c (Refusal.Busy m) r =
        (r.0, (told.answers b.state.now at c r.0).0 r.1, r.2, r.3)
    asked_in_vain n at c Refusal.NoMemory (inl value) = inl value
    asked_in_vain n at c Refusal.NoMemory (inr free) = inr (unhindered n at c free)
    asked_in_vain n at c e r = absurd r

    deferred_in_vain : (n at : ℕ) (c : Call) (e : Refusal) → DeferredInVain meaning b n at c e →
        DeferredInVain catalog_meaning (g b) n at c e
    deferred_in_vain n at c (Refusal.Busy m) r = r
    deferred_in_vain n at c Refusal.NoMemory r = r
    deferred_in_vain n at c e r = absurd r

    denied : (when : When) (n at : ℕ) (c : Call) (e : Refusal) → IsDenied meaning when b n at c e →
        IsDenied catalog_meaning when (g b) n at c e
    denied When.Now n at c e r = asked_in_vain n at c e r
    denied When.AtCommit n at c e r = deferred_in_vain n at c e r

    refuses_ask : (when : When) (n at : ℕ) (c : Call) (e : Refusal) →
        RefusesAsk meaning when b n at c e → RefusesAsk catalog_meaning when (g b) n at c e
    refuses_ask when n at c e (inl r) =
        inl (open_refused _ _ (takes when b.state.format b.state.now at c) n e r)
    refuses_ask when n at c e (inr (inl r)) = inr (inl (
      runs b.state n r.0,
      take_refused when b.state.format b.state.now at c e r.1,
    ))
    refuses_ask when n at c e (inr (inr r)) = inr (inr (
      opens _ _ (takes when b.state.format b.state.now at c) n r.0,
      denied when n at c e r.1,
    ))

    append_refused : (e : Refusal) → AppendRefused b e → AppendRefused (g b) e
    append_refused Refusal.Backlog r = r
    append_refused Refusal.NoMemory r = r
    append_refused e r = absurd r

    commit_refused : (n : ℕ) (e : Refusal) → CommitRefused b n e → CommitRefused (g b) n e
    commit_refused n Refusal.NoSuchTxn r = r
    commit_refused n Refusal.Falling r = r
    commit_refused n e r = (runs b.state n r.0, append_refused e r.1)

    back_refused : (n : ℕ) (e : Refusal) → BackRefused b n e → BackRefused (g b) n e
    back_refused n Refusal.NoSuchTxn r = r
    back_refused n e r = (r.0, append_refused e r.1)

    ended_refused : (n : ℕ) (e : Refusal) → EndedRefused b n e → EndedRefused (g b) n e
    ended_refused n Refusal.NoSuchTxn r = r
    ended_refused n Refusal.Unfinished r = r
    ended_refused n e r = (r.0, r.1, append_refused e r.2)

  -- ---- the steps of a book

  module _ (b c : BookState S) where
    appends : (r : Record) → Appends b r c → Appends (h b) r (h c)
    appends r is = record { room = is.room; is = ap h is.is }

    made : (only_reads : Bool) (n : ℕ) (e : Event) →
        IsMade meaning making standing Appends Moves only_reads b n e c →
        IsMade catalog_meaning catalog_making standing Appends Moves only_reads (h b) n e (h c)
    made true n e is = (read_row b.state c.state n e is.0, is.1, ap h is.2)
    made false n e is = (call_row b.state c.state n e is.0, appends _ is.1)

    undone : (n : ℕ) → IsUndone meaning making standing Appends Moves b n c →
        IsUndone catalog_meaning catalog_making standing Appends Moves (h b) n (h c)
    undone n (inl is) = inl (back_row b.state c.state n is.0, appends _ is.1)
    undone n (inr is) = inr (unread_row b.state c.state n is.0, is.1, ap h is.2)

    deferred : (n : ℕ) (e : Event) →
        IsDeferred meaning making standing Appends Moves b n e c →
        IsDeferred catalog_meaning catalog_making standing Appends Moves (h b) n e (h c)
    deferred n e is = (later_row b.state c.state n e.at e.call is.0, appends _ is.1, is.2)

    granted : (when : When) (n : ℕ) (e : Event) →
        IsGranted meaning making standing Appends Moves when b n e c →
        IsGranted catalog_meaning catalog_making standing Appends Moves when (h b) n e (h c)
    granted When.Now n e is = made (reads e.call e.reply) n e is
    granted When.AtCommit n e is = deferred n e is

    asked : (n p : ℕ) (call : Call) (when : When) (a : Result Reply Refusal) →
        AskAnswers meaning making standing Appends Moves b n p call when a c →
        AskAnswers catalog_meaning catalog_making standing Appends Moves (h b) n p call when a (h c)
    asked n p call when (Ok reply) is =
        (granted when n (record { at = p; call = call; reply = reply }) is.0, is.1)
    asked n p call when (Err e) is = (ap h is.0, refuses_ask (standing b) when n p call e is.1)

    not_found : (name : List ℕ) (a : Result Reply Refusal) →
        NotFound meaning making standing Appends Moves b name a c →
        NotFound catalog_meaning catalog_making standing Appends Moves (h b) name a (h c)
    not_found name (Ok reply) is = absurd is
    not_found name (Err e) is = (ap h is.0, find_refused (standing b) name e is.1)

    found : (name : List ℕ) (p : ℕ) → IsFound meaning making standing Appends Moves b name p →
        IsFound catalog_meaning catalog_making standing Appends Moves (h b) name p
    found name p is = (is.0, subst (λ l. IsPlaceOf l name p) (told.names b.state.now) is.1)

    pub takes_told : (action : Action) → Takes meaning making b action c →
        Takes catalog_meaning catalog_making (h b) action (h c)
    takes_told (Action.Make name kind (Ok place)) is =
        (make_row b.state c.state name kind is.0, appends _ is.1, is.2)
    takes_told (Action.Make name kind (Err e)) is =
        (ap h is.0, make_refused (standing b) name e is.1)
    takes_told (Action.Enter n (Ok done)) is =
        (begin_row b.state c.state n is.0, is.1, appends _ is.2)
    takes_told (Action.Enter n (Err e)) is = (ap h is.0, enter_refused (standing b) n e is.1)
    takes_told (Action.Ask n (Target.Number p) call when a) is = asked n p call when a is
    takes_told (Action.Ask n (Target.Named name (Some p)) call when a) is =
        (found name p is.0, asked n p call when a is.1)
    takes_told (Action.Ask n (Target.Named name None) call when a) is = not_found name a is
    takes_told (Action.Commit n (Ok place)) is =
        (commit_row b.state c.state n is.0, appends _ is.1, is.2)
    takes_told (Action.Commit n (Err e)) is = (ap h is.0, commit_refused (standing b) n e is.1)
    takes_told (Action.Back n (Ok true)) is = undone n is
    takes_told (Action.Back n (Ok false)) is =
        (fall_row b.state c.state n is.0, is.1, ap h is.2)
    takes_told (Action.Back n (Err e)) is = (ap h is.0, back_refused (standing b) n e is.1)
    takes_told (Action.Ended n (Ok done)) is =
        (ended_row b.state c.state n is.0, appends _ is.1)
    takes_told (Action.Ended n (Err e)) is = (ap h is.0, ended_refused (standing b) n e is.1)
    takes_told (Action.Cut count a) is = absurd is
    takes_told (Action.Gather a) is = absurd is
    takes_told (Action.Freeze a) is = absurd is

-- ---- what is gathered of a book

module _ {S : Type 0} (collections : S → List Collection) where
  pub along_told : (n : GatheringState) (now : S) (lsn : ℕ) (g : GatherState) →
      GoesAlong collections n now lsn g →
      GoesAlong (λ v. v) n (collections now) lsn g
  along_told n now lsn g along =
      record { mark = along.mark; follows = along.follows; came = along.came }

  module _ (b : BookState S) (g : GatherState) where
    -- it is of the book where it is of the named collections
    pub gathered_told : IsGatheredOf collections b g →
        IsGatheredOf (λ v. v) (told_book collections b) g
    gathered_told of = record {
      new = of.new;
      along = λ under. along_told b.gathering b.state.now (lsn b) g (of.along under);
    }

    pub gathered_back : IsGatheredOf (λ v. v) (told_book collections b) g →
        IsGatheredOf collections b g
    gathered_back of = record {
      new = of.new;
      along = λ under. let along = of.along under in
          record { mark = along.mark; follows = along.follows; came = along.came };
    }

  -- and frozen where they are
  pub freeze_told : (b c : BookState S) (g h : GatherState) (r : Result (Unit {0}) Refusal) →
      FreezeAnswers collections b g r c h →
      FreezeAnswers (λ v. v) (told_book collections b) g r (told_book collections c) h
  freeze_told b c g h (Ok done) froze = let holds = froze.1 in (
    froze.0,
    record {
      frozen = holds.frozen;
      is_frozen = holds.is_frozen;
      image_head = holds.image_head;
      tells = holds.tells;
      copies = holds.copies;
    },
    ap (told_book collections) froze.2,
    froze.3,
    froze.4,
  )
  freeze_told b c g h (Err Refusal.NoMemory) froze =
      (froze.0, ap (told_book collections) froze.1, froze.2)
  freeze_told b c g h (Err e) froze = (froze.0, ap (told_book collections) froze.1, froze.2)

-- What holds of a book holds of its named collections, where these are sound.
pub kept_told : {S : Type 0} {meaning : Meaning S ℕ} {making : Making S}
    {collections : S → List Collection} (told : Tells meaning making collections)
    (sound : State S → Type 0) (b : BookState S) →
    IsKept meaning making (λ f s. AreShort f (collections s)) sound b →
    IsSound catalog_meaning catalog_making (told_state collections b.state) →
    IsKept catalog_meaning catalog_making AreShort (IsSound catalog_meaning catalog_making)
    (told_book collections b)
kept_told told sound b kept is_sound = let upheld = kept.upheld in record {
  records = kept.records;
  few_pending = kept.few_pending;
  frozen = kept.frozen;
  upheld = record {
    few_live = upheld.few_live;
    few_calls = upheld.few_calls;
    few_names = subst (λ l. length l ≤ max_collections) (told.names b.state.now) upheld.few_names;
    reached = (told.within b.state.now b.state.wear).0 upheld.reached;
    unworn = upheld.unworn;
    numbers = upheld.numbers;
    spells = upheld.spells;
    asked = upheld.asked;
    holds = is_sound;
  };
  below = kept.below;
  next = kept.next;
  lsns = subst (λ l. b.end + length b.pending + maps.len b.state.live ≤
      2 * b.state.wear + length l) (told.names b.state.now) kept.lsns;
  placed = kept.placed;
  counted = kept.counted;
}
