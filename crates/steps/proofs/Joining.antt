-- What a step shows on one of four shelves, and of the transactions, is a row of the whole, and
-- leaves parts that are joined.
use Rattle.std.proofs.Common.{◌≡◌, ◌↔◌, ℕ, ◌+◌, ◌<◌, ◌≤◌, ◌%◌, ◌==◌, List, [], ◌∷◌, ◌++◌, length}
use Rattle.std.proofs.Common.{Contains, refl, sym, ◌∙◌, ap, subst, arith}
use Rattle.std.specs.List.{AllByRecursion}
use Rattle.std.proofs.lemmas.List.{length-map}
use Rattle.calls.specs.declared.format.Format.{Format}
use Rattle.calls.specs.declared.kind.Kind.{Kind}
use Rattle.calls.specs.declared.call.Call.{Call}
use Rattle.calls.specs.declared.reply.Reply.{Reply}
use Rattle.calls.specs.declared.need.Need.{Need}
use Rattle.calls.specs.declared.refusal.Refusal.{Refusal}
use Rattle.calls.specs.Contents.{Content, Collection}
use Rattle.calls.specs.Limits.{max_collections, max_wear}
use Rattle.calls.specs.Names.{IsName}
use Rattle.calls.specs.Rules.{need_of, Disposable}
use Rattle.calls.specs.Transactions.{Event, Entry, Asked, Deferred, Leads, own, laters_of}
use Rattle.abstract_locks.specs.declared.table.Hold.{Hold}
use Rattle.abstract_locks.specs.Holds.{hold, IsClear, IsBusyRefusal, IsAdded}
use Rattle.undo_log.specs.Entries.{HasNoCall, HasNewestCall}
use Rattle.undo_log.specs.Logs.{Lives, Falls}
use Rattle.boosted.specs.Meaning.{Meaning, CanAsk, AskRefused, CanDefer, DeferRefused, HasRoom}
use Rattle.boosted.specs.Meaning.{Undoes}
use Rattle.boosted.proofs.Each.{each_filter}
use Rattle.steps.specs.Shelves.{ShelfState, Does, CanRun, on_quarter, Settles}
use Rattle.catalog.specs.declared.four.Four.{Four}
use Rattle.catalog.specs.Fours.{Which, First, Second, Third, Fourth, rank, which_of, pick, put}
use Rattle.catalog.specs.Laws.Numbers.{pick_put, put_pick, put_put}
use Rattle.catalog.specs.Making.{Making}
use Rattle.catalog.specs.Shelving.{MakesOn, ShelfLaws}
use Rattle.catalog.specs.Woven.{Label}
use Rattle.records.specs.Short.{AreShort, IsShortReply}
use Rattle.steps.specs.Machine.{State, BeginRow, CommitRow, EndedRow, FallRow, UnreadRow, MakeRow}
use Rattle.steps.specs.Machine.{CanCall, CallRow, ReadRow, LaterRow, BackRow}
use Rattle.steps.specs.Machines.{IsUpheld}
use Rattle.steps.specs.Sound.{IsSound}
use Rattle.steps.specs.Wholes.{TransactionsState, state_on, contents, all_holds, whole_state}
use Rattle.undo_log.specs.Entries.{place_of}
use Rattle.steps.specs.Wholes.{AreShelved, HasEntry, IsJoined, StepsOn, StepsBeside}
use Rattle.steps.specs.TransactionTables.{alone, rested, finished, CanUndo}
use Rattle.steps.proofs.AloneRows.{begin_on, fall_on, unread_on, commit_on, ended_on}
use Rattle.steps.proofs.BookLaws.{BookLaws}
use Rattle.steps.proofs.FourShelves.{contents_put, contents_pick, held_on, added_join, added_own}
use Rattle.steps.proofs.FourShelves.{same_holds, same_own, given_join, given_own, clear_in, busy_in}
use Rattle.steps.proofs.InvariantRows.{make_upheld, begin_upheld, call_upheld, later_upheld}
use Rattle.steps.proofs.InvariantRows.{commit_ready, commit_fits, commit_upheld, ended_upheld}
use Rattle.steps.proofs.InvariantRows.{back_upheld, fall_upheld, resting_upheld}
use Rattle.steps.proofs.Journalled.{filter_length}
use Rattle.steps.proofs.OwedNeeds.{noted, left, falls, popped, still, begun}
use Rattle.steps.proofs.Readings.{read_upheld, unread_upheld}
use Rattle.steps.proofs.Steps.{back_can}
use Rattle.steps.proofs.UndoneCall.{newest_once}
use Rattle.steps.proofs.WholeRuns.{count_all, runs_join, runs_apart, undoes_join, undoes_here}

-- The shelves of a transaction run all that it deferred.
pub counts_join : (es : List Event) →
    length (on_quarter 0 es) + length (on_quarter 1 es) + length (on_quarter 2 es) +
    length (on_quarter 3 es) ≡ length es
counts_join es = count_all es

module _ {S T N : Type 0} {meaning : Meaning S ℕ} {making : Making S}
    {collections : S → List Collection} {shelf : Meaning T ℕ} {index : T → Which}
    {holds : T → ℕ → Content → Type 0} {labels : N → List Label} {whole : N → Four T → S}
    {fits : N → Four T → Type 0}
    (shelves : ShelfLaws labels whole fits meaning making collections shelf index holds)
    (laws : BookLaws meaning making (λ f s. AreShort f (collections s))) where
  abbrev Short : Format → S → Type 0
  Short f s = AreShort f (collections s)

  abbrev Joined : N → TransactionsState → Four (ShelfState T) → Type 0
  Joined names a f = IsJoined meaning making collections whole fits names a f

  -- a step on one shelf, and one beside all
  abbrev On : (State S → State S → Type 0) → Which → N → TransactionsState → ShelfState T →
      TransactionsState → ShelfState T → Type 0
  On Row w names a s b t = StepsOn meaning making collections whole fits Row w names a s b t

  abbrev Beside : (State S → State S → Type 0) → N → TransactionsState → TransactionsState → Type 0
  Beside Row names a b = StepsBeside meaning making collections whole fits Row names a b

  abbrev pub all_of : N → TransactionsState → Four (ShelfState T) → State S
  all_of names a f = whole_state whole names a f

  -- A step that leads, on four shelves one of which is s, to the four with t in its place, does so
  -- whatever the other ones are.
  lift : (Row : State S → State S → Type 0) (w : Which) (names : N) (a b : TransactionsState)
      (s t : ShelfState T) → ((f : Four (ShelfState T)) → Joined names a f → pick f w ≡ s →
      Row (all_of names a f) (all_of names b (put f w t)) × Joined names b (put f w t)) →
      On Row w names a s b t
  lift Row w names a b s t step = record {
    row = λ rest joined. subst (λ g. Row (all_of names a (put rest w s)) (all_of names b g))
        (put_put rest w s t) (step (put rest w s) joined (pick_put rest w s)).0;
    joined = λ rest joined. subst (Joined names b) (put_put rest w s t)
        (step (put rest w s) joined (pick_put rest w s)).1;
  }

  -- ---- what a shelf shows, of the whole

  module _ (names : N) (a : TransactionsState) (rest : Four (ShelfState T)) (at : ℕ)
      (s : ShelfState T) (joined : Joined names a (put rest (which_of at) s)) where
    abbrev place : Which
    place = which_of at

    abbrev all : State S
    all = whole_state whole names a (put rest place s)

    -- what the shelf holds, among what the four hold
    shown : pick (contents (put rest place s)) place ≡ s.now
    shown = contents_pick (put rest place s) place ∙
        ap (λ (t : ShelfState T). t.now) (pick_put rest place s)

    belongs_join : (c : Call) → shelf.belongs s.now at c ↔ meaning.belongs all.now at c
    belongs_join c = subst (λ x. shelf.belongs x at c ↔ meaning.belongs all.now at c) shown
        (let law = shelves.belongs names (contents (put rest place s)) at c joined.fit in
        (law.1, law.0))

    misplaced_join : (c : Call) (e : Refusal) → shelf.misplaced s.now at c e →
        meaning.misplaced all.now at c e
    misplaced_join c e is = shelves.misplaced names (contents (put rest place s)) at c e joined.fit
        (subst (λ x. shelf.misplaced x at c e) (sym shown) is)

    pub asked_join : (f : Format) (c : Call) → CanAsk shelf f s.now at c →
        CanAsk meaning f all.now at c
    asked_join f c can = ((belongs_join c).0 can.0, can.1, can.2)

    pub refused_join : (f : Format) (c : Call) (e : Refusal) → AskRefused shelf f s.now at c e →
        AskRefused meaning f all.now at c e
    refused_join f c Refusal.BadArg is = ((belongs_join c).0 is.0, is.1)
    refused_join f c Refusal.TooLong is = ((belongs_join c).0 is.0, is.1, is.2)
    refused_join f c e is = misplaced_join c e is

    pub deferred_join : (c : Call) → CanDefer shelf s.now at c → CanDefer meaning all.now at c
    deferred_join c can = ((belongs_join c).0 can.0, can.1)

    pub defer_refused_join : (c : Call) (e : Refusal) → DeferRefused shelf s.now at c e →
        DeferRefused meaning all.now at c e
    defer_refused_join c Refusal.BadArg is = ((belongs_join c).0 is.0, is.1)
    defer_refused_join c e is = misplaced_join c e is

    pub answered_join : (c : Call) (r : Reply) → shelf.answers s.now at c r →
        meaning.answers all.now at c r
    answered_join c r here =
        (shelves.answers names (contents (put rest place s)) at c r joined.fit).1
        (subst (λ x. shelf.answers x at c r) (sym shown) here)

    -- No value in a reply is too long for the format.
    pub told_join : (c : Call) (r : Reply) → shelf.answers s.now at c r → IsShortReply a.format r
    told_join c r here =
        laws.short_replies a.format all.now at c r joined.upheld.spells (answered_join c r here)

    -- What is held on other shelves is in nobody's way here.
    pub clear_join : (n : ℕ) (need : Need) → IsClear s.holds n at need → IsClear all.holds n at need
    clear_join n need clear =
        clear_in (put rest place s) joined.own n at need s (pick_put rest place s) clear

    pub busy_join : (n : ℕ) (need : Need) (e : Refusal) → IsBusyRefusal s.holds n at need e →
        IsBusyRefusal all.holds n at need e
    busy_join n need e busy =
        busy_in (put rest place s) joined.own n at need s (pick_put rest place s) e busy

    -- There is room in the wear for a run here,
    pub reach_join : HasRoom shelf s.now
    reach_join =
        let unworn = joined.upheld.unworn in (
          a.wear,
          subst (λ x. shelf.within x a.wear) shown
              ((shelves.within names (contents (put rest place s)) a.wear joined.fit).0
              joined.upheld.reached place),
          omega arith,
        )

    -- and the newest call of a number can be undone here, if it is here.
    pub undo_can : (n : ℕ) (x : Event) → HasNewestCall n a.entries x → x.at ≡ at →
        CanUndo shelf a s n
    undo_can n x newest here = λ y new.
        let same = (newest_once n a.entries y x new.0 newest.0 new.1 newest.1).0 in
        let moved : y.at ≡ at = ap (λ (e : Event). e.at) same ∙ here in
        let can = back_can meaning making laws.rules all joined.upheld.holds n y new.0 new.1 in
        let back = undoes_here shelves names (contents (put rest place s)) joined.fit at y.call
        y.reply
        can.1.0 (subst (λ k. Undoes meaning all.now k y.call y.reply can.1.0) moved can.1.1) in (
          can.0,
          (
            back.0,
            subst (λ k. Undoes shelf s.now k y.call y.reply back.0) (sym moved)
                (subst (λ v. Undoes shelf v at y.call y.reply back.0) shown back.1),
          ),
        )

  -- ---- steps on one shelf

  module _ (names : N) (a b : TransactionsState) (s t : ShelfState T) (n : ℕ) where
    -- What four shelves hold stays, where one holds what it held.
    still_there : (f : Four (ShelfState T)) (w : Which) → pick f w ≡ s → t.now ≡ s.now →
        contents (put f w t) ≡ contents f
    still_there f w is same =
        contents_put f w t ∙
        ap (put (contents f) w)
        (same ∙ ap (λ (x : ShelfState T). x.now) (sym is) ∙ sym (contents_pick f w)) ∙
        put_pick (contents f) w

    -- One entry more, under the need that it has, which is on its shelf, leaves the parts joined.
    noted_joins : (f : Four (ShelfState T)) → Joined names a f → (e : Entry) (need : Need) →
        let w = which_of (place_of e) in
        fits names (contents (put f w t)) →
        IsUpheld meaning making Short (IsSound meaning making) (all_of names b (put f w t)) →
        IsAdded (pick f w).holds t.holds (hold n (place_of e) need) → Lives a.live n →
        b.live ≡ a.live → b.entries ≡ a.entries ++ (n, e) ∷ [] → Joined names b (put f w t)
    noted_joins f joined e need fit upheld added lives live entries =
        let w = which_of (place_of e) in
        let x = hold n (place_of e) need in
        record {
          fit = fit;
          own = added_own f w t joined.own x refl added;
          upheld = upheld;
          owed = noted (all_of names a f) joined.owed n e need _ (added_join f w t x added) lives
              live entries;
        }

    -- A call on the shelf is one on the whole.
    module _ (f : Four (ShelfState T)) (joined : Joined names a f) (e : Event)
        (is : pick f (which_of e.at) ≡ s) (can : CanCall shelf (state_on a s) n e) where
      abbrev w : Which
      w = which_of e.at

      there : pick (contents f) w ≡ s.now
      there = contents_pick f w ∙ ap (λ (x : ShelfState T). x.now) is

      answered : shelf.answers (pick (contents f) w) e.at e.call e.reply
      answered = subst (λ x. shelf.answers x e.at e.call e.reply) (sym there) can.answered

      can_join : CanCall meaning (all_of names a f) n e
      can_join = record {
        running = record { live = can.running.live; standing = can.running.standing };
        asked = (
          (shelves.belongs names (contents f) e.at e.call joined.fit).1
              (subst (λ x. shelf.belongs x e.at e.call) (sym there) can.asked.0),
          can.asked.1,
          can.asked.2,
        );
        told = can.told;
        few = can.few;
        answered = (shelves.answers names (contents f) e.at e.call e.reply joined.fit).1 answered;
        once = can.once;
        clear = clear_in f joined.own n e.at (need_of e.call e.reply) s is can.clear;
      }

      called : CallRow shelf (state_on a s) n e (state_on b t) →
          CallRow meaning (all_of names a f) n e (all_of names b (put f w t)) ×
          Joined names b (put f w t)
      called row =
          let now : contents (put f w t) ≡
          put (contents f) w (shelf.leaves (pick (contents f) w) e.at e.call e.reply) =
          contents_put f w t ∙ ap (put (contents f) w)
          (ap (λ (v : State T). v.now) row.is ∙
          ap (λ x. shelf.leaves x e.at e.call e.reply) (sym there)) in
          let left = ap (whole names) now ∙
          sym (shelves.leaves names (contents f) e.at e.call e.reply joined.fit answered) in
          let x = hold n e.at (need_of e.call e.reply) in
          let added = subst (λ (u : ShelfState T). IsAdded u.holds t.holds x) (sym is) row.holds in
          let whole_row : CallRow meaning (all_of names a f) n e (all_of names b (put f w t)) =
          record {
            can = can_join;
            room = row.room;
            holds = added_join f w t x added;
            is = λ i. record {
              now = left i;
              live = (row.is i).live;
              entries = (row.is i).entries;
              holds = all_holds (put f w t);
              wear = (row.is i).wear;
              format = (row.is i).format;
            };
          } in (
            whole_row,
            noted_joins f joined (Asked e) (need_of e.call e.reply)
                (subst (fits names) (sym now)
                (shelves.stays names (contents f) e.at e.call e.reply joined.fit answered))
                (call_upheld meaning making Short laws (all_of names a f) joined.upheld n e _
                whole_row) added can.running.live (ap (λ (v : State T). v.live) row.is)
                (ap (λ (v : State T). v.entries) row.is),
          )

      read : ReadRow shelf (state_on a s) n e (state_on b t) →
          ReadRow meaning (all_of names a f) n e (all_of names b (put f w t)) ×
          Joined names b (put f w t)
      read row =
          let now = still_there f w is (ap (λ (v : State T). v.now) row.is) in
          let x = hold n e.at (need_of e.call e.reply) in
          let added = subst (λ (u : ShelfState T). IsAdded u.holds t.holds x) (sym is) row.holds in
          let whole_row : ReadRow meaning (all_of names a f) n e (all_of names b (put f w t)) =
          record {
            can = can_join;
            only_reads = row.only_reads;
            room = row.room;
            holds = added_join f w t x added;
            is = λ i. record {
              now = whole names (now i);
              live = (row.is i).live;
              entries = (row.is i).entries;
              holds = all_holds (put f w t);
              wear = (row.is i).wear;
              format = (row.is i).format;
            };
          } in (
            whole_row,
            noted_joins f joined (Asked e) (need_of e.call e.reply)
                (subst (fits names) (sym now) joined.fit)
                (read_upheld meaning making Short laws (all_of names a f) joined.upheld _ n e
                whole_row) added can.running.live (ap (λ (v : State T). v.live) row.is)
                (ap (λ (v : State T). v.entries) row.is),
          )

    deferred : (f : Four (ShelfState T)) (joined : Joined names a f) (at : ℕ) (c : Call) →
        pick f (which_of at) ≡ s → LaterRow shelf (state_on a s) n at c (state_on b t) →
        LaterRow meaning (all_of names a f) n at c (all_of names b (put f (which_of at) t)) ×
        Joined names b (put f (which_of at) t)
    deferred f joined at c is row =
        let w = which_of at in
        let there : pick (contents f) w ≡ s.now =
        contents_pick f w ∙ ap (λ (x : ShelfState T). x.now) is in
        let now = still_there f w is (ap (λ (v : State T). v.now) row.is) in
        let x = hold n at (need_of c Reply.Done) in
        let added = subst (λ (u : ShelfState T). IsAdded u.holds t.holds x) (sym is) row.holds in
        let can = row.can in
        let whole_row : LaterRow meaning (all_of names a f) n at c (all_of names b (put f w t)) =
        record {
          can = record {
            running = record { live = can.running.live; standing = can.running.standing };
            deferred = (
              (shelves.belongs names (contents f) at c joined.fit).1
                  (subst (λ x. shelf.belongs x at c) (sym there) can.deferred.0),
              can.deferred.1,
            );
            few = can.few;
            ready = (shelves.answers names (contents f) at c Reply.Done joined.fit).1
                (subst (λ x. shelf.answers x at c Reply.Done) (sym there) can.ready);
            clear = clear_in f joined.own n at (need_of c Reply.Done) s is can.clear;
          };
          room = row.room;
          holds = added_join f w t x added;
          is = λ i. record {
            now = whole names (now i);
            live = (row.is i).live;
            entries = (row.is i).entries;
            holds = all_holds (put f w t);
            wear = (row.is i).wear;
            format = (row.is i).format;
          };
        } in (
          whole_row,
          noted_joins f joined (Deferred at c) (need_of c Reply.Done)
              (subst (fits names) (sym now) joined.fit)
              (later_upheld meaning making Short laws (all_of names a f) joined.upheld n at c _
              whole_row) added can.running.live (ap (λ (v : State T). v.live) row.is)
              (ap (λ (v : State T). v.entries) row.is),
        )

    undone : (f : Four (ShelfState T)) (joined : Joined names a f)
        (row : BackRow shelf (state_on a s) n (state_on b t)) →
        let w = which_of row.call.at in pick f w ≡ s →
        BackRow meaning (all_of names a f) n (all_of names b (put f w t)) ×
        Joined names b (put f w t)
    undone f joined row is =
        let x = row.call in
        let w = which_of x.at in
        let there : pick (contents f) w ≡ s.now =
        contents_pick f w ∙ ap (λ (x : ShelfState T). x.now) is in
        let now : contents (put f w t) ≡ put (contents f) w row.next =
        contents_put f w t ∙ ap (put (contents f) w) (ap (λ (v : State T). v.now) row.is) in
        let back = undoes_join shelves names (contents f) joined.fit x.at x.call x.reply row.next
        (subst (λ v. Undoes shelf v x.at x.call x.reply row.next) (sym there) row.undoes) in
        let held = ap (λ (v : State T). v.holds) row.is ∙
        ap (λ (x : ShelfState T). x.holds) (sym is) in
        let same = same_holds f w t held in
        let whole_row : BackRow meaning (all_of names a f) n (all_of names b (put f w t)) =
        record {
          live = row.live;
          call = x;
          rest = row.rest;
          newest = row.newest;
          next = whole names (put (contents f) w row.next);
          undoes = back.0;
          is = λ i. record {
            now = whole names (now i);
            live = (row.is i).live;
            entries = (row.is i).entries;
            holds = same i;
            wear = (row.is i).wear;
            format = (row.is i).format;
          };
        } in (
          whole_row,
          record {
            fit = subst (fits names) (sym now) back.1;
            own = same_own f w t joined.own held;
            upheld = back_upheld meaning making Short laws
                (all_of names a f) joined.upheld n _ whole_row;
            owed = falls (all_of names a f) joined.owed _ n row.live same
                (ap (λ (v : State T). v.live) row.is)
                (λ m at other h. subst (HasEntry m at)
                (sym (ap (λ (v : State T). v.entries) row.is))
                (popped (all_of names a f) joined.owed n x row.rest row.newest m at other h));
          },
        )

    pub call_joins : (e : Event) → CallRow shelf (state_on a s) n e (state_on b t) →
        On (λ u v. CallRow meaning u n e v) (which_of e.at) names a s b t
    call_joins e row = lift (λ u v. CallRow meaning u n e v) (which_of e.at) names a b s t
        (λ f joined is. called f joined e is row.can row)

    pub read_joins : (e : Event) → ReadRow shelf (state_on a s) n e (state_on b t) →
        On (λ u v. ReadRow meaning u n e v) (which_of e.at) names a s b t
    read_joins e row = lift (λ u v. ReadRow meaning u n e v) (which_of e.at) names a b s t
        (λ f joined is. read f joined e is row.can row)

    pub later_joins : (at : ℕ) (c : Call) → LaterRow shelf (state_on a s) n at c (state_on b t) →
        On (λ u v. LaterRow meaning u n at c v) (which_of at) names a s b t
    later_joins at c row = lift (λ u v. LaterRow meaning u n at c v) (which_of at) names a b s t
        (λ f joined is. deferred f joined at c is row)

    pub back_joins : (x : Event) → HasNewestCall n a.entries x →
        BackRow shelf (state_on a s) n (state_on b t) →
        On (λ u v. BackRow meaning u n v) (which_of x.at) names a s b t
    back_joins x newest row = subst
        (λ (y : Event). On (λ u v. BackRow meaning u n v) (which_of y.at) names a s b t)
        (newest_once n a.entries row.call x row.rest newest.0 row.newest newest.1).0
        (lift (λ u v. BackRow meaning u n v) (which_of row.call.at) names a b s t
        (λ f joined is. undone f joined row is))

  -- ---- steps on none

  module _ (names : N) (a b : TransactionsState) (n : ℕ) where
    -- four shelves as one
    abbrev on : Four (ShelfState T) → ShelfState S
    on f = record { now = whole names (contents f); holds = all_holds f }

    pub begin_joins : BeginRow (alone a) n (alone b) → Beside (λ u v. BeginRow u n v) names a b
    begin_joins row = record {
      row = λ f joined. begin_on a b n (on f) row;
      joined = λ f joined. let up = begin_on a b n (on f) row in record {
        fit = joined.fit;
        own = joined.own;
        upheld = begin_upheld meaning making Short laws
            (all_of names a f) joined.upheld n _ up;
        owed = begun (all_of names a f) joined.owed n _ row.can.fresh refl
            (ap (λ (v : State _). v.live) row.is) (ap (λ (v : State _). v.entries) row.is);
      };
    }

    pub fall_joins : FallRow (alone a) n (alone b) → Beside (λ u v. FallRow u n v) names a b
    fall_joins row = record {
      row = λ f joined. fall_on a b n (on f) row;
      joined = λ f joined. let up = fall_on a b n (on f) row in record {
        fit = joined.fit;
        own = joined.own;
        upheld = fall_upheld meaning making Short laws
            (all_of names a f) joined.upheld n _ up;
        owed = falls (all_of names a f) joined.owed _ n row.live refl
            (ap (λ (v : State _). v.live) row.is)
            (λ m at other h. subst (HasEntry m at) (sym (ap (λ (v : State _). v.entries) row.is))
            h);
      };
    }

    pub unread_joins : UnreadRow (alone a) n (alone b) → Beside (λ u v. UnreadRow u n v) names a b
    unread_joins row = record {
      row = λ f joined. unread_on a b n (on f) row;
      joined = λ f joined. let up = unread_on a b n (on f) row in record {
        fit = joined.fit;
        own = joined.own;
        upheld = unread_upheld meaning making Short laws
            (all_of names a f) joined.upheld _ n up;
        owed = falls (all_of names a f) joined.owed _ n row.live refl
            (ap (λ (v : State _). v.live) row.is)
            (λ m at other h. subst (HasEntry m at) (sym (ap (λ (v : State _). v.entries) row.is))
            (popped (all_of names a f) joined.owed n row.call row.rest row.newest m at other h));
      };
    }

  -- ---- steps on all shelves

  module _ (names : N) (a : TransactionsState) (f g : Four (ShelfState T)) (n : ℕ)
      (joined : Joined names a f) where
    -- Each shelf ran its own of these, and gave the needs up.
    settled : (es : List Event) →
        ((w : Which) → Settles shelf (pick f w) n (on_quarter (rank w) es) (pick g w)) →
        Leads (Does meaning) es (whole names (contents f)) (whole names (contents g)) ×
        fits names (contents g)
    settled es each = runs_join shelves names es (contents f) (contents g) joined.fit
        (λ w. subst (λ x. Leads (Does shelf) (on_quarter (rank w) es) x (pick (contents g) w))
        (sym (contents_pick f w))
        (subst (λ x. Leads (Does shelf) (on_quarter (rank w) es) (pick f w).now x)
        (sym (contents_pick g w)) (each w).runs))

    abbrev on_all : Four (ShelfState T) → ShelfState S
    on_all h = record { now = whole names (contents h); holds = all_holds h }

    -- What a running transaction deferred can run on each shelf,
    pub ready_join : Lives a.live n → (Falls a.live n → ⊥) → (w : Which) →
        CanRun shelf (on_quarter (rank w) (laters_of (own n a.entries))) (pick f w).now
    ready_join lives standing w =
        let es = laters_of (own n a.entries) in
        let can = commit_ready meaning making Short laws
        (all_of names a f) joined.upheld n (record { live = lives; standing = standing }) in
        let apart = runs_apart shelves names es (contents f) can.next joined.fit can.runs in
        let fewer = filter_length (λ (e : Event). e.at % 4 == rank w) es in
        let room = commit_fits meaning making Short laws
        (all_of names a f) joined.upheld n in
        record {
          next = pick apart.0 w;
          runs = subst (λ x. Leads (Does shelf) (on_quarter (rank w) es) x (pick apart.0 w))
              (contents_pick f w) (apart.1 w);
          late = each_filter (λ e. Disposable e.call) (λ (e : Event). e.at % 4 == rank w) es
              can.late;
          wear = a.wear;
          reached = subst (λ x. shelf.within x a.wear) (contents_pick f w)
              ((shelves.within names (contents f) a.wear joined.fit).0 joined.upheld.reached w);
          room = omega arith;
        }

    -- and where it ran, the transaction is committed.
    pub commit_joins : Lives a.live n → (Falls a.live n → ⊥) →
        ((w : Which) → Settles shelf (pick f w) n
        (on_quarter (rank w) (laters_of (own n a.entries))) (pick g w)) →
        let b = finished n (length (laters_of (own n a.entries))) a in
        CommitRow meaning (whole_state whole names a f) n (whole_state whole names b g) ×
        Joined names b g
    commit_joins lives standing each =
        let es = laters_of (own n a.entries) in
        let ran = settled es each in
        let given = given_join f g n (λ w. (each w).holds) in
        let row = commit_on meaning a (on_all f) n (on_all g) lives given standing ran.0 in (
          row,
          record {
            fit = ran.1;
            own = given_own f g n (λ w. (each w).holds) joined.own;
            upheld = commit_upheld meaning making Short laws
                (all_of names a f) joined.upheld n _ row;
            owed = left (all_of names a f) joined.owed _ _ n refl refl refl row.left;
          },
        )

    -- One of which nothing is left to undo ends where its needs go.
    pub ended_joins : Lives a.live n → HasNoCall n a.entries →
        ((w : Which) → Settles shelf (pick f w) n [] (pick g w)) →
        let b = finished n 0 a in
        EndedRow (whole_state whole names a f) n (whole_state whole names b g) × Joined names b g
    ended_joins lives undone each =
        let ran = settled [] each in
        let given = given_join f g n (λ w. (each w).holds) in
        let row = ended_on meaning a (on_all f) n (on_all g) lives given undone (sym ran.0) in (
          row,
          record {
            fit = ran.1;
            own = given_own f g n (λ w. (each w).holds) joined.own;
            upheld = ended_upheld meaning making Short laws
                (all_of names a f) joined.upheld n _ row;
            owed = left (all_of names a f) joined.owed _ _ n refl refl refl row.left;
          },
        )

  -- ---- a making

  -- A making over names and the shelf of the next number is one of the whole, whatever the other
  -- shelves are.
  pub make_joins : (m n : N) (a : TransactionsState) (s t : ShelfState T) (name : List ℕ)
      (kind : Kind) → IsName name → length (labels m) < max_collections →
      MakesOn labels whole fits making m s.now name kind n t.now → t.holds ≡ s.holds →
      (rest : Four (ShelfState T)) →
      let w = which_of (length (labels m)) in
      Joined m a (put rest w s) →
      MakeRow making (whole_state whole m a (put rest w s)) name kind
      (whole_state whole n a (put rest w t)) ×
      Joined n a (put rest w t)
  make_joins m n a s t name kind good few made held rest joined =
      let w = which_of (length (labels m)) in
      let f = put rest w s in
      let there = contents_put rest w s in
      let now = contents_put rest w t in
      let step = made (contents rest) (subst (fits m) there joined.fit) in
      let makes : making.makes (whole m (contents f)) name kind
      (whole n (contents (put rest w t))) =
      subst (λ x. making.makes x name kind (whole n (contents (put rest w t))))
      (ap (whole m) (sym there))
      (subst (making.makes (whole m (put (contents rest) w s.now)) name kind)
      (ap (whole n) (sym now)) step.0) in
      let names_are = ap length (shelves.names m (contents f) joined.fit) ∙
      length-map (labels m) (λ (x : Label). x.name) in
      let same : all_holds (put rest w t) ≡ all_holds f =
      ap all_holds (sym (put_put rest w s t)) ∙ same_holds f w t
      (held ∙ ap (λ (x : ShelfState T). x.holds) (sym (pick_put rest w s))) in
      let row : MakeRow making (all_of m a f) name kind (all_of n a (put rest w t)) = record {
        new = record {
          good = good;
          free = (laws.makings.makes_named (whole m (contents f))
              (whole n (contents (put rest w t))) name kind makes).0;
          few = omega arith;
        };
        next = whole n (contents (put rest w t));
        made = makes;
        is = λ i. record {
          now = whole n (contents (put rest w t));
          live = a.live;
          entries = a.entries;
          holds = same i;
          wear = a.wear;
          format = a.format;
        };
      } in (
        row,
        record {
          fit = subst (fits n) (sym now) step.1;
          own = subst AreShelved (put_put rest w s t) (same_own f w t joined.own
              (held ∙ ap (λ (x : ShelfState T). x.holds) (sym (pick_put rest w s))));
          upheld = make_upheld meaning making Short laws
              (all_of m a f) joined.upheld name kind _ row;
          owed = still (all_of m a f) joined.owed _ same refl refl;
        },
      )

  -- ---- taken apart

  -- Collections taken apart, with no live transaction.
  pub opened_joins : (names : N) (f : Four (ShelfState T)) (format : Format) (wear : ℕ) →
      fits names (contents f) → ((w : Which) → (pick f w).holds ≡ []) →
      meaning.within (whole names (contents f)) wear → wear ≤ max_wear →
      AreShort format (collections (whole names (contents f))) →
      length (making.names (whole names (contents f))) ≤ max_collections →
      Joined names (rested format wear) f
  opened_joins names f format wear fit none reached worn spells few =
      let no_hold : (h : Hold) → Contains (all_holds f) h → ⊥ = λ h there.
      let on = held_on f h there in
      let inside = subst (λ l. Contains l h) (none on.0) on.1 in
      let below = inside.1 in absurd (omega arith) in
      let empty : all_holds f ≡ [] = λ i. none First i ++
      (none Second i ++ (none Third i ++ none Fourth i)) in
      record {
        fit = fit;
        own = λ w. subst (AllByRecursion (λ h. which_of h.at ≡ w)) (sym (none w)) tt;
        upheld = subst (λ l. IsUpheld meaning making Short
            (IsSound meaning making) (record (all_of names (rested format wear) f) { holds = l }))
            (sym empty) (resting_upheld meaning making Short laws
            format (whole names (contents f)) wear reached worn few spells);
        owed = record {
          live = λ h there. absurd (no_hold h there);
          owed = λ h there standing. absurd (no_hold h there);
        };
      }
