-- Ends of transactions, in a journal and on shelves, are steps of the book.
use Rattle.std.proofs.Common.{◌≡◌, ℕ, ◌+◌, ◌<◌, inl, inr, Bool, true, false, cond, List, []}
use Rattle.std.proofs.Common.{◌∷◌, length, map, Result, Ok, refl, sym, ◌∙◌, ap, subst, arith}
use Rattle.std.proofs.Common.{length-append, Option, Some, None, IfSome}
use Rattle.std.specs.Option.{is_some}
use Rattle.std.proofs.lemmas.List.{length-map}
use Rattle.std.specs.List.{AllByRecursion}
use Rattle.calls.specs.declared.format.Format.{Format}
use Rattle.calls.specs.declared.reply.Reply.{Reply}
use Rattle.calls.specs.declared.refusal.Refusal.{Refusal}
use Rattle.calls.specs.Contents.{Content, Collection}
use Rattle.calls.specs.Formats.{widest}
use Rattle.calls.specs.Rules.{Disposable, IsShort}
use Rattle.calls.specs.Reads.{reads}
use Rattle.calls.specs.Transactions.{Event, Entry, Asked, Leads, own, laters_of}
use Rattle.undo_log.specs.Entries.{HasNoCall, HasNewestCall}
use Rattle.undo_log.specs.Logs.{Lives}
use Rattle.boosted.specs.Meaning.{Meaning, Undoes, HasRoom}
use Rattle.boosted.specs.Laws.{BoostedLaws}
use Rattle.boosted.proofs.Each.{weaker}
use Rattle.catalog.specs.declared.four.Four.{Four}
use Rattle.catalog.specs.Fours.{Which, First, Second, Third, Fourth, rank, which_of, pick, put}
use Rattle.catalog.specs.Laws.Numbers.{pick_put}
use Rattle.catalog.specs.Making.{Making, MakingLaws}
use Rattle.catalog.specs.Shelving.{ShelfLaws}
use Rattle.catalog.specs.Woven.{Label}
use Rattle.steps.specs.Shelves.{ShelfState, on_quarter, Settles}
use Rattle.records.specs.declared.record.Record.{Record}
use Rattle.records.specs.Short.{AreShort, IsShortReply}
use Rattle.records.specs.Told.{Tells}
use Rattle.steps.specs.Machine.{State, Does, IsRunning, HasNewestRead, CommitRow, EndedRow}
use Rattle.steps.specs.Machine.{FallRow, UnreadRow, BackRow}
use Rattle.steps.specs.Wholes.{TransactionsState, state_on, contents, whole_state, IsJoined}
use Rattle.steps.specs.TransactionTables.{alone, finished, CanUndo}
use Rattle.steps.proofs.BookLaws.{BookLaws, book_laws}
use Rattle.steps.proofs.FourShelves.{contents_pick}
use Rattle.steps.proofs.InvariantRows.{commit_fits}
use Rattle.steps.proofs.Joining as joining
use Rattle.steps.proofs.Readings.{unread_settles}
use Rattle.steps.proofs.Steps.{back_settles, commit_settles, ended_settles, fall_settles}
use Rattle.steps.proofs.Steps.{laters_disposable}
use Rattle.steps.proofs.UndoneCall.{newest_once, call_there, written_back}
use Rattle.steps.proofs.WholeRuns.{undoes_join}
use Rattle.images.specs.declared.effect.Effect.{Effect}
use Rattle.images.specs.Gatherings.{GatheringState, noted, to_note, effect_at, AreRun, TakesBack}
use Rattle.images.proofs.OnShelf.{run_joins}
use Rattle.images.proofs.Running.{are_run, late_short}
use Rattle.images.proofs.Undoing.{newest_short, back_once}
use Rattle.txn.specs.declared.actions.Action.{Action}
use Rattle.txn.specs.Books.{BookState, lsn}
use Rattle.txn.specs.Shelved.{JournalState, book_state, journal_lsn, Writes}
use Rattle.txn.specs.Shelved.{Charges, IsBook, IsJournal, IsOfBook, LeadsOn, LeadsBeside, Serves}
use Rattle.txn.specs.Shelved.{IsServed, SettlesWhole, HasNewestAt}
use Rattle.txn.proofs.BookInvariant.{back_keeps, fall_keeps, unread_keeps, commit_keeps}
use Rattle.txn.proofs.BookInvariant.{ended_keeps}
use Rattle.txn.proofs.Goings.{goes_still, goes_ran, lsn_after}
use Rattle.txn.proofs.JournalSteps.{appended, moved, leads_on}
use Rattle.txn.proofs.JournalSteps.{leads_beside}

-- What is made ready to be noted can be spelled where all can.
pub ready_short : (n : GatheringState) (es : List Effect) →
    AllByRecursion (λ e. IsShort widest e.call) es →
    AllByRecursion (λ e. IsShort widest e.call) (to_note n es)
ready_short n es short = by n.going
  where
    by : (b : Bool) → AllByRecursion (λ e. IsShort widest e.call) (cond b es [])
    by true = short
    by false = tt

-- Where a newest call is, one is there.
pub newest_there : (n : ℕ) (es : List (ℕ × Entry)) (x : Event) → HasNewestCall n es x →
    HasNoCall n es → ⊥
newest_there n es x new = (call_there n es (λ (y : Event). y) (Some x) new tt).0 refl

pub found_there : (n : ℕ) (es : List (ℕ × Entry)) (found : Option ℕ) →
    IfSome found (HasNewestAt n es) → is_some found ≡ true → HasNoCall n es → ⊥
found_there n es None there some = λ none. cc
found_there n es (Some at) there some = newest_there n es there.0 there.1

-- A record that waits does so whatever is charged.
pub charged : {N : Type 0} (j k : JournalState N) (r : Record) (a : TransactionsState) →
    Writes j r k → Writes j r (record k { transactions = a })
charged j k r a writes = record {
  room = writes.room;
  is = ap (λ (v : JournalState _). record v { transactions = a }) writes.is;
}

-- A newest call that is there, where none that only reads is, did not only read.
not_read : (n : ℕ) (es : List (ℕ × Entry)) (x : Event) → HasNewestCall n es x →
    (HasNewestRead n es → ⊥) → reads x.call x.reply ≡ false
not_read n es x newest none = by (reads x.call x.reply) refl
  where
    by : (r : Bool) → reads x.call x.reply ≡ r → reads x.call x.reply ≡ false
    by true is = absurd (none (x, newest.0, newest.1, is))
    by false is = is

module _ {S T N : Type 0} {meaning : Meaning S ℕ} {making : Making S}
    {collections : S → List Collection} {shelf : Meaning T ℕ} {index : T → Which}
    {holds : T → ℕ → Content → Type 0} {labels : N → List Label} {whole : N → Four T → S}
    {fits : N → Four T → Type 0} (calls : BoostedLaws meaning) (makings : MakingLaws meaning making)
    (told : Tells meaning making collections)
    (shelves : ShelfLaws labels whole fits meaning making collections shelf index holds) where
  laws : BookLaws meaning making (λ f s. AreShort f (collections s))
  laws = book_laws calls makings told

  abbrev Book : JournalState N → Four (ShelfState T) → Type 0
  Book j f = IsBook meaning making collections whole fits j f

  abbrev Short : Format → S → Type 0
  Short form s = AreShort form (collections s)

  -- What a transaction deferred can be spelled.
  pub laters_short : (j : JournalState N) → IsJournal meaning making collections whole fits j →
      (n : ℕ) →
      AllByRecursion (λ e. IsShort widest e.call) (laters_of (own n j.transactions.entries))
  laters_short j book n =
      let ls = laters_of (own n j.transactions.entries) in
      late_short ls (weaker (λ (e : Event). Disposable e.call × (e.reply ≡ Reply.Done))
      (λ (e : Event). Disposable e.call) (λ e l. l.0) ls
      (laters_disposable meaning making laws.rules
      (whole_state whole j.names j.transactions book.0) book.1.kept.upheld.holds n))

  -- ---- the newest call, on its shelf

  module _ (j : JournalState N) (s : ShelfState T) (n at : ℕ)
      (book : IsOfBook meaning making collections whole fits (which_of at) j s) (x : Event)
      (newest : HasNewestCall n j.transactions.entries x)
      (on : HasNewestAt n j.transactions.entries at)
    where
      pub newest_at : x.at ≡ at
      newest_at = ap (λ (e : Event). e.at)
          (newest_once n j.transactions.entries x on.0 newest.0 on.1.0
          newest.1 on.1.1).0 ∙ on.2

      pub undo_here : CanUndo shelf j.transactions s n
      undo_here = joining.undo_can shelves laws j.names j.transactions book.0 at s book.1.joined n x
          newest newest_at

      pub reply_short : IsShortReply widest x.reply
      reply_short = newest_short j.transactions.format n x j.transactions.entries newest.0 newest.1
          book.1.kept.upheld.asked

      pub reach_here : HasRoom shelf s.now
      reach_here = joining.reach_join shelves laws j.names j.transactions book.0 at s book.1.joined

  module _ (j k : JournalState N) (n : ℕ) where
    -- ---- undoing

    abbrev Backs : Result Bool Refusal → BookState S → BookState S → Type 0
    Backs result b c = Serves meaning making collections (Action.Back n) result b c

    -- Nothing is left to undo.
    pub fall_beside : FallRow (alone j.transactions) n (alone k.transactions) →
        length j.pending < 16384 →
        Charges j k → LeadsBeside meaning making collections whole fits (Backs (Ok false)) j k
    fall_beside row room charges = leads_beside calls makings told shelves
        (ap (λ (v : JournalState N). v.names) charges)
        (joining.fall_joins shelves laws j.names j.transactions k.transactions n row)
        (λ f kept row.
        let b = book_state whole j f in
        let c = book_state whole k f in
        let to = moved whole j k f f charges in (
          fall_keeps meaning making Short laws b kept n c row to,
          record {
            answer = (row, room, to);
            settles = λ d v. fall_settles meaning making laws.rules b.state kept.upheld.holds n
                c.state d row v;
            goes = goes_still calls told b c (ap (λ (v : State S). v.now) row.is)
                (ap (λ (v : JournalState N). v.gathering) charges)
                (omega (arith, ap (λ (v : BookState S). lsn v) to));
            notes = ap (λ (v : JournalState N). v.gathering) charges;
          },
        ))

    module _ (s : ShelfState T) where
      -- The newest call only reads.
      pub unread_on : (w : Which) → UnreadRow (alone j.transactions) n (alone k.transactions) →
          length j.pending < 16384 → Charges j k →
          LeadsOn meaning making collections whole fits (Backs (Ok true)) w j s k s
      unread_on w row room charges =
          let steps = joining.unread_joins shelves laws j.names j.transactions k.transactions n
          row in
          leads_on calls makings told shelves {Row = λ u v. UnreadRow u n v}
          (ap (λ (v : JournalState N). v.names) charges)
          (record { row = λ rest is. steps.row _ is; joined = λ rest is. steps.joined _ is })
          (λ rest kept row.
          let f = put rest w s in
          let b = book_state whole j f in
          let c = book_state whole k f in
          let to = moved whole j k f f charges in (
            unread_keeps meaning making Short laws b kept n c row to,
            record {
              answer = inr (row, room, to);
              settles = λ d v. unread_settles meaning making laws.rules b.state c.state n d
                  kept.upheld.holds row v;
              goes = goes_still calls told b c (ap (λ (v : State S). v.now) row.is)
                  (ap (λ (v : JournalState N). v.gathering) charges)
                  (omega (arith, ap (λ (v : BookState S). lsn v) to));
              notes = (
                row.call,
                (row.rest, row.newest),
                inl (row.only_reads, ap (λ (v : JournalState N). v.gathering) charges),
              );
            },
          ))

      -- The newest call is undone on its shelf, under its record, and what undid it is noted.
      back_here : (t : ShelfState T) (x : Event) (es : List Effect) (before : T) →
          HasNewestCall n j.transactions.entries x → (HasNewestRead n j.transactions.entries → ⊥) →
          BackRow shelf (state_on j.transactions s) n (state_on k.transactions t) →
          Writes j (Record.Back n) k → k.names ≡ j.names →
          TakesBack shelf (journal_lsn j + 1) x es s.now before →
          k.gathering ≡ noted j.gathering es →
          LeadsOn meaning making collections whole fits (Backs (Ok true)) (which_of x.at) j s k t
      back_here t x es before newest written row writes same takes notes =
          let w = which_of x.at in
          let p = journal_lsn j + 1 in
          let steps = joining.back_joins shelves laws j.names j.transactions k.transactions s t n x
          newest
          row in
          let Row : State S → State S → Type 0 = λ u v. BackRow meaning u n v ×
          AreRun meaning p es u.now v.now in
          let ran : (rest : Four (ShelfState T)) →
          IsJoined meaning making collections whole fits j.names j.transactions (put rest w s) →
          Row (whole_state whole j.names j.transactions (put rest w s))
          (whole_state whole j.names k.transactions (put rest w t)) = λ rest is.
          let f = put rest w s in
          let u = whole_state whole j.names j.transactions f in
          let v = whole_state whole j.names k.transactions (put rest w t) in
          let there : pick (contents f) w ≡ s.now = contents_pick f w ∙
          ap (λ (x : ShelfState T). x.now) (pick_put rest w s) in
          let goes = run_joins labels whole fits meaning making collections shelf index holds
          shelves
          j.names x.at p es (contents f) before is.fit takes.inverse.0
          (subst (λ y. AreRun shelf p es y before) (sym there) takes.run) in
          let undoes = (undoes_join shelves j.names (contents f) is.fit x.at x.call x.reply before
          (subst (λ y. Undoes shelf y x.at x.call x.reply before) (sym there) takes.undoes)).0 in
          let up = steps.row rest is in
          let end = back_once meaning making Short laws u is.upheld n x newest.0 newest.1 v up
          (whole j.names (put (contents f) w before)) undoes in
          (up, subst (AreRun meaning p es u.now) (sym end) goes) in
          leads_on calls makings told shelves {Row = Row} same
          (record { row = ran; joined = steps.joined })
          (λ rest kept both.
          let f = put rest w s in
          let b = book_state whole j f in
          let c = book_state whole k (put rest w t) in
          let to = appended whole f (put rest w t) writes in
          let row = both.0 in
          let unworn = kept.upheld.unworn in (
            back_keeps meaning making Short laws b kept n c row to,
            record {
              answer = inl (written_back meaning b.state c.state n written row, to);
              settles = λ d v. back_settles meaning making laws.rules b.state kept.upheld.holds
                  n c.state d row v;
              goes = goes_ran calls told b c es b.state.wear kept.upheld.reached
                  (omega (
                    arith,
                    takes.one,
                    unworn,
                    ap length row.newest.is,
                    length-append row.newest.before ((n, Asked row.call) ∷ row.newest.after),
                  )) both.1 notes (lsn_after b c (Record.Back n) to);
              notes = (
                x,
                newest,
                inr (
                  not_read n b.state.entries x newest written,
                  (es, takes.inverse, both.1, notes),
                ),
              );
            },
          ))

      pub back_on : (t : ShelfState T) (x : Event) (es : List Effect) (before : T) (at : ℕ) →
          x.at ≡ at → HasNewestCall n j.transactions.entries x →
          (HasNewestRead n j.transactions.entries → ⊥) →
          BackRow shelf (state_on j.transactions s) n (state_on k.transactions t) →
          Writes j (Record.Back n) k → k.names ≡ j.names →
          TakesBack shelf (journal_lsn j + 1) x es s.now before →
          k.gathering ≡ noted j.gathering es →
          LeadsOn meaning making collections whole fits (Backs (Ok true)) (which_of at) j s k t
      back_on t x es before at on newest written row writes same takes notes = subst
          (λ p. LeadsOn meaning making collections whole fits (Backs (Ok true)) (which_of p) j s k
          t) on (back_here t x es before newest written row writes same takes notes)

    -- ---- taken out, with the needs

    module _ (f g : Four (ShelfState T)) (book : Book j f) (same : k.names ≡ j.names) where
      abbrev b : BookState S
      b = book_state whole j f

      abbrev c : BookState S
      c = book_state whole k g

      -- what holds of the parts, as the journal has them
      joined_here : (a : TransactionsState) → k.transactions ≡ a →
          IsJoined meaning making collections whole fits j.names a g →
          IsJoined meaning making collections whole fits k.names k.transactions g
      joined_here a is joined = subst
          (λ m. IsJoined meaning making collections whole fits m k.transactions g) (sym same)
          (subst (λ v. IsJoined meaning making collections whole fits j.names v g) (sym is) joined)

      row_here : (Row : State S → Type 0) (a : TransactionsState) → k.transactions ≡ a →
          Row (whole_state whole j.names a g) → Row c.state
      row_here Row a is row = subst (λ m. Row (whole_state whole m k.transactions g)) (sym same)
          (subst (λ v. Row (whole_state whole j.names v g)) (sym is) row)

      -- A running transaction commits, where each shelf ran what it deferred there.
      pub commit_leads : (place : ℕ) → let ls = laters_of (own n j.transactions.entries) in
          IsRunning (alone j.transactions) n → Writes j (Record.Commit n) k → place ≡ k.places →
          k.transactions ≡ finished n (length ls) j.transactions →
          k.gathering ≡ noted j.gathering (map (effect_at (journal_lsn j + 1)) ls) →
          ((w : Which) → Settles shelf (pick f w) n (on_quarter (rank w) ls) (pick g w)) →
          Book k g × IsServed meaning making collections (Action.Commit n) (Ok place)
          (SettlesWhole meaning making n b c) b c
      commit_leads place running writes placed is notes each =
          let ls = laters_of (own n j.transactions.entries) in
          let a = finished n (length ls) j.transactions in
          let done = joining.commit_joins shelves laws j.names j.transactions f g n book.joined
          running.live running.standing each in
          let row = row_here (CommitRow meaning b.state n) a is done.0 in
          let to = appended whole f g writes in
          let kept = book.kept in
          let fits_wear = commit_fits meaning making Short laws b.state kept.upheld n in
          let runs = subst (λ t. Leads (Does meaning) ls b.state.now t)
          (sym (ap (λ (v : State S). v.now) row.left.is)) row.runs in (
            record {
              joined = joined_here a is done.1;
              kept = commit_keeps meaning making Short laws b kept n c row to;
            },
            record {
              answer = (row, to, placed);
              settles = λ d v. commit_settles meaning making laws.rules b.state kept.upheld.holds n
                  c.state d row v;
              goes = goes_ran calls told b c (map (effect_at (lsn b + 1)) ls) b.state.wear
                  kept.upheld.reached
                  (omega (arith, length-map ls (effect_at (lsn b + 1)), fits_wear))
                  (are_run meaning (lsn b + 1) ls b.state.now c.state.now runs
                  (laters_short j (f, book) n)) notes (lsn_after b c (Record.Commit n) to);
              notes = notes;
            },
          )

      -- A transaction of which nothing is left to undo ends, where each shelf gave its needs up.
      pub ended_leads : Lives j.transactions.live n → HasNoCall n j.transactions.entries →
          Writes j (Record.Ended n) k → k.transactions ≡ finished n 0 j.transactions →
          k.gathering ≡ j.gathering →
          ((w : Which) → Settles shelf (pick f w) n [] (pick g w)) →
          Book k g × Serves meaning making collections (Action.Ended n) (Ok tt) b c
      ended_leads lives undone writes is still each =
          let a = finished n 0 j.transactions in
          let done = joining.ended_joins shelves laws j.names j.transactions f g n book.joined lives
          undone each in
          let row = row_here (EndedRow b.state n) a is done.0 in
          let to = appended whole f g writes in
          let kept = book.kept in (
            record {
              joined = joined_here a is done.1;
              kept = ended_keeps meaning making Short laws b kept n c row to;
            },
            record {
              answer = (row, to);
              settles = λ d v. ended_settles meaning making laws.rules b.state kept.upheld.holds n
                  c.state d row v;
              goes = goes_still calls told b c (ap (λ (v : State S). v.now) row.left.is) still
                  (omega (arith, lsn_after b c (Record.Ended n) to));
              notes = still;
            },
          )

  module _ (j m k : JournalState N) (n ran : ℕ) (f g : Four (ShelfState T)) (book : Book j f)
      (transactions : m.transactions ≡ j.transactions) (names : m.names ≡ j.names)
      (is : k ≡ record m { transactions = finished n ran m.transactions }) where
    abbrev ends : (r : Record) → Writes j r m → Writes j r k
    ends r writes = subst (Writes j r) (sym is)
        (charged j m r (finished n ran m.transactions) writes)

    same_names : k.names ≡ j.names
    same_names = ap (λ (v : JournalState N). v.names) is ∙ names

    charges : (count : ℕ) → ran ≡ count → k.transactions ≡ finished n count j.transactions
    charges count counted = ap (λ (v : JournalState N). v.transactions) is ∙
        ap (finished n ran) transactions ∙ ap (λ r. finished n r j.transactions) counted

    gathers : (to : GatheringState) → m.gathering ≡ to → k.gathering ≡ to
    gathers to noted = ap (λ (v : JournalState N). v.gathering) is ∙ noted

    -- A commit in its parts: its record waits, the shelves are settled, and it is finished.
    pub commit_book : (place : ℕ) → let ls = laters_of (own n j.transactions.entries) in
        IsRunning (alone j.transactions) n → Writes j (Record.Commit n) m → place ≡ m.places →
        m.gathering ≡ noted j.gathering (map (effect_at (journal_lsn j + 1)) ls) →
        ran ≡ length ls →
        ((w : Which) → Settles shelf (pick f w) n (on_quarter (rank w) ls) (pick g w)) →
        let b = book_state whole j f in let c = book_state whole k g in
        Book k g × IsServed meaning making collections (Action.Commit n) (Ok place)
        (SettlesWhole meaning making n b c) b c
    commit_book place running writes placed notes counted each =
        let ls = laters_of (own n j.transactions.entries) in
        commit_leads j k n f g book same_names place running (ends (Record.Commit n) writes)
        (placed ∙ sym (ap (λ (v : JournalState N). v.places) is)) (charges (length ls) counted)
        (gathers (noted j.gathering (map (effect_at (journal_lsn j + 1)) ls)) notes) each

    -- An end alike.
    pub ended_book : Lives j.transactions.live n → HasNoCall n j.transactions.entries →
        Writes j (Record.Ended n) m → m.gathering ≡ j.gathering → ran ≡ 0 →
        ((w : Which) → Settles shelf (pick f w) n [] (pick g w)) →
        let b = book_state whole j f in let c = book_state whole k g in
        Book k g × Serves meaning making collections (Action.Ended n) (Ok tt) b c
    ended_book lives undone writes still counted each =
        ended_leads j k n f g book same_names lives undone (ends (Record.Ended n) writes)
        (charges 0 counted) (gathers j.gathering still) each

-- What holds of each of four.
pub each_of : (P : Which → Type 0) → P First → P Second → P Third → P Fourth → (w : Which) → P w
each_of P a b c d First = a
each_of P a b c d Second = b
each_of P a b c d Third = c
each_of P a b c d Fourth = d
