-- What a book does is a row of its histories.
use Rattle.std.proofs.Common.{◌≡◌, ℕ, ◌+◌, true, false, Bool, Some, None, Result, Ok, Err, List}
use Rattle.std.proofs.Common.{[], ◌∷◌, ◌++◌, length, refl, sym, ◌∙◌, ap, ◌⊎◌, inl, inr}
use Rattle.std.proofs.Common.{subst, cond}
use Rattle.std.proofs.lemmas.List.{append-nil}
use Rattle.calls.specs.declared.call.Call.{Call}
use Rattle.calls.specs.declared.reply.Reply.{Reply}
use Rattle.calls.specs.declared.refusal.Refusal.{Refusal}
use Rattle.calls.specs.declared.when.When.{When}
use Rattle.calls.specs.Reads.{reads}
use Rattle.calls.specs.Transactions.{Leads, Event, Entry}
use Rattle.undo_log.specs.Entries.{IsNewestCall}
use Rattle.boosted.specs.Meaning.{Meaning}
use Rattle.catalog.specs.Making.{Making}
use Rattle.records.specs.declared.record.Record.{Record}
use Rattle.records.specs.Acts.{places}
use Rattle.steps.specs.Machine.{Steps, journalled}
use Rattle.steps.proofs.Journalled.{GoesUnheard, fall_unheard, read_unheard, unread_unheard}
use Rattle.steps.proofs.Journalled.{make_told, begin_told, call_told, later_told, commit_told}
use Rattle.steps.proofs.Journalled.{back_told, ended_told}
use Rattle.steps.proofs.Sizes.{append_length, pushed_length}
use Rattle.records.specs.declared.block.Block.{Block}
use Rattle.txn.specs.declared.actions.Action.{Action}
use Rattle.txn.specs.declared.actions.Target.{Target}
use Rattle.txn.specs.Rows.{IsMade, IsUndone, AskAnswers, NotFound, record_of, later_record}
use Rattle.txn.specs.Books.{BookState, standing, Appends, Moves, Takes, CutAnswers}
use Rattle.txn.specs.Histories.{Adds, Shifts, CutRow, Row, LiveCalls, unless_read, back_records}
use Rattle.txn.specs.Histories.{records_of_action}
use Rattle.txn.proofs.LiveCalls.{AreShown, newest_shown}

module _ {S : Type 0} (meaning : Meaning S ℕ) (making : Making S) (b c : BookState S) where
  adds : (r : Record) → Appends b r c → Adds (standing b) r (standing c)
  adds r appends = record {
    room = appends.room;
    is = ap standing appends.is ∙ ap (λ n. record {
      state = c.state;
      pending = n;
      places = b.places + places (r ∷ []);
    }) (pushed_length b.pending r);
  }

  made : (only_reads : Bool) (n : ℕ) (e : Event) →
      IsMade meaning making standing Appends Moves only_reads b n e c →
      IsMade meaning making (λ v. v) Adds Shifts only_reads (standing b) n e (standing c)
  made true n e takes = (takes.0, takes.1, ap standing takes.2)
  made false n e takes = (takes.0, adds _ takes.1)

  undone : (n : ℕ) → IsUndone meaning making standing Appends Moves b n c →
      IsUndone meaning making (λ v. v) Adds Shifts (standing b) n (standing c)
  undone n (inl written) = inl (written.0, adds _ written.1)
  undone n (inr unread) = inr (unread.0, unread.1, ap standing unread.2)

  asked : (n p : ℕ) (call : Call) (when : When) (a : Result Reply Refusal) →
      AskAnswers meaning making standing Appends Moves b n p call when a c →
      AskAnswers meaning making (λ v. v) Adds Shifts (standing b) n p call when a (standing c)
  asked n p call When.Now (Ok reply) takes =
      (made (reads call reply) n (record { at = p; call = call; reply = reply }) takes.0, takes.1)
  asked n p call When.AtCommit (Ok reply) takes =
      ((takes.0.0, adds _ takes.0.1, takes.0.2), takes.1)
  asked n p call when (Err e) takes = (ap standing takes.0, takes.1)

  not_found : (name : List ℕ) (a : Result Reply Refusal) →
      NotFound meaning making standing Appends Moves b name a c →
      NotFound meaning making (λ v. v) Adds Shifts (standing b) name a (standing c)
  not_found name (Ok done) takes = takes
  not_found name (Err e) takes = (ap standing takes.0, takes.1)

  -- What a book does is a row of its histories.
  pub taken : (action : Action) → Takes meaning making b action c →
      Row meaning making (standing b) action (standing c)
  taken (Action.Make name kind (Ok place)) takes = (takes.0, adds _ takes.1, takes.2)
  taken (Action.Make name kind (Err e)) takes = (ap standing takes.0, takes.1)
  taken (Action.Enter n (Ok done)) takes = (takes.0, takes.1, adds _ takes.2)
  taken (Action.Enter n (Err e)) takes = (ap standing takes.0, takes.1)
  taken (Action.Ask n (Target.Number p) call when a) takes = asked n p call when a takes
  taken (Action.Ask n (Target.Named name (Some p)) call when a) takes =
      (takes.0, asked n p call when a takes.1)
  taken (Action.Ask n (Target.Named name None) call when a) takes = not_found name a takes
  taken (Action.Commit n (Ok place)) takes = (takes.0, adds _ takes.1, takes.2)
  taken (Action.Commit n (Err e)) takes = (ap standing takes.0, takes.1)
  taken (Action.Back n (Ok true)) takes = undone n takes
  taken (Action.Back n (Ok false)) takes = (takes.0, takes.1, ap standing takes.2)
  taken (Action.Back n (Err e)) takes = (ap standing takes.0, takes.1)
  taken (Action.Ended n (Ok done)) takes = (takes.0, adds _ takes.1)
  taken (Action.Ended n (Err e)) takes = (ap standing takes.0, takes.1)
  taken (Action.Cut count a) takes = absurd takes
  taken (Action.Gather a) takes = absurd takes
  taken (Action.Freeze a) takes = absurd takes

  -- A block that is cut off is a row of them, with the number of its records.
  pub cut_taken : (sends : List Block → Type 0) (full : Type 0) (a : Result Bool Refusal) →
      CutAnswers b sends full a c → (count : ℕ) × CutRow (standing b) count a (standing c)
  cut_taken sends full (Ok true) cut =
      let hands = cut.0.2 in
      let parts = ap length hands.are ∙ append_length hands.first c.pending in
      (length hands.first, (hands.some, parts, ap standing cut.1))
  cut_taken sends full (Ok false) cut = (
    0,
    (
      refl,
      ap length cut.0.0,
      ap standing cut.1 ∙
          ap (λ l. record { state = b.state; pending = length l; places = b.places }) cut.0.2,
    ),
  )
  cut_taken sends full (Err Refusal.NotNow) cut = (
    0,
    (
      refl,
      ap standing cut.1 ∙
          ap (λ l. record { state = b.state; pending = length l; places = b.places }) cut.0.2,
    ),
  )
  cut_taken sends full (Err e) cut = absurd cut.0

-- What a step of a book leaves besides what histories speak of: its records wait behind the others,
-- and lead on what a journal tells of the state; or the step goes unheard.
pub record IsTaken {S : Type 0} (meaning : Meaning S ℕ) (making : Making S) (b : BookState S)
    (rs : List Record) (c : BookState S) : Type 0 where
  pub pending : c.pending ≡ b.pending ++ rs
  pub freezes : c.freezes ≡ b.freezes
  pub end : c.end ≡ b.end
  pub place : c.place ≡ b.place
  pub leads : Leads (Steps meaning making) rs (journalled b.state) (journalled c.state) ⊎
      ((rs ≡ []) × GoesUnheard (journalled b.state) (journalled c.state))

module _ {S : Type 0} (meaning : Meaning S ℕ) (making : Making S) (b c : BookState S) where
  same : c ≡ b → IsTaken meaning making b [] c
  same is = record {
    pending = ap (λ v. v.pending) is ∙ sym (append-nil b.pending);
    freezes = ap (λ v. v.freezes) is;
    end = ap (λ v. v.end) is;
    place = ap (λ v. v.place) is;
    leads = inl (ap (λ (v : BookState S). journalled v.state) (sym is));
  }

  one_more : (r : Record) → Steps meaning making (journalled b.state) r (journalled c.state) →
      Appends b r c → IsTaken meaning making b (r ∷ []) c
  one_more r row appends = record {
    pending = ap (λ v. v.pending) appends.is;
    freezes = ap (λ v. v.freezes) appends.is;
    end = ap (λ v. v.end) appends.is;
    place = ap (λ v. v.place) appends.is;
    leads = inl (journalled c.state, row, refl);
  }

  none_more : Moves b c → GoesUnheard (journalled b.state) (journalled c.state) →
      IsTaken meaning making b [] c
  none_more is unheard = record {
    pending = ap (λ v. v.pending) is ∙ sym (append-nil b.pending);
    freezes = ap (λ v. v.freezes) is;
    end = ap (λ v. v.end) is;
    place = ap (λ v. v.place) is;
    leads = inr (refl, unheard);
  }

  -- the records of a call, or of its undoing, by whether it only reads
  read_or : (only_reads : Bool) (e : Event) (r : Record) → reads e.call e.reply ≡ only_reads →
      IsTaken meaning making b (cond only_reads [] (r ∷ [])) c →
      IsTaken meaning making b (unless_read e r) c
  read_or only_reads e r is taken =
      subst (λ x. IsTaken meaning making b (cond x [] (r ∷ [])) c) (sym is) taken

  call_by : (only_reads : Bool) (n : ℕ) (e : Event) → reads e.call e.reply ≡ only_reads →
      IsMade meaning making standing Appends Moves only_reads b n e c →
      IsTaken meaning making b (unless_read e (record_of n e)) c
  call_by true n e is made =
      read_or true e (record_of n e) is
      (none_more made.2 (read_unheard meaning b.state c.state n e made.0))
  call_by false n e is made =
      read_or false e (record_of n e) is
      (one_more (record_of n e) (call_told meaning making b.state c.state n e is made.0) made.1)

  -- The newest call is undone, which is the first of those that steps show.
  module _ (live : LiveCalls) (shown : AreShown live b.state.entries) (n : ℕ) where
    back_by : (x : Event) (rest : List (ℕ × Entry)) → IsNewestCall n b.state.entries x rest →
        IsTaken meaning making b (unless_read x (Record.Back n)) c →
        IsTaken meaning making b (back_records n (live n)) c
    back_by x rest new taken =
        subst (λ es. IsTaken meaning making b (back_records n es) c)
        (sym (shown n ∙ newest_shown n b.state.entries x rest new)) taken

    undone_leaves : IsUndone meaning making standing Appends Moves b n c →
        IsTaken meaning making b (back_records n (live n)) c
    undone_leaves (inl (written, appends)) =
        let row = written.back in
        back_by row.call row.rest row.newest
        (read_or false row.call (Record.Back n) written.written
        (one_more (Record.Back n) (back_told meaning making b.state c.state n written) appends))
    undone_leaves (inr (row, room, moves)) =
        back_by row.call row.rest row.newest
        (read_or true row.call (Record.Back n) row.only_reads
        (none_more moves (unread_unheard b.state c.state n row)))

  asked_leaves : (live : LiveCalls) (n p : ℕ) (call : Call) (when : When)
      (a : Result Reply Refusal) →
      AskAnswers meaning making standing Appends Moves b n p call when a c →
      IsTaken meaning making b (records_of_action live (Action.Ask n (Target.Number p) call when a))
      c
  asked_leaves live n p call When.Now (Ok reply) takes =
      call_by (reads call reply) n (record { at = p; call = call; reply = reply }) refl takes.0
  asked_leaves live n p call When.AtCommit (Ok reply) takes = one_more (later_record n p call)
      (later_told meaning making b.state c.state n p call takes.0.0) takes.0.1
  asked_leaves live n p call when (Err e) takes = same takes.0

  pub leaves : (live : LiveCalls) → AreShown live b.state.entries → (action : Action) →
      Takes meaning making b action c →
      IsTaken meaning making b (records_of_action live action) c
  leaves live shown (Action.Make name kind (Ok place)) takes = one_more (Record.Make kind name)
      (make_told meaning making b.state c.state name kind takes.0) takes.1
  leaves live shown (Action.Make name kind (Err e)) takes = same takes.0
  leaves live shown (Action.Enter n (Ok done)) takes = one_more (Record.Begin n)
      (begin_told meaning making b.state c.state n takes.0) takes.2
  leaves live shown (Action.Enter n (Err e)) takes = same takes.0
  leaves live shown (Action.Ask n (Target.Number p) call when a) takes =
      asked_leaves live n p call when a takes
  leaves live shown (Action.Ask n (Target.Named name (Some p)) call when (Ok reply)) takes =
      asked_leaves live n p call when (Ok reply) takes.1
  leaves live shown (Action.Ask n (Target.Named name (Some p)) call when (Err e)) takes =
      same takes.1.0
  leaves live shown (Action.Ask n (Target.Named name None) call when (Ok reply)) takes =
      absurd takes
  leaves live shown (Action.Ask n (Target.Named name None) call when (Err e)) takes = same takes.0
  leaves live shown (Action.Commit n (Ok place)) takes = one_more (Record.Commit n)
      (commit_told meaning making b.state c.state n takes.0) takes.1
  leaves live shown (Action.Commit n (Err e)) takes = same takes.0
  leaves live shown (Action.Back n (Ok true)) takes = undone_leaves live shown n takes
  leaves live shown (Action.Back n (Ok false)) takes =
      none_more takes.2 (fall_unheard b.state c.state n takes.0)
  leaves live shown (Action.Back n (Err e)) takes = same takes.0
  leaves live shown (Action.Ended n (Ok done)) takes = one_more (Record.Ended n)
      (ended_told meaning making b.state c.state n takes.0) takes.1
  leaves live shown (Action.Ended n (Err e)) takes = same takes.0
  leaves live shown (Action.Cut count a) takes = absurd takes
  leaves live shown (Action.Gather a) takes = absurd takes
  leaves live shown (Action.Freeze a) takes = absurd takes
