-- Every step of a book leaves what holds of every book.
use Rattle.calls.specs.declared.format.Format.{Format}
use Rattle.std.proofs.Common.{◌≡◌, ℕ, ◌+◌, ◌*◌, ◌<◌, ◌≤◌, ◌^◌, ◌⊎◌, inl, inr, ◌↔◌, Contains, max}
use Rattle.std.proofs.Common.{false, None, ⊎_elim, Bool, true, Result, Ok, Err, List, []}
use Rattle.std.proofs.Common.{◌∷◌, ◌++◌, length, refl, sym, ◌∙◌, ap, subst, arith}
use Rattle.std.specs.List.{AllByRecursion}
use Rattle.std.specs.FinMap as maps
use Rattle.std.specs.Ordering.{nat_cmp}
use Rattle.calls.specs.declared.kind.Kind.{Kind}
use Rattle.calls.specs.declared.call.Call.{Call}
use Rattle.calls.specs.declared.refusal.Refusal.{Refusal}
use Rattle.calls.specs.Transactions.{Event}
use Rattle.undo_log.specs.Logs.{Lives}
use Rattle.boosted.proofs.Each.{each_append, each_back}
use Rattle.records.specs.declared.record.Record.{Record}
use Rattle.records.specs.Acts.{places}
use Rattle.records.specs.Records.{IsRecord, IsNumber}
use Rattle.records.proofs.CallRecords.{later_is_record}
use Rattle.steps.specs.Machine.{State, BeginRow, CommitRow, EndedRow, FallRow, MakeRow, CallRow}
use Rattle.steps.specs.Machine.{LaterRow, BackRow, ReadRow, UnreadRow}
use Rattle.txn.specs.Rows.{record_of, later_record}
use Rattle.txn.specs.Books.{BookState, opened, next_behind, Appends, Moves, CutAnswers, IsKept}
use Rattle.steps.specs.Machines.{IsUpheld}
use Rattle.records.specs.declared.block.Block.{Block}
use Rattle.steps.specs.Sound.{IsSound}
use Rattle.steps.proofs.LiveNumbers.{nobody, lives_more, lives_fewer}
use Rattle.steps.proofs.BookLaws.{BookLaws}
use Rattle.steps.proofs.InvariantRows.{make_names, make_upheld, begin_upheld, call_names}
use Rattle.steps.proofs.InvariantRows.{call_upheld}
use Rattle.steps.proofs.InvariantRows.{later_names, later_upheld, commit_names, commit_upheld}
use Rattle.steps.proofs.InvariantRows.{ended_upheld, fallen_lives, back_names, back_upheld}
use Rattle.steps.proofs.InvariantRows.{fall_upheld}
use Rattle.steps.proofs.InvariantRows.{resting_upheld}
use Rattle.steps.proofs.Readings.{read_upheld, unread_upheld}
use Rattle.steps.proofs.Sizes.{append_length, len_begun, len_fallen, len_left, pushed_length}
use Rattle.records.proofs.Places.{places_append, one_place}
use Rattle.boosted.specs.Meaning.{Meaning}
use Rattle.catalog.specs.Making.{Making}

-- the records of a transaction's number
begin_is_record : (n : ℕ) → IsNumber n → IsRecord None (Record.Begin n)
begin_is_record n number = let below = number.below in
    record { fits = omega arith; suits = tt; sound = number }

commit_is_record : (n : ℕ) → IsNumber n → IsRecord None (Record.Commit n)
commit_is_record n number = let below = number.below in
    record { fits = omega arith; suits = tt; sound = number }

back_is_record : (n : ℕ) → IsNumber n → IsRecord None (Record.Back n)
back_is_record n number = let below = number.below in
    record { fits = omega arith; suits = tt; sound = number }

ended_is_record : (n : ℕ) → IsNumber n → IsRecord None (Record.Ended n)
ended_is_record n number = let below = number.below in
    record { fits = omega arith; suits = tt; sound = number }

module _ {S : Type 0} (meaning : Meaning S ℕ) (making : Making S)
    (short : Format → S → Type 0) (laws : BookLaws meaning making short) where
  abbrev Sound : State S → Type 0
  Sound s = IsSound meaning making s

  abbrev Kept : BookState S → Type 0
  Kept b = IsKept meaning making short Sound b

  module _ (b : BookState S) (kept : Kept b) where
    -- what is asked of the state to which a step's record leads
    record KeepsState (t : State S) (next : ℕ) : Type 0 where
      upheld : IsUpheld meaning making short Sound t
      below : (n : ℕ) → Lives t.live n → n < next
      next_fits : (1 ≤ next) × (next ≤ 2 ^ 61)
      -- one record more is accounted for
      paid : maps.len t.live + 2 * b.state.wear + length (making.names b.state.now) + 1 ≤ maps.len
          b.state.live + 2 * t.wear + length (making.names t.now)

    keep_appended : (r : Record) (c : BookState S) → Appends b r c → IsRecord None r →
        KeepsState c.state c.next → Kept c
    keep_appended r c appends is_record keeps =
        let longer = pushed_length b.pending r in
        let room = appends.room in
        let next_is : c.next ≡ next_behind b.next r = ap (λ v. v.next) appends.is in
        subst Kept (sym appends.is) (record {
          records = each_append (IsRecord None) b.pending (r ∷ []) kept.records (is_record, tt);
          few_pending = omega arith;
          frozen = λ f there. let kept_in = kept.frozen f there in let low = kept_in.0 in
              let high = kept_in.1 in (low, omega arith);
          upheld = keeps.upheld;
          below = λ n there. subst (λ k. n < k) next_is (keeps.below n there);
          next = subst (λ k. (1 ≤ k) × (k ≤ 2 ^ 61)) next_is keeps.next_fits;
          lsns = let before = kept.lsns in let paid = keeps.paid in omega arith;
          placed = let before = kept.placed in let more = places_append b.pending (r ∷ []) in
              omega arith;
          counted = let before = kept.counted in let one = one_place r in omega arith;
        })

    -- the same where the next number stays
    keep_next : (r : Record) (c : BookState S) → Appends b r c → next_behind b.next r ≡ b.next →
        IsRecord None r →
        IsUpheld meaning making short Sound c.state →
        ((n : ℕ) → Lives c.state.live n → Lives b.state.live n) →
        maps.len c.state.live + 2 * b.state.wear + length (making.names b.state.now) + 1 ≤ maps.len
        b.state.live + 2 * c.state.wear + length (making.names c.state.now) → Kept c
    keep_next r c to stays is_record upheld lived paid =
        let same_next = ap (λ v. v.next) to.is ∙ stays in
        keep_appended r c to is_record (record {
          upheld = upheld;
          below = λ n there. let below = kept.below n (lived n there) in
              omega arith;
          next_fits = subst (λ next. (1 ≤ next) × (next ≤ 2 ^ 61)) (sym same_next) kept.next;
          paid = paid;
        })

    pub make_keeps : (name : List ℕ) (kind : Kind) (c : BookState S) →
        MakeRow making b.state name kind c.state → Appends b (Record.Make kind name) c → Kept c
    make_keeps name kind c row to =
        let same_live = ap (λ (v : State S). maps.len v.live) row.is in
        let same_wear = ap (λ (v : State S). v.wear) row.is in
        let named = make_names meaning making short laws b.state kept.upheld name kind c.state
        row in
        keep_next (Record.Make kind name) c to refl
        (record { fits = row.new.good; suits = tt; sound = tt })
        (make_upheld meaning making short laws b.state kept.upheld name kind c.state row)
        (λ n there. subst (λ (v : State S). Lives v.live n) row.is there) (omega arith)

    begun_below : (n next : ℕ) → next ≡ max b.next (n + 1) → (k : ℕ) →
        Lives (maps.insert b.state.live n false) k → k < next
    begun_below n next is k lives =
        ⊎_elim
        (λ (same : n ≡ k). omega arith)
        (λ (old : Lives b.state.live k). let below = kept.below k old in omega arith)
        ((lives_more b.state.live n false k).1 lives)

    pub enter_keeps : (n : ℕ) (c : BookState S) → BeginRow b.state n c.state →
        Appends b (Record.Begin n) c → Kept c
    enter_keeps n c row appends =
        let next_is : c.next ≡ max b.next (n + 1) = ap (λ v. v.next) appends.is in
        let more = len_begun b.state.live n row.can.fresh in
        let live = ap (λ (v : State S). maps.len v.live) row.is in
        let wear = ap (λ (v : State S). v.wear) row.is in
        let same_names = ap (λ (v : State S). length (making.names v.now)) row.is in
        let number_below = row.can.number.below in
        let low = kept.next.0 in
        let high = kept.next.1 in
        keep_appended (Record.Begin n) c appends (begin_is_record n row.can.number) (record {
          upheld = begin_upheld meaning making short laws b.state kept.upheld n c.state row;
          below = λ k there. begun_below n c.next next_is k
              (subst (λ (v : State S). Lives v.live k) row.is there);
          next_fits = (omega arith, omega arith);
          paid = omega arith;
        })

    pub call_keeps : (n : ℕ) (e : Event) (c : BookState S) → CallRow meaning b.state n e c.state →
        Appends b (record_of n e) c → IsRecord None (record_of n e) → Kept c
    call_keeps n e c row to is_record =
        let live = ap (λ (v : State S). maps.len v.live) row.is in
        let wear = ap (λ (v : State S). v.wear) row.is in
        let same_names = call_names meaning making short laws b.state kept.upheld n e c.state row in
        keep_next (record_of n e) c to refl is_record
        (call_upheld meaning making short laws b.state kept.upheld n e c.state row)
        (λ k there. subst (λ (v : State S). Lives v.live k) row.is there) (omega arith)

    pub later_keeps : (n at : ℕ) (call : Call) (c : BookState S) →
        LaterRow meaning b.state n at call c.state → Appends b (later_record n at call) c →
        at < 256 → Kept c
    later_keeps n at call c row to few =
        let live = ap (λ (v : State S). maps.len v.live) row.is in
        let wear = ap (λ (v : State S). v.wear) row.is in
        let same_names = later_names meaning making short laws b.state kept.upheld n at call c.state
        row in
        keep_next (later_record n at call) c to refl
        (later_is_record None n at call (kept.upheld.numbers n row.can.running.live) few
        row.can.deferred.1)
        (later_upheld meaning making short laws b.state kept.upheld n at call c.state row)
        (λ k there. subst (λ (v : State S). Lives v.live k) row.is there) (omega arith)

    -- a transaction is over
    left_keeps : (r : Record) (n : ℕ) (c : BookState S) → Lives b.state.live n →
        c.state.live ≡ maps.remove b.state.live n → b.state.wear ≤ c.state.wear →
        length (making.names c.state.now) ≡ length (making.names b.state.now) →
        Appends b r c → next_behind b.next r ≡ b.next → IsRecord None r →
        IsUpheld meaning making short Sound c.state → Kept c
    left_keeps r n c lives left wear same_names to stays is_record upheld =
        let fewer = len_left b.state.live n lives in
        let live = ap (λ l. maps.len l) left in
        keep_next r c to stays is_record upheld
        (λ k there. ((lives_fewer b.state.live n k).1 (subst (λ l. Lives l k) left there)).0)
        (omega arith)

    pub commit_keeps : (n : ℕ) (c : BookState S) → CommitRow meaning b.state n c.state →
        Appends b (Record.Commit n) c → Kept c
    commit_keeps n c row to =
        let wear = ap (λ (v : State S). v.wear) row.left.is in
        left_keeps (Record.Commit n) n c row.running.live (ap (λ (v : State S). v.live) row.left.is)
        (omega arith)
        (commit_names meaning making short laws b.state kept.upheld n c.state row) to refl
        (commit_is_record n (kept.upheld.numbers n row.running.live))
        (commit_upheld meaning making short laws b.state kept.upheld n c.state row)

    pub ended_keeps : (n : ℕ) (c : BookState S) → EndedRow b.state n c.state →
        Appends b (Record.Ended n) c → Kept c
    ended_keeps n c row to =
        let is = row.left.is in
        let wear = ap (λ (v : State S). v.wear) is in
        left_keeps (Record.Ended n) n c row.live (ap (λ (v : State S). v.live) is) (omega arith)
        (ap (λ (v : State S). length (making.names v.now)) is) to refl
        (ended_is_record n (kept.upheld.numbers n row.live))
        (ended_upheld meaning making short laws b.state kept.upheld n c.state row)

    pub back_keeps : (n : ℕ) (c : BookState S) → BackRow meaning b.state n c.state →
        Appends b (Record.Back n) c → Kept c
    back_keeps n c row to =
        let same_live = len_fallen b.state.live n row.live in
        let live = ap (λ (v : State S). maps.len v.live) row.is in
        let wear = ap (λ (v : State S). v.wear) row.is in
        let same_names = back_names meaning making short laws b.state kept.upheld n c.state row in
        keep_next (Record.Back n) c to refl (back_is_record n (kept.upheld.numbers n row.live))
        (back_upheld meaning making short laws b.state kept.upheld n c.state row)
        (λ k there. fallen_lives meaning making short laws b.state kept.upheld n k row.live
        (subst (λ (v : State S). Lives v.live k) row.is there)) (omega arith)

    -- a step that adds no record
    keep_moved : (c : BookState S) → Moves b c → IsUpheld meaning making short Sound c.state →
        ((n : ℕ) → Lives c.state.live n → Lives b.state.live n) →
        maps.len c.state.live ≡ maps.len b.state.live → c.state.wear ≡ b.state.wear →
        length (making.names c.state.now) ≡ length (making.names b.state.now) → Kept c
    keep_moved c is upheld lived same_live same_wear same_names =
        let before = kept.lsns in
        subst Kept (sym is) (record {
          records = kept.records;
          few_pending = kept.few_pending;
          frozen = kept.frozen;
          upheld = upheld;
          below = λ k there. kept.below k (lived k there);
          next = kept.next;
          lsns = omega arith;
          placed = kept.placed;
          counted = kept.counted;
        })

    pub fall_keeps : (n : ℕ) (c : BookState S) → FallRow b.state n c.state →
        Moves b c → Kept c
    fall_keeps n c row is =
        keep_moved c is (fall_upheld meaning making short laws b.state kept.upheld n c.state row)
        (λ k there. fallen_lives meaning making short laws b.state kept.upheld n k row.live
        (subst (λ (v : State S). Lives v.live k) row.is there))
        (ap (λ (v : State S). maps.len v.live) row.is ∙ len_fallen b.state.live n row.live)
        (ap (λ (v : State S). v.wear) row.is)
        (ap (λ (v : State S). length (making.names v.now)) row.is)

    pub read_keeps : (n : ℕ) (e : Event) (c : BookState S) → ReadRow meaning b.state n e c.state →
        Moves b c → Kept c
    read_keeps n e c row is =
        keep_moved c is (read_upheld meaning making short laws b.state kept.upheld c.state n e row)
        (λ k there. subst (λ (v : State S). Lives v.live k) row.is there)
        (ap (λ (v : State S). maps.len v.live) row.is) (ap (λ (v : State S). v.wear) row.is)
        (ap (λ (v : State S). length (making.names v.now)) row.is)

    pub unread_keeps : (n : ℕ) (c : BookState S) → UnreadRow b.state n c.state → Moves b c → Kept c
    unread_keeps n c row is =
        keep_moved c is (unread_upheld meaning making short laws b.state kept.upheld c.state n row)
        (λ k there. fallen_lives meaning making short laws b.state kept.upheld n k row.live
        (subst (λ (v : State S). Lives v.live k) row.is there))
        (ap (λ (v : State S). maps.len v.live) row.is ∙ len_fallen b.state.live n row.live)
        (ap (λ (v : State S). v.wear) row.is)
        (ap (λ (v : State S). length (making.names v.now)) row.is)

    -- The first pending records are handed over.
    pub handed_keeps : (first rest : List Record) (left : List ℕ) → b.pending ≡ first ++ rest →
        ((f : ℕ) → Contains left f → Contains b.freezes f × (b.end + length first < f)) →
        Kept (record b {
          pending = rest;
          freezes = left;
          end = b.end + length first;
          place = b.place + places first;
        })
    handed_keeps first rest left are behind =
        let parts = ap length are ∙ append_length first rest in
        let pending = kept.few_pending in
        let lsns = kept.lsns in
        let placed = kept.placed in
        let counted = kept.counted in
        let commits = ap places are ∙ places_append first rest in
        record {
          records = each_back (IsRecord None) first rest
              (subst (AllByRecursion (IsRecord None)) are kept.records);
          few_pending = omega arith;
          frozen = λ f there. let above = (behind f there).1 in
              let high = (kept.frozen f (behind f there).0).1 in (above, omega arith);
          upheld = kept.upheld;
          below = kept.below;
          next = kept.next;
          lsns = omega arith;
          placed = omega arith;
          counted = omega arith;
        }

    -- the book with other records pending, and others handed over
    with_pending : (c : BookState S) (pending : List Record) (left : List ℕ) (end place : ℕ) →
        c ≡ record b { pending = c.pending; freezes = c.freezes; end = c.end; place = c.place } →
        c.pending ≡ pending → c.freezes ≡ left → c.end ≡ end → c.place ≡ place →
        c ≡ record b { pending = pending; freezes = left; end = end; place = place }
    with_pending c pending left end place is pending_is left_is end_is place_is =
        is
        ∙ ap (λ v. record b { pending = v; freezes = c.freezes; end = c.end; place = c.place })
        pending_is
        ∙ ap (λ v. record b { pending = pending; freezes = v; end = c.end; place = c.place })
        left_is
        ∙ ap (λ v. record b { pending = pending; freezes = left; end = v; place = c.place }) end_is
        ∙ ap (λ v. record b { pending = pending; freezes = left; end = end; place = v }) place_is

    pub cut_keeps : (sends : List Block → Type 0) (full : Type 0) (result : Result Bool Refusal)
        (c : BookState S) → CutAnswers b sends full result c → Kept c
    cut_keeps sends full (Ok true) c cut =
        let hands = cut.0.2 in
        subst Kept (sym (with_pending c c.pending c.freezes (b.end + length hands.first)
        (b.place + places hands.first) cut.1 refl refl (cut.0.3 ∙ hands.ends)
        (cut.0.4 ∙ hands.commits)))
        (handed_keeps hands.first c.pending c.freezes hands.are
        (λ f there. let left = (cut.0.5 f).0 there in let behind = left.1 in
        let end = hands.ends in (left.0, omega arith)))
    cut_keeps sends full (Ok false) c cut =
        subst Kept (sym (with_pending c b.pending b.freezes b.end b.place cut.1 cut.0.2 cut.0.5
        cut.0.3 cut.0.4)) kept
    cut_keeps sends full (Err Refusal.NotNow) c cut =
        subst Kept (sym (with_pending c b.pending b.freezes b.end b.place cut.1 cut.0.2 cut.0.5
        cut.0.3 cut.0.4)) kept
    cut_keeps sends full (Err other) c cut = absurd cut.0

    -- A freeze leaves all but that one may stand behind the records that wait, and what is noted.
    pub freeze_keeps : (c : BookState S) →
        c ≡ record b { freezes = c.freezes; gathering = c.gathering } →
        ((f : ℕ) → Contains c.freezes f ↔
        (Contains b.freezes f ⊎ ((f ≡ b.end + length b.pending) × (0 < length b.pending)))) → Kept c
    freeze_keeps c is stands =
        subst Kept (sym is) (record {
          records = kept.records;
          few_pending = kept.few_pending;
          frozen = λ f there. elim ((stands f).0 there) [
            | inl before ↦ kept.frozen f before
            | inr now ↦ let at = now.0 in let some = now.1 in
                (omega arith, omega arith)
          ];
          upheld = kept.upheld;
          below = kept.below;
          next = kept.next;
          lsns = kept.lsns;
          placed = kept.placed;
          counted = kept.counted;
        })

  -- A book that was opened.
  pub opened_kept : (format : Format) (now : S) (next wear : ℕ) → meaning.within now wear →
      wear ≤ 2 ^ 61 + 65536 →
      (1 ≤ next) × (next ≤ 2 ^ 61) → length (making.names now) ≤ 256 → short format now →
      Kept (opened format now next wear)
  opened_kept format now next wear reached unworn fits few spells =
      let none = maps.len-empty nat_cmp Bool in
      record {
        records = tt;
        few_pending = omega arith;
        frozen = λ f there. let none = there.1 in absurd (omega arith);
        upheld = resting_upheld meaning making short laws format now wear reached unworn few spells;
        below = λ n lives. absurd (nobody n lives);
        next = fits;
        lsns = omega arith;
        placed = omega arith;
        counted = omega arith;
      }
