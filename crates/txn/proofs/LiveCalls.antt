-- The calls that steps show are those of the state to which they lead.
use Rattle.calls.specs.declared.format.Format.{Format}
use Rattle.std.proofs.Common.{◌≡◌, ℕ, ◌==◌, ⊎_elim, Bool, true, false, Some, None, Result}
use Rattle.std.proofs.Common.{Ok, Err, List, [], ◌∷◌, ◌++◌, map, drop, cond, reverse, refl, sym}
use Rattle.std.proofs.Common.{◌∙◌}
use Rattle.std.proofs.Common.{ap, subst, inl, inr}
use Rattle.std.specs.List.{filter}
use Rattle.std.proofs.lemmas.Bool.{cases_eq, eq-eqb}
use Rattle.std.proofs.lemmas.List.{append-nil, reverse-append}
use Rattle.calls.specs.declared.call.Call.{Call}
use Rattle.calls.specs.declared.reply.Reply.{Reply}
use Rattle.calls.specs.declared.refusal.Refusal.{Refusal}
use Rattle.calls.specs.declared.when.When.{When}
use Rattle.calls.specs.Reads.{reads}
use Rattle.calls.specs.Transactions.{Event, Entry, Asked, Deferred, own, others, calls_of}
use Rattle.boosted.specs.Meaning.{Meaning}
use Rattle.catalog.specs.Making.{Making}
use Rattle.undo_log.specs.Entries.{IsNewestCall}
use Rattle.steps.specs.Machine.{State}
use Rattle.steps.proofs.JoinedEntries.{own_append, calls_append}
use Rattle.steps.proofs.RecordRuns.{own_of_others, own_of_its_others, own_of_rest}
use Rattle.steps.proofs.Theory.Lists.{not_same}
use Rattle.txn.specs.declared.actions.Action.{Action}
use Rattle.txn.specs.declared.actions.BookStep.{BookStep}
use Rattle.txn.specs.declared.actions.Target.{Target}
use Rattle.txn.specs.Rows.{Standing, IsMade, IsUndone, IsDeferred, AskAnswers, NotFound, opening}
use Rattle.txn.specs.Histories.{LiveCalls, with_calls, shows, shown_by, no_calls, Adds, Shifts, Row}
use Rattle.txn.specs.Histories.{IsLegal}

-- the calls of a number, the newest first
abbrev newest_first : ℕ → List (ℕ × Entry) → List Event
newest_first n es = reverse (calls_of (own n es))

-- The calls are those of the entries, number by number.
abbrev pub AreShown : LiveCalls → List (ℕ × Entry) → Type 0
AreShown live es = (n : ℕ) → live n ≡ newest_first n es

-- one number has other calls
module _ (live : LiveCalls) (n : ℕ) (calls : List Event) (es fs : List (ℕ × Entry))
    (shown : AreShown live es) (mine : calls ≡ newest_first n fs)
    (theirs : (k : ℕ) → (k ≡ n → ⊥) → calls_of (own k fs) ≡ calls_of (own k es)) where
  with_shown : AreShown (with_calls live n calls) fs
  with_shown k =
      ⊎_elim
      (λ (same : k ≡ n). ap (λ b. cond b calls (live k)) (eq-eqb k n same) ∙ mine ∙
      ap (λ j. newest_first j fs) (sym same))
      (λ (other : k ≡ n → ⊥). ap (λ b. cond b calls (live k)) (not_same k n other) ∙ shown k ∙
      ap reverse (sym (theirs k other)))
      (cases_eq k n)

-- the entries of one number behind the others
pushed_own : (n : ℕ) (x : Entry) (es : List (ℕ × Entry)) →
    own n (es ++ (n, x) ∷ []) ≡ own n es ++ x ∷ []
pushed_own n x es = own_append n es ((n, x) ∷ []) ∙
    ap (λ b. own n es ++ map (λ (e : ℕ × Entry). e.1) (cond b ((n, x) ∷ []) [])) (eq-eqb n n refl)

pushed_other : (n k : ℕ) (x : Entry) (es : List (ℕ × Entry)) → (k ≡ n → ⊥) →
    own k (es ++ (n, x) ∷ []) ≡ own k es
pushed_other n k x es other = own_append k es ((n, x) ∷ []) ∙
    ap (λ b. own k es ++ map (λ (e : ℕ × Entry). e.1) (cond b ((n, x) ∷ []) []))
    (not_same n k (λ same. other (sym same))) ∙ append-nil (own k es)

module _ (live : LiveCalls) (es : List (ℕ × Entry)) (shown : AreShown live es) (n : ℕ) where
  -- a call more
  asked_shown : (e : Event) → AreShown (with_calls live n (e ∷ live n)) (es ++ (n, Asked e) ∷ [])
  asked_shown e =
      with_shown live n (e ∷ live n) es (es ++ (n, Asked e) ∷ []) shown
      (ap (λ l. e ∷ l) (shown n) ∙ sym (reverse-append (calls_of (own n es)) (e ∷ [])) ∙
      ap reverse (sym (ap calls_of (pushed_own n (Asked e) es) ∙
      calls_append (own n es) (Asked e ∷ []))))
      (λ k other. ap calls_of (pushed_other n k (Asked e) es other))

  -- one that is deferred
  deferred_shown : (at : ℕ) (call : Call) → AreShown live (es ++ (n, Deferred at call) ∷ [])
  deferred_shown at call k =
      ⊎_elim
      (λ (same : k ≡ n). subst (λ j. live j ≡ newest_first j (es ++ (n, Deferred at call) ∷ []))
      (sym same) (shown n ∙ ap reverse (sym (ap calls_of (pushed_own n (Deferred at call) es) ∙
      calls_append (own n es) (Deferred at call ∷ []) ∙ append-nil (calls_of (own n es))))))
      (λ (other : k ≡ n → ⊥). shown k ∙
      ap (λ l. reverse (calls_of l)) (sym (pushed_other n k (Deferred at call) es other)))
      (cases_eq k n)

  -- the number's entries go
  left_shown : AreShown (with_calls live n []) (others n es)
  left_shown =
      with_shown live n [] es (others n es) shown
      (ap (λ l. reverse (calls_of l)) (sym (own_of_its_others n es)))
      (λ k other. ap calls_of (own_of_others n k es other))

-- The newest call is the first, and the others come behind it.
module _ (n : ℕ) (es : List (ℕ × Entry)) (x : Event) (rest : List (ℕ × Entry))
    (new : IsNewestCall n es x rest) where
  first_own : own n ((n, Asked x) ∷ new.after) ≡ Asked x ∷ own n new.after
  first_own = let mine = filter (λ (e : ℕ × Entry). e.0 == n) new.after in
      ap (λ b. map (λ (e : ℕ × Entry). e.1) (cond b ((n, Asked x) ∷ mine) mine)) (eq-eqb n n refl)

  all_calls : calls_of (own n es) ≡ calls_of (own n new.before) ++ x ∷ []
  all_calls = ap (λ l. calls_of (own n l)) new.is ∙
      ap calls_of (own_append n new.before ((n, Asked x) ∷ new.after)) ∙
      calls_append (own n new.before) (own n ((n, Asked x) ∷ new.after)) ∙
      ap (λ l. calls_of (own n new.before) ++ calls_of l) first_own ∙
      ap (λ l. calls_of (own n new.before) ++ x ∷ l) new.none_newer

  rest_calls : calls_of (own n rest) ≡ calls_of (own n new.before)
  rest_calls = ap (λ l. calls_of (own n l)) new.rest_is ∙
      ap calls_of (own_append n new.before new.after) ∙
      calls_append (own n new.before) (own n new.after) ∙
      ap (λ l. calls_of (own n new.before) ++ l) new.none_newer ∙
      append-nil (calls_of (own n new.before))

  pub newest_shown : newest_first n es ≡ x ∷ newest_first n rest
  newest_shown = ap reverse all_calls ∙ reverse-append (calls_of (own n new.before)) (x ∷ []) ∙
      ap (λ l. x ∷ reverse l) (sym rest_calls)

  rest_others : (k : ℕ) → (k ≡ n → ⊥) → own k rest ≡ own k es
  rest_others k other = ap (own k) new.rest_is ∙
      sym (own_of_rest k new.before (n, Asked x) new.after (λ same. other (sym same))) ∙
      ap (own k) (sym new.is)

  back_shown : (live : LiveCalls) → AreShown live es →
      AreShown (with_calls live n (drop 1 (live n))) rest
  back_shown live shown =
      with_shown live n (drop 1 (live n)) es rest shown
      (ap (drop 1) (shown n ∙ newest_shown)) (λ k other. ap calls_of (rest_others k other))

-- ---- step by step

module _ {S : Type 0} (meaning : Meaning S ℕ) (making : Making S) (live : LiveCalls)
    (b c : Standing S) (shown : AreShown live b.state.entries) where
  abbrev Shown : LiveCalls → Type 0
  Shown after = AreShown after c.state.entries

  unchanged : c.state.entries ≡ b.state.entries → Shown live
  unchanged is = subst (AreShown live) (sym is) shown

  stays : c ≡ b → Shown live
  stays is = unchanged (ap (λ (v : Standing S). v.state.entries) is)

  called : (n : ℕ) (e : Event) → c.state.entries ≡ b.state.entries ++ (n, Asked e) ∷ [] →
      Shown (with_calls live n (e ∷ live n))
  called n e is = subst (AreShown (with_calls live n (e ∷ live n))) (sym is)
      (asked_shown live b.state.entries shown n e)

  made : (only_reads : Bool) (n : ℕ) (e : Event) →
      IsMade meaning making (λ v. v) Adds Shifts only_reads b n e c →
      Shown (with_calls live n (e ∷ live n))
  made true n e row = called n e (ap (λ (v : State S). v.entries) row.0.is)
  made false n e row = called n e (ap (λ (v : State S). v.entries) row.0.is)

  undone : (n : ℕ) → IsUndone meaning making (λ v. v) Adds Shifts b n c →
      Shown (with_calls live n (drop 1 (live n)))
  undone n (inl written) =
      let row = written.0.back in
      subst (AreShown (with_calls live n (drop 1 (live n))))
      (sym (ap (λ (v : State S). v.entries) row.is))
      (back_shown n b.state.entries row.call row.rest row.newest live shown)
  undone n (inr unread) =
      let row = unread.0 in
      subst (AreShown (with_calls live n (drop 1 (live n))))
      (sym (ap (λ (v : State S). v.entries) row.is))
      (back_shown n b.state.entries row.call row.rest row.newest live shown)

  left : (n : ℕ) → c.state.entries ≡ others n b.state.entries → Shown (with_calls live n [])
  left n is = subst (AreShown (with_calls live n [])) (sym is)
      (left_shown live b.state.entries shown n)

  deferred : (n : ℕ) (e : Event) → IsDeferred meaning making (λ v. v) Adds Shifts b n e c →
      Shown live
  deferred n e row = subst (AreShown live) (sym (ap (λ (v : State S). v.entries) row.0.is))
      (deferred_shown live b.state.entries shown n e.at e.call)

  asked : (n p : ℕ) (call : Call) (when : When) (a : Result Reply Refusal) →
      AskAnswers meaning making (λ v. v) Adds Shifts b n p call when a c →
      Shown (shows live (Action.Ask n (Target.Number p) call when a))
  asked n p call When.Now (Ok reply) row =
      made (reads call reply) n (record { at = p; call = call; reply = reply }) row.0
  asked n p call When.AtCommit (Ok reply) row =
      deferred n (record { at = p; call = call; reply = reply }) row.0
  asked n p call When.Now (Err e) row = stays row.0
  asked n p call When.AtCommit (Err e) row = stays row.0

  not_found : (n : ℕ) (name : List ℕ) (call : Call) (when : When) (a : Result Reply Refusal) →
      NotFound meaning making (λ v. v) Adds Shifts b name a c →
      Shown (shows live (Action.Ask n (Target.Named name None) call when a))
  not_found n name call when (Ok reply) row = absurd row
  not_found n name call When.Now (Err e) row = stays row.0
  not_found n name call When.AtCommit (Err e) row = stays row.0

  one_shown : (action : Action) → Row meaning making b action c → Shown (shows live action)
  one_shown (Action.Make name kind (Ok place)) row =
      unchanged (ap (λ (v : State S). v.entries) row.0.is)
  one_shown (Action.Make name kind (Err e)) row = stays row.0
  one_shown (Action.Enter n (Ok done)) row = unchanged (ap (λ (v : State S). v.entries) row.0.is)
  one_shown (Action.Enter n (Err e)) row = stays row.0
  one_shown (Action.Ask n (Target.Number p) call when a) row = asked n p call when a row
  one_shown (Action.Ask n (Target.Named name (Some p)) call When.Now (Ok reply)) row =
      asked n p call When.Now (Ok reply) row.1
  one_shown (Action.Ask n (Target.Named name (Some p)) call When.Now (Err e)) row = stays row.1.0
  one_shown (Action.Ask n (Target.Named name (Some p)) call When.AtCommit (Ok reply)) row =
      asked n p call When.AtCommit (Ok reply) row.1
  one_shown (Action.Ask n (Target.Named name (Some p)) call When.AtCommit (Err e)) row =
      stays row.1.0
  one_shown (Action.Ask n (Target.Named name None) call when a) row =
      not_found n name call when a row
  one_shown (Action.Commit n (Ok place)) row =
      left n (ap (λ (v : State S). v.entries) row.0.left.is)
  one_shown (Action.Commit n (Err e)) row = stays row.0
  one_shown (Action.Back n (Ok true)) row = undone n row
  one_shown (Action.Back n (Ok false)) row =
      unchanged (ap (λ (v : State S). v.entries) row.0.is)
  one_shown (Action.Back n (Err e)) row = stays row.0
  one_shown (Action.Ended n (Ok done)) row =
      left n (ap (λ (v : State S). v.entries) row.0.left.is)
  one_shown (Action.Ended n (Err e)) row = stays row.0
  one_shown (Action.Cut count (Ok true)) row =
      unchanged (ap (λ (v : Standing S). v.state.entries) row.2)
  one_shown (Action.Cut count (Ok false)) row = stays row.2
  one_shown (Action.Cut count (Err e)) row = stays row.1
  one_shown (Action.Gather a) row = stays row
  one_shown (Action.Freeze a) row = stays row

-- The calls that a history shows are those of the state to which it leads.
all_shown : {S : Type 0} (meaning : Meaning S ℕ) (making : Making S) (steps : List BookStep)
    (live : LiveCalls) (b c : Standing S) → AreShown live b.state.entries →
    IsLegal meaning making b steps c → AreShown (shown_by live steps) c.state.entries
all_shown meaning making [] live b c shown legal =
    subst (λ (v : Standing _). AreShown live v.state.entries) legal shown
all_shown meaning making (x ∷ steps) live b c shown legal =
    all_shown meaning making steps (shows live x.action) legal.0 c
    (one_shown meaning making live b legal.0 shown x.action legal.1) legal.2

pub history_shown : {S : Type 0} (meaning : Meaning S ℕ) (making : Making S) (format : Format)
    (start : S) (wear : ℕ)
    (steps : List BookStep) (c : Standing S) →
    IsLegal meaning making (opening format start wear) steps c →
    AreShown (shown_by no_calls steps) c.state.entries
history_shown meaning making format start wear steps c legal =
    all_shown meaning making steps no_calls (opening format start wear) c (λ n. refl) legal
