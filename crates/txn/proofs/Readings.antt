-- The records of steps commit the transactions of the steps without their calls that only read.
use Rattle.std.proofs.Common.{◌≡◌, ℕ, Bool, true, false, not, cond, Some, None, Ok, List, []}
use Rattle.std.proofs.Common.{◌∷◌, ◌++◌, map, refl, sym, ◌∙◌, ap}
use Rattle.std.specs.List.{filter, flat_map}
use Rattle.std.proofs.lemmas.Grind.{flat_map-append}
use Rattle.std.proofs.lemmas.List.Elements.{filter-append}
use Rattle.calls.specs.declared.when.When.{When}
use Rattle.calls.specs.Reads.{reads, is_journalled, without_reads}
use Rattle.calls.specs.Transactions.{Event, Entry, Asked, Whole, Made, Act}
use Rattle.calls.specs.Transactions.{Begins, Asks, Commits, Creates, committed_after, committed}
use Rattle.records.specs.declared.record.Record.{Record}
use Rattle.records.specs.Acts.{acts_of_record, acts_of}
use Rattle.steps.specs.Machine.{journalled_entries}
use Rattle.steps.proofs.Journalled.{own_journalled, others_journalled, push_entry}
use Rattle.txn.specs.declared.actions.Action.{Action}
use Rattle.txn.specs.declared.actions.BookStep.{BookStep}
use Rattle.txn.specs.declared.actions.Target.{Target}
use Rattle.txn.specs.Rows.{record_of}
use Rattle.txn.specs.Histories.{entry_of, acts_of_action, committed_by, LiveCalls, shows, no_calls}
use Rattle.txn.specs.Histories.{asked_records, back_records, records_of_action, records_after}
use Rattle.txn.specs.Histories.{records_by}

-- ---- what steps say, and what their records say

abbrev is_told : Act → Bool
is_told (Asks n e) = is_journalled e
is_told (Begins n) = true
is_told (Commits n) = true
is_told (Creates name kind) = true

call_acts : (b : Bool) (n : ℕ) (e : Event) → reads e.call e.reply ≡ b →
    acts_of (cond b [] (record_of n e ∷ [])) ≡ filter is_told (Asks n (Asked e) ∷ [])
call_acts true n e is = ap (λ b. cond (not b) (Asks n (Asked e) ∷ []) []) (sym is)
call_acts false n e is = ap (λ b. cond (not b) (Asks n (Asked e) ∷ []) []) (sym is)

asked_acts : (when : When) (n : ℕ) (e : Event) →
    acts_of (asked_records when n e) ≡ filter is_told (Asks n (entry_of when e) ∷ [])
asked_acts When.Now n e = call_acts (reads e.call e.reply) n e refl
asked_acts When.AtCommit n e = refl

back_acts : (n : ℕ) (es : List Event) → acts_of (back_records n es) ≡ []
back_acts n [] = refl
back_acts n (e ∷ es) = by (reads e.call e.reply)
  where
    by : (b : Bool) → acts_of (cond b [] (Record.Back n ∷ [])) ≡ []
    by true = refl
    by false = refl

-- The records of a step say of transactions what the step says, but for what only reads.
action_acts : (live : LiveCalls) (a : Action) →
    acts_of (records_of_action live a) ≡ filter is_told (acts_of_action a)
action_acts live (Action.Make name kind (Ok place)) = refl
action_acts live (Action.Enter n (Ok done)) = refl
action_acts live (Action.Ask n (Target.Number p) call when (Ok reply)) =
    asked_acts when n (record { at = p; call = call; reply = reply })
action_acts live (Action.Ask n (Target.Named name (Some p)) call when (Ok reply)) =
    asked_acts when n (record { at = p; call = call; reply = reply })
action_acts live (Action.Ask n (Target.Named name None) call when (Ok reply)) = refl
action_acts live (Action.Commit n (Ok place)) = refl
action_acts live (Action.Back n (Ok true)) = back_acts n (live n)
action_acts live (Action.Ended n (Ok done)) = refl
action_acts live a = refl

acts_after : (live : LiveCalls) (steps : List BookStep) → acts_of (records_after live steps) ≡
    filter is_told (flat_map (λ x. acts_of_action x.action) steps)
acts_after live [] = refl
acts_after live (x ∷ steps) =
    let acts = acts_of_action x.action in
    let rest = flat_map (λ y. acts_of_action y.action) steps in
    flat_map-append acts_of_record (records_of_action live x.action)
    (records_after (shows live x.action) steps) ∙
    (λ i. action_acts live x.action i ++ acts_after (shows live x.action) steps i) ∙
    sym (filter-append is_told acts rest)

-- ---- what acts commit, without those that only read

asked_commits : (b : Bool) (es : List (ℕ × Entry)) (n : ℕ) (e : Entry) (acts : List Act) →
    is_journalled e ≡ b →
    committed_after (journalled_entries es) (cond b (Asks n e ∷ acts) acts) ≡
    committed_after (journalled_entries (es ++ (n, e) ∷ [])) acts
asked_commits true es n e acts is =
    ap (λ l. committed_after l acts) (sym (push_entry es n e true is))
asked_commits false es n e acts is =
    ap (λ l. committed_after l acts) (sym (push_entry es n e false is))

commits_told : (acts : List Act) (es : List (ℕ × Entry)) →
    committed_after (journalled_entries es) (filter is_told acts) ≡
    map without_reads (committed_after es acts)
commits_told [] es = refl
commits_told (Begins n ∷ acts) es =
    ap (λ l. committed_after l (filter is_told acts)) (others_journalled n es) ∙
    commits_told acts _
commits_told (Asks n e ∷ acts) es =
    asked_commits (is_journalled e) es n e (filter is_told acts) refl ∙
    commits_told acts (es ++ (n, e) ∷ [])
commits_told (Commits n ∷ acts) es =
    (λ i. Whole (own_journalled n es i) ∷ commits_told acts es i)
commits_told (Creates name kind ∷ acts) es = ap (λ l. Made name kind ∷ l) (commits_told acts es)

pub committed_records : (steps : List BookStep) →
    committed (acts_of (records_by steps)) ≡ map without_reads (committed_by steps)
committed_records steps = ap committed (acts_after no_calls steps) ∙
    commits_told (flat_map (λ x. acts_of_action x.action) steps) []
