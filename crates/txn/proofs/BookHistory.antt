-- What a history of a book comes to.
use Rattle.std.proofs.Common.{◌≡◌, ℕ, ◌+◌, Bool, true, false, Ok, Err, Some, None, List, []}
use Rattle.std.proofs.Common.{◌∷◌, Result}
use Rattle.std.proofs.Common.{length, refl, sym, ◌∙◌, ap, subst, arith, length-append, inl, inr}
use Rattle.std.specs.List.{flat_map}
use Rattle.std.specs.FinMap as maps
use Rattle.calls.specs.declared.kind.Kind.{Kind}
use Rattle.calls.specs.declared.call.Call.{Call}
use Rattle.calls.specs.declared.reply.Reply.{Reply}
use Rattle.calls.specs.declared.refusal.Refusal.{Refusal}
use Rattle.calls.specs.declared.when.When.{When}
use Rattle.calls.specs.Contents.{Collection, AnswersAt, after_at}
use Rattle.calls.specs.Reads.{reads}
use Rattle.calls.specs.Transactions.{Event, Entry, Asked, Act, Asks, Makes, own, committed_after}
use Rattle.records.specs.declared.record.Record.{Record}
use Rattle.records.specs.Acts.{acts_of_record}
use Rattle.steps.specs.Machine.{State, IsSettled, Steps}
use Rattle.steps.specs.Sound.{IsSound}
use Rattle.steps.specs.Theory.Rules.{RuleLaws}
use Rattle.steps.specs.Theory.Collections.{collection_rules}
use Rattle.steps.proofs.NamedContents.{serial_told}
use Rattle.steps.proofs.Steps.{none_live}
use Rattle.steps.proofs.Readings.{one_read, one_unread}
use Rattle.steps.proofs.RecordRuns as machine
use Rattle.steps.proofs.RecordRuns.{gathered, committed_append, Tells}
use Rattle.txn.specs.declared.actions.Action.{Action}
use Rattle.txn.specs.declared.actions.BookStep.{BookStep}
use Rattle.txn.specs.declared.actions.Target.{Target}
use Rattle.txn.specs.Rows.{Standing, IsMade, IsUndone, AskAnswers, record_of, later_record}
use Rattle.txn.specs.Histories.{acts_of_action, Adds, Shifts, Row, IsLegal, ComesTo}
use Rattle.boosted.specs.Meaning.{Meaning}
use Rattle.catalog.specs.Making.{Making}

module _ {S : Type 0} (meaning : Meaning S ℕ) (making : Making S)
    (laws : RuleLaws (collection_rules meaning making))
  where
    abbrev Sound : State S → Type 0
    Sound s = IsSound meaning making s

    abbrev Settled : State S → S → Type 0
    Settled s c = IsSettled meaning s c

    abbrev IsPlayed : List (ℕ × Entry) → List Act → S → State S → Type 0
    IsPlayed es acts d t = machine.IsPlayed meaning making laws es acts d t

    -- What records lead to, of a book's steps, where the places count the transactions.
    record IsBookPlayed (es : List (ℕ × Entry)) (acts : List Act) (b : Standing S) (d : S)
        (c : Standing S) : Type 0 where
      played : IsPlayed es acts d c.state
      places : c.places ≡ b.places + length (committed_after es acts)

    module _ (es : List (ℕ × Entry)) (b : Standing S) (sound : Sound b.state)
        (tells : Tells es b.state) (d : S) (settled : Settled b.state d) where
      -- a step that is recorded
      recorded : (r : Record) (c : Standing S) → Steps meaning making b.state r c.state →
          c.places ≡ b.places + length (committed_after es (acts_of_record r)) →
          IsBookPlayed es (acts_of_record r) b d c
      recorded r c row places = record {
        played = machine.one_step meaning making laws es b.state
            sound tells d settled r c.state row;
        places = places;
      }

      -- a step that says nothing
      unheard : (c : Standing S) → IsPlayed es [] d c.state → c.places ≡ b.places →
          IsBookPlayed es [] b d c
      unheard c played same = record { played = played; places = omega arith }

      refused : (c : Standing S) → c ≡ b → IsBookPlayed es [] b d c
      refused c is = subst (IsBookPlayed es [] b d) (sym is)
          (unheard b (machine.stays meaning making laws es b.state sound tells d settled) refl)

      -- a step that a record more does not tell of
      unrecorded : (acts : List Act) (c : Standing S) → IsPlayed es acts d c.state →
          c.places ≡ b.places → length (committed_after es acts) ≡ 0 → IsBookPlayed es acts b d c
      unrecorded acts c played same none =
          record { played = played; places = omega (arith, same, none) }

      -- a call that is made
      made : (only_reads : Bool) (n : ℕ) (e : Event) (c : Standing S) →
          IsMade meaning making (λ v. v) Adds Shifts only_reads b n e c →
          IsBookPlayed es (Asks n (Asked e) ∷ []) b d c
      made true n e c acts =
          unrecorded (Asks n (Asked e) ∷ []) c
          (one_read meaning making laws b.state c.state es sound tells d settled n e acts.0)
          (ap (λ v. v.places) acts.2) refl
      made false n e c acts = recorded (record_of n e) c acts.0 (ap (λ v. v.places) acts.1.is)

      -- one that is undone
      undone : (n : ℕ) (c : Standing S) → IsUndone meaning making (λ v. v) Adds Shifts b n c →
          IsBookPlayed es [] b d c
      undone n c (inl acts) = recorded (Record.Back n) c acts.0.back (ap (λ v. v.places) acts.1.is)
      undone n c (inr acts) =
          unheard c (one_unread meaning making laws b.state c.state es sound tells d settled n
          acts.0) (ap (λ v. v.places) acts.2)

      -- a call on a collection
      asked : (n p : ℕ) (call : Call) (when : When) (a : Result Reply Refusal) (c : Standing S) →
          AskAnswers meaning making (λ v. v) Adds Shifts b n p call when a c →
          IsBookPlayed es
          (acts_of_action (Action.Ask n (Target.Number p) call when a)) b d c
      asked n p call When.Now (Ok reply) c acts =
          made (reads call reply) n (record { at = p; call = call; reply = reply }) c acts.0
      asked n p call When.AtCommit (Ok reply) c acts =
          recorded (later_record n p call) c acts.0.0 (ap (λ v. v.places) acts.0.1.is)
      asked n p call when (Err e) c acts = refused c acts.0

      one : (action : Action) (c : Standing S) → Row meaning making b action c →
          IsBookPlayed es (acts_of_action action) b d c
      one (Action.Make name kind (Ok place)) c acts =
          recorded (Record.Make kind name) c acts.0 (ap (λ v. v.places) acts.1.is)
      one (Action.Make name kind (Err e)) c acts = refused c acts.0
      one (Action.Enter n (Ok done)) c acts =
          recorded (Record.Begin n) c acts.0 (ap (λ v. v.places) acts.2.is)
      one (Action.Enter n (Err e)) c acts = refused c acts.0
      one (Action.Ask n (Target.Number p) call when a) c acts = asked n p call when a c acts
      one (Action.Ask n (Target.Named name (Some p)) call when (Ok reply)) c acts =
          asked n p call when (Ok reply) c acts.1
      one (Action.Ask n (Target.Named name (Some p)) call when (Err e)) c acts = refused c acts.1.0
      one (Action.Ask n (Target.Named name None) call when (Ok reply)) c acts = absurd acts
      one (Action.Ask n (Target.Named name None) call when (Err e)) c acts = refused c acts.0
      one (Action.Commit n (Ok place)) c acts =
          recorded (Record.Commit n) c acts.0 (ap (λ v. v.places) acts.1.is)
      one (Action.Commit n (Err e)) c acts = refused c acts.0
      one (Action.Back n (Ok true)) c acts = undone n c acts
      one (Action.Back n (Ok false)) c acts =
          unheard c (machine.one_fall meaning making laws es b.state sound tells d settled n c.state
          acts.0) (ap (λ v. v.places) acts.2)
      one (Action.Back n (Err e)) c acts = refused c acts.0
      one (Action.Ended n (Ok done)) c acts =
          recorded (Record.Ended n) c acts.0 (ap (λ v. v.places) acts.1.is)
      one (Action.Ended n (Err e)) c acts = refused c acts.0
      one (Action.Cut count (Ok true)) c acts =
          let is = acts.2 in
          unheard c (subst (IsPlayed es [] d) (sym (ap (λ v. v.state) is))
          (machine.stays meaning making laws es b.state sound tells d settled))
          (ap (λ v. v.places) is)
      one (Action.Cut count (Ok false)) c acts = refused c acts.2
      one (Action.Cut count (Err e)) c acts = refused c acts.1
      one (Action.Gather a) c acts = refused c acts
      one (Action.Freeze a) c acts = refused c acts

    -- A history leads the settled content on by the transactions that it commits, each run whole,
    -- one after another.
    all_played : (steps : List BookStep) (es : List (ℕ × Entry))
        (b c : Standing S) (d : S) → Sound b.state → Tells es b.state → Settled b.state d →
        IsLegal meaning making b steps c →
        IsBookPlayed es (flat_map (λ x. acts_of_action x.action) steps) b d c
    all_played [] es b c d sound tells settled legal =
        subst (IsBookPlayed es [] b d) legal
        (unheard es b sound tells d settled b
        (machine.stays meaning making laws es b.state sound tells d settled) refl)
    all_played (step ∷ steps) es b c d sound tells settled legal =
        let acts = acts_of_action step.action in
        let rest = flat_map (λ x. acts_of_action x.action) steps in
        let first = one es b sound tells d settled step.action legal.0 legal.1 in
        let more = all_played steps (gathered es acts) legal.0 c first.played.content
        first.played.sound first.played.tells first.played.settled legal.2 in
        let count = ap length (committed_append acts rest es) ∙
        length-append (committed_after es acts) (committed_after (gathered es acts) rest) in
        let places_first = first.places in
        let places_more = more.places in
        record {
          played = machine.played_both meaning making laws es acts rest d legal.0.state c.state
              first.played more.played;
          places = omega arith;
        }

    module _ (collections : S → List Collection)
        (answers_as_told : (s : S) (at : ℕ) (c : Call) (r : Reply) → meaning.answers s at c r →
        AnswersAt (collections s) at c r)
        (leaves_as_told : (s : S) (at : ℕ) (c : Call) (r : Reply) → meaning.answers s at c r →
        collections (meaning.leaves s at c r) ≡ after_at (collections s) at c r)
        (makes_as_told : (s t : S) (name : List ℕ) (kind : Kind) → making.makes s name kind t →
        Makes (collections s) name kind (collections t)) where
      -- What a history of a book comes to in which no transaction was live.
      pub history : (steps : List BookStep) (b c : Standing S) → Sound b.state →
          b.state.live ≡ maps.empty → IsLegal meaning making b steps c →
          ComesTo Sound collections (IsSettled meaning) b steps c
      history steps b c sound empty legal =
          let none = none_live meaning making laws b.state sound sound.content empty
          sound.settled in
          let settled : Settled b.state b.state.now =
          subst (Settled b.state) none.1 sound.settled in
          let tells : Tells [] b.state = λ n run. sym (ap (own n) none.0) in
          let all = all_played steps [] b c b.state.now sound tells settled legal in
          let played = all.played in
          record {
            is_sound = played.sound;
            content = played.content;
            is_settled = played.settled;
            serial = serial_told meaning making collections answers_as_told leaves_as_told
                makes_as_told (committed_after [] (flat_map (λ x. acts_of_action x.action) steps))
                b.state.now
                played.content played.runs;
            places = all.places;
          }
