-- What records come to.
use Rattle.std.proofs.Common.{◌≡◌, ℕ, ◌+◌, true, false, inl, inr, ⊎_elim, List, []}
use Rattle.std.proofs.Common.{◌∷◌, ◌++◌, map, length, refl, sym, ◌∙◌, ap, subst}
use Rattle.std.proofs.Common.{append_assoc}
use Rattle.std.specs.FinMap as maps
use Rattle.std.proofs.lemmas.Bool.{cases_eq}
use Rattle.calls.specs.declared.format.Format.{Format}
use Rattle.calls.specs.declared.kind.Kind.{Kind}
use Rattle.calls.specs.declared.call.Call.{Call}
use Rattle.calls.specs.declared.reply.Reply.{Reply}
use Rattle.calls.specs.Contents.{Collection, AnswersAt, after_at}
use Rattle.calls.specs.Transactions.{Entry, Asked, Deferred, Leads, Transaction, Whole, Act, Makes}
use Rattle.calls.specs.Transactions.{Serial, laters_of, own, others, gather, commits}
use Rattle.calls.specs.Transactions.{committed_after, committed}
use Rattle.boosted.proofs.Each.{weaker}
use Rattle.boosted.proofs.Runs.{Leads-append}
use Rattle.undo_log.specs.Logs.{Statuses, Lives, Falls, fallen}
use Rattle.records.specs.declared.record.Record.{Record}
use Rattle.records.specs.Acts.{event_of, acts_of_record, acts_of}
use Rattle.steps.specs.Machine.{State, IsSettled, IsRunning, IsLeft, BeginRow, FallRow, Steps}
use Rattle.steps.specs.Machines.{resting}
use Rattle.steps.specs.Transactions.{RunsWhole}
use Rattle.steps.specs.Sound.{IsSound}
use Rattle.steps.specs.Theory.Rules.{RuleLaws}
use Rattle.steps.specs.Theory.Collections.{collection_rules}
use Rattle.steps.proofs.Theory.Lists.{none_own, own_others_same, own_others_other, own_without}
use Rattle.steps.proofs.LiveNumbers.{fallen_is, lives_more, lives_fewer, falls_more, falls_fresh}
use Rattle.steps.proofs.LiveNumbers.{falls_fewer}
use Rattle.steps.proofs.Counting.{number}
use Rattle.steps.proofs.JoinedEntries.{own_append}
use Rattle.steps.proofs.NamedContents.{serial_told}
use Rattle.steps.proofs.Steps as steps
use Rattle.steps.proofs.Steps.{none_live}
use Rattle.boosted.specs.Meaning.{Meaning}
use Rattle.catalog.specs.Making.{Making}

-- ---- the entries of one number

pub own_of_others : (n k : ℕ) (es : List (ℕ × Entry)) → (k ≡ n → ⊥) → own k (others n es) ≡ own k es
own_of_others n k es other = ap (map (λ e. e.1)) (own_others_other number n k es other)

pub own_of_its_others : (n : ℕ) (es : List (ℕ × Entry)) → own n (others n es) ≡ []
own_of_its_others n es = ap (map (λ e. e.1)) (own_others_same number n es)

pub own_of_rest : (k : ℕ) (before : List (ℕ × Entry)) (x : ℕ × Entry) (after : List (ℕ × Entry)) →
    (x.0 ≡ k → ⊥) → own k (before ++ x ∷ after) ≡ own k (before ++ after)
own_of_rest k before x after other = ap (map (λ e. e.1)) (own_without number k before x after other)

-- ---- acts one after another

-- What is known of each number's entries after the acts.
abbrev pub gathered : List (ℕ × Entry) → List Act → List (ℕ × Entry)
gathered es [] = es
gathered es (a ∷ acts) = gathered (gather es a) acts

pub committed_append : (acts more : List Act) (es : List (ℕ × Entry)) →
    committed_after es (acts ++ more) ≡ committed_after es acts ++
    committed_after (gathered es acts) more
committed_append [] more es = refl
committed_append (a ∷ acts) more es =
    ap (λ l. commits es a ++ l) (committed_append acts more (gather es a)) ∙
    sym (append_assoc (commits es a) (committed_after (gather es a) acts)
    (committed_after (gathered (gather es a) acts) more))

pub gathered_append : (acts more : List Act) (es : List (ℕ × Entry)) →
    gathered es (acts ++ more) ≡ gathered (gathered es acts) more
gathered_append [] more es = refl
gathered_append (a ∷ acts) more es = gathered_append acts more (gather es a)

-- ---- who is running

-- The entries are those of the state, of each transaction that is running.
abbrev pub Tells : {S : Type 0} → List (ℕ × Entry) → State S → Type 0
Tells es s = (n : ℕ) → IsRunning s n → own n es ≡ own n s.entries

module _ {S : Type 0} (s : State S) (es : List (ℕ × Entry)) (tells : Tells es s) (n k : ℕ) where
  -- who runs once a number is gone ran before
  tells_left : (t : State S) → IsLeft s n t → IsRunning t k → own k es ≡ own k t.entries
  tells_left t left run =
      let lives = (lives_fewer s.live n k).1
      (subst (λ v. Lives v k) (ap (λ v. v.live) left.is) run.live) in
      let standing : Falls s.live k → ⊥ =
      λ falls. run.standing (subst (λ v. Falls v k) (sym (ap (λ v. v.live) left.is))
      ((falls_fewer s.live n k).0 (falls, lives.1))) in
      tells k (record { live = lives.0; standing = standing }) ∙
      sym (own_of_others n k s.entries lives.1) ∙ sym (ap (λ v. own k v.entries) left.is)

  -- who runs once a number falls is another, and ran before
  stands_fallen : (live : Statuses) → Lives s.live n → live ≡ maps.insert s.live n true →
      Lives live k → (Falls live k → ⊥) → IsRunning s k × (n ≡ k → ⊥)
  stands_fallen live lives is there standing =
      let other : n ≡ k → ⊥ = λ same. standing
      (subst (λ v. Falls v k) (sym is) ((falls_more s.live n k).0 (inl same))) in
      let before : Lives s.live k = ⊎_elim (λ (same : n ≡ k). absurd (other same))
      (λ (l : Lives s.live k). l) ((lives_more s.live n true k).1
      (subst (λ v. Lives v k) is there)) in (
        record {
          live = before;
          standing = λ falls. standing
              (subst (λ v. Falls v k) (sym is) ((falls_more s.live n k).0 (inr falls)));
        },
        other,
      )

  tells_begun : (t : State S) → (Lives s.live n → ⊥) → own n s.entries ≡ [] → BeginRow s n t →
      IsRunning t k → own k (others n es) ≡ own k t.entries
  tells_begun t fresh none row run =
      let lives = (lives_more s.live n false k).1
      (subst (λ v. Lives v k) (ap (λ v. v.live) row.is) run.live) in
      let standing : Falls s.live k → ⊥ =
      λ falls. run.standing (subst (λ v. Falls v k) (sym (ap (λ v. v.live) row.is))
      ((falls_fresh s.live n fresh k).0 falls)) in
      ⊎_elim
      (λ (same : k ≡ n). subst (λ j. own j (others n es) ≡ own j s.entries) (sym same)
      (own_of_its_others n es ∙ sym none))
      (λ (other : k ≡ n → ⊥). own_of_others n k es other ∙
      tells k (record {
        live = ⊎_elim (λ (same : n ≡ k). absurd (other (sym same)))
            (λ (l : Lives s.live k). l) lives;
        standing = standing;
      }))
      (cases_eq k n)
      ∙ sym (ap (λ v. own k v.entries) row.is)

module _ {S : Type 0} (meaning : Meaning S ℕ) (making : Making S)
    (laws : RuleLaws (collection_rules meaning making))
  where
    abbrev pub Sound : State S → Type 0
    Sound s = IsSound meaning making s

    abbrev pub Settled : State S → S → Type 0
    Settled s c = IsSettled meaning s c

    abbrev pub Runs : List Transaction → S → S → Type 0
    Runs ts s t = Leads (RunsWhole meaning making) ts s t

    -- What says the acts leads from where the entries es are known and d is the settled content to
    -- the state t.
    pub record IsPlayed (es : List (ℕ × Entry)) (acts : List Act) (d : S) (t : State S) : Type
        0 where
      pub sound : Sound t
      pub tells : Tells (gathered es acts) t
      pub content : S
      pub runs : Runs (committed_after es acts) d content
      pub settled : Settled t content

    module _ (es : List (ℕ × Entry)) (s : State S) (sound : Sound s) (tells : Tells es s) (d : S)
        (settled : Settled s d) where
      -- nothing is said
      quiet : (t : State S) → Sound t → Tells es t → Settled t d → IsPlayed es [] d t
      quiet t sound_then tells_then settled_then =
          record {
            sound = sound_then;
            tells = tells_then;
            content = d;
            runs = refl;
            settled = settled_then;
          }

      pub stays : IsPlayed es [] d s
      stays = quiet s sound tells settled

      same_entries : (t : State S) → t.live ≡ s.live → t.entries ≡ s.entries → Tells es t
      same_entries t live entries n run =
          tells n (record {
            live = subst (λ v. Lives v n) live run.live;
            standing = λ falls. run.standing (subst (λ v. Falls v n) (sym live) falls);
          }) ∙
          sym (ap (own n) entries)

      -- a number asks for one thing more
      tells_asked : (n : ℕ) (x : Entry) (t : State S) → t.live ≡ s.live →
          t.entries ≡ s.entries ++ (n, x) ∷ [] → Tells (es ++ (n, x) ∷ []) t
      tells_asked n x t live entries k run =
          let before = tells k (record {
            live = subst (λ v. Lives v k) live run.live;
            standing = λ falls. run.standing (subst (λ v. Falls v k) (sym live) falls);
          }) in
          own_append k es ((n, x) ∷ []) ∙ ap (λ l. l ++ own k ((n, x) ∷ [])) before ∙
          sym (own_append k s.entries ((n, x) ∷ [])) ∙ sym (ap (own k) entries)

      -- a number falls
      tells_fallen : (n : ℕ) (t : State S) → Lives s.live n → t.live ≡ fallen s.live n →
          ((k : ℕ) → (n ≡ k → ⊥) → own k s.entries ≡ own k t.entries) → Tells es t
      tells_fallen n t lives live_is rest k run =
          let still = stands_fallen s es tells n k t.live lives (live_is ∙ fallen_is s.live n lives)
          run.live run.standing in
          tells k still.0 ∙ rest k still.1

      -- a step of the machine
      pub one_step : (r : Record) (t : State S) → Steps meaning making s r t →
          IsPlayed es (acts_of_record r) d t
      one_step (Record.Make kind name) t row =
          let made = steps.make_settles meaning making laws s sound name kind t d row settled in
          record {
            sound = steps.make_sound meaning making laws s sound name kind t row;
            tells = same_entries t (ap (λ v. v.live) row.is) (ap (λ v. v.entries) row.is);
            content = made.0;
            runs = (made.0, made.1, refl);
            settled = made.2;
          }
      one_step (Record.Begin n) t row =
          let fresh = row.can.fresh in
          let none : own n s.entries ≡ [] =
          ap (map (λ e. e.1)) (none_own number n s.entries
          (weaker (λ e. Lives s.live e.0) (λ e. e.0 ≡ n → ⊥)
          (λ e lives same. fresh (subst (Lives s.live) same lives)) s.entries
          (steps.alive meaning making laws s sound))) in
          record {
            sound = steps.begin_sound meaning making laws s sound n t row;
            tells = λ k run. tells_begun s es tells n k t fresh none row run;
            content = d;
            runs = refl;
            settled = steps.begin_settles meaning making laws s sound n t d row settled;
          }
      one_step (Record.Call c) t row = record {
        sound = steps.call_sound meaning making laws s sound c.number (event_of c) t row;
        tells = tells_asked c.number (Asked (event_of c)) t (ap (λ v. v.live) row.is)
            (ap (λ v. v.entries) row.is);
        content = d;
        runs = refl;
        settled = steps.call_settles meaning making laws s sound c.number (event_of c) t d row
            settled;
      }
      one_step (Record.Later l) t row = record {
        sound = steps.later_sound meaning making laws s sound l.number l.collection l.call t row;
        tells = tells_asked l.number (Deferred l.collection l.call) t (ap (λ v. v.live) row.is)
            (ap (λ v. v.entries) row.is);
        content = d;
        runs = refl;
        settled = steps.later_settles meaning making laws s sound l.number l.collection l.call t d
            row
            settled;
      }
      one_step (Record.Commit n) t row =
          let run = steps.commit_settles meaning making laws s sound n t d row settled in
          let done = record s {
            now = row.next;
            wear = s.wear + length (laters_of (own n s.entries));
          } in
          record {
            sound = steps.commit_sound meaning making laws s sound n t row;
            tells = λ k running. tells_left done es (same_entries done refl refl) n k t row.left
                running;
            content = run.0;
            runs = (
              run.0,
              subst (λ l. RunsWhole meaning making d (Whole l) run.0)
                  (sym (tells n row.running)) run.1,
              refl,
            );
            settled = run.2;
          }
      one_step (Record.Back n) t row =
          let new = row.newest in
          quiet t (steps.back_sound meaning making laws s sound n t row)
          (tells_fallen n t row.live (ap (λ v. v.live) row.is)
          (λ k other. ap (own k) new.is ∙
          own_of_rest k new.before (n, Asked row.call) new.after other ∙
          ap (own k) (sym new.rest_is) ∙ sym (ap (λ v. own k v.entries) row.is)))
          (steps.back_settles meaning making laws s sound n t d row settled)
      one_step (Record.Ended n) t row =
          quiet t (steps.ended_sound meaning making laws s sound n t row)
          (λ k run. tells_left s es tells n k t row.left run)
          (steps.ended_settles meaning making laws s sound n t d row settled)
      one_step other t row = absurd row

      -- a number falls, without a record
      pub one_fall : (n : ℕ) (t : State S) → FallRow s n t → IsPlayed es [] d t
      one_fall n t row =
          quiet t (steps.fall_sound meaning making laws s sound n t row)
          (tells_fallen n t row.live (ap (λ v. v.live) row.is)
          (λ k other. sym (ap (λ v. own k v.entries) row.is)))
          (steps.fall_settles meaning making laws s sound n t d row settled)

    -- One after another.
    pub played_both : (es : List (ℕ × Entry)) (acts rest : List Act) (d : S) (s t : State S) →
        (first : IsPlayed es acts d s) → IsPlayed (gathered es acts) rest first.content t →
        IsPlayed es (acts ++ rest) d t
    played_both es acts rest d s t first more = record {
      sound = more.sound;
      tells = subst (λ l. Tells l t) (sym (gathered_append acts rest es)) more.tells;
      content = more.content;
      runs = subst (λ l. Runs l d more.content) (sym (committed_append acts rest es))
          (Leads-append (RunsWhole meaning making) (committed_after es acts)
          (committed_after (gathered es acts) rest) d first.content more.content first.runs
          more.runs);
      settled = more.settled;
    }

    -- Records lead the settled content on by the transactions that they commit, each run whole, one
    -- after another.
    pub all_repeated : (rs : List Record) (es : List (ℕ × Entry)) (s t : State S) (d : S) →
        Sound s →
        Tells es s → Settled s d → Leads (Steps meaning making) rs s t →
        IsPlayed es (acts_of rs) d t
    all_repeated [] es s t d sound tells settled leads =
        subst (IsPlayed es [] d) leads (stays es s sound tells d settled)
    all_repeated (r ∷ rs) es s t d sound tells settled leads =
        let first = one_step es s sound tells d settled r leads.0 leads.1 in
        played_both es (acts_of_record r) (acts_of rs) d leads.0 t first
        (all_repeated rs (gathered es (acts_of_record r)) leads.0 t first.content first.sound
        first.tells first.settled leads.2)

    module _ (collections : S → List Collection)
        (answers_as_told : (s : S) (at : ℕ) (c : Call) (r : Reply) → meaning.answers s at c r →
        AnswersAt (collections s) at c r)
        (leaves_as_told : (s : S) (at : ℕ) (c : Call) (r : Reply) → meaning.answers s at c r →
        collections (meaning.leaves s at c r) ≡ after_at (collections s) at c r)
        (makes_as_told : (s t : S) (name : List ℕ) (kind : Kind) → making.makes s name kind t →
        Makes (collections s) name kind (collections t)) where
      -- What records come to that lead from no live transaction to none.
      pub records_serial : (format : Format) (start : S) (wear : ℕ) (rs : List Record)
          (t : State S) →
          Leads (Steps meaning making) rs (resting format start wear) t → t.live ≡ maps.empty →
          Serial (committed (acts_of rs)) (collections start) (collections t.now)
      records_serial format start wear rs t leads empty =
          let sound = steps.opened_sound meaning making laws format start wear in
          let played = all_repeated rs [] (resting format start wear) t start sound (λ n run. refl)
          refl
          leads in
          let none = none_live meaning making laws t played.sound played.content empty
          played.settled in
          let told = serial_told meaning making collections answers_as_told leaves_as_told
          makes_as_told (committed_after [] (acts_of rs)) start played.content played.runs in
          subst (λ c. Serial (committed (acts_of rs)) (collections start) (collections c)) none.1
          told
