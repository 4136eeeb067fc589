-- Every step of the machine leaves a sound state, and moves the settled content as the transaction
-- that it commits says.
use Rattle.std.proofs.Common.{◌≡◌, ℕ, ◌==◌, is_some, arith, List, [], ◌∷◌, map, refl, sym}
use Rattle.std.proofs.Common.{◌∙◌, ap, subst}
use Rattle.std.specs.List.{filter, AllByRecursion}
use Rattle.std.specs.FinMap as maps
use Rattle.calls.specs.declared.format.Format.{Format}
use Rattle.calls.specs.declared.kind.Kind.{Kind}
use Rattle.calls.specs.declared.call.Call.{Call}
use Rattle.calls.specs.declared.reply.Reply.{Reply}
use Rattle.calls.specs.Rules.{Askable, Disposable}
use Rattle.calls.specs.Transactions.{Event, Entry, Asked, Deferred, Leads, Whole, calls_of}
use Rattle.calls.specs.Transactions.{laters_of}
use Rattle.calls.specs.Transactions.{own}
use Rattle.abstract_locks.specs.declared.table.Hold.{Hold}
use Rattle.undo_log.specs.Entries as log
use Rattle.undo_log.specs.Logs.{Lives}
use Rattle.boosted.specs.Runs as runs
use Rattle.boosted.specs.Meaning as shape
use Rattle.boosted.proofs.Each.{weaker}
use Rattle.steps.specs.Machine.{State, Does, IsRunning, IsSettled, BeginRow, CommitRow, EndedRow}
use Rattle.steps.specs.Machine.{FallRow, MakeRow, CallRow, LaterRow, BackRow}
use Rattle.steps.specs.Transactions.{RunsWhole}
use Rattle.steps.specs.Sound.{all_owned, Shows, IsSound}
use Rattle.steps.specs.Theory.Rules.{Rules, RuleLaws, Has}
use Rattle.steps.specs.Theory.Journal as journal
use Rattle.steps.specs.Theory.Machine as theory
use Rattle.steps.specs.Theory.Theorems.{idle}
use Rattle.steps.specs.Theory.Images.{FallsRow}
use Rattle.steps.specs.Theory.Collections.{collection_rules}
use Rattle.steps.proofs.Theory.Lists.{each_map}
use Rattle.steps.proofs.Theory.Derived.{laters_late}
use Rattle.steps.proofs.Theory.Serial as serial
use Rattle.steps.proofs.Theory.Undo.{newest_undone, nothing}
use Rattle.steps.proofs.Theory.Whole.{idle_sound}
use Rattle.steps.proofs.LiveNumbers.{nobody}
use Rattle.steps.proofs.Theory.Stands.{falls_sound}
use Rattle.steps.proofs.OwnedEntries.{owner, left, leads_map, leads_back, calls_are, laters_are}
use Rattle.steps.proofs.OwnedEntries.{own_owned, own_laters, newest_call}
use Rattle.steps.proofs.TheoryRows.{Follows, make_follows, begin_follows, call_follows}
use Rattle.steps.proofs.TheoryRows.{later_follows}
use Rattle.steps.proofs.TheoryRows.{commit_follows, ended_follows, back_follows, fall_follows}
use Rattle.boosted.specs.Meaning.{Meaning}
use Rattle.catalog.specs.Making.{Making}

module _ {S : Type 0} (meaning : Meaning S ℕ) (making : Making S)
    (laws : RuleLaws (collection_rules meaning making)) where
  abbrev rules : Rules S (ℕ × Event) (List ℕ × Kind) Hold
  rules = collection_rules meaning making

  abbrev Sound : State S → Type 0
  Sound s = IsSound meaning making s

  abbrev Settled : State S → S → Type 0
  Settled s c = IsSettled meaning s c

  -- What the state settles at, its picture does, and the other way round.
  settled_there : (s : State S) (m : theory.State S (ℕ × Event) Hold) (c : S) → Shows s m →
      Settled s c → theory.IsSettled rules m c
  settled_there s m c shows w =
      subst (λ l. Leads rules.does (journal.calls l) c m.now) (sym shows.entries)
      (subst (λ v. Leads rules.does (journal.calls (all_owned s.entries)) c v) (sym shows.now)
      (leads_back (λ e. e.1) (Does meaning) (journal.calls (all_owned s.entries)) c s.now
      (subst (λ l. Leads (Does meaning) l c s.now) (sym (calls_are s.entries)) w)))

  settled_here : (s : State S) (m : theory.State S (ℕ × Event) Hold) (c : S) → Shows s m →
      theory.IsSettled rules m c → Settled s c
  settled_here s m c shows w =
      let there : Leads rules.does (journal.calls (all_owned s.entries)) c s.now =
      subst (λ v. Leads rules.does (journal.calls (all_owned s.entries)) c v) shows.now
      (subst (λ l. Leads rules.does (journal.calls l) c m.now) shows.entries w) in
      subst (λ l. Leads (Does meaning) l c s.now) (calls_are s.entries)
      (leads_map (λ e. e.1) (Does meaning) (journal.calls (all_owned s.entries)) c s.now there)

  -- There is at most one content at which a state settles.
  pub settles_once : (s : State S) (c d : S) → Sound s → Settled s c → Settled s d → c ≡ d
  settles_once s c d sound w v = serial.settles_once laws sound.machine c d sound.sound
      (settled_there s sound.machine c sound.shows w)
      (settled_there s sound.machine d sound.shows v)

  module _ (s : State S) (sound : Sound s) where
    -- the step's state is sound
    goes : (r : journal.Record (ℕ × Event) (List ℕ × Kind)) (t : State S) →
        Follows meaning making sound.machine r t → Sound t
    goes r t follows =
        let step = serial.step_settles laws r sound.machine follows.0 sound.content sound.sound
        (settled_there s sound.machine sound.content sound.shows sound.settled) follows.2 in
        record {
          machine = follows.0;
          shows = follows.1;
          sound = step.0;
          content = step.1.0;
          settled = settled_here t follows.0 step.1.0 follows.1 step.1.2;
        }

    -- the settled content moves as the step commits
    moves : (r : journal.Record (ℕ × Event) (List ℕ × Kind)) (t : State S) (c : S) →
        Follows meaning making sound.machine r t → Settled s c →
        (d : S) × journal.Serial rules (journal.commits rules.owner sound.machine.entries r) c d ×
        Settled t d
    moves r t c follows w =
        let step = serial.step_settles laws r sound.machine follows.0 c sound.sound
        (settled_there s sound.machine c sound.shows w) follows.2 in
        (step.1.0, step.1.1, settled_here t follows.0 step.1.0 follows.1 step.1.2)

    -- a step that commits nothing leaves the settled content
    stays : (r : journal.Record (ℕ × Event) (List ℕ × Kind)) (t : State S) (c : S) →
        journal.commits rules.owner sound.machine.entries r ≡ [] →
        Follows meaning making sound.machine r t → Settled s c → Settled t c
    stays r t c none follows w =
        let moved = moves r t c follows w in
        subst (Settled t) (sym (subst (λ l. journal.Serial rules l c moved.0) none moved.1)) moved.2

    pub make_sound : (name : List ℕ) (kind : Kind) (t : State S) → MakeRow making s name kind t →
        Sound t
    make_sound name kind t row = goes (journal.Make (name, kind)) t
        (make_follows meaning making s sound.machine sound.shows name kind t row)

    pub make_settles : (name : List ℕ) (kind : Kind) (t : State S) (c : S) →
        MakeRow making s name kind t → Settled s c →
        (d : S) × making.makes c name kind d × Settled t d
    make_settles name kind t c row w =
        let moved = moves (journal.Make (name, kind)) t c
        (make_follows meaning making s sound.machine sound.shows name kind t row) w in
        (moved.0, subst (making.makes c name kind) moved.1.2 moved.1.1, moved.2)

    pub begin_sound : (n : ℕ) (t : State S) → BeginRow s n t → Sound t
    begin_sound n t row = goes (journal.Begin n) t
        (begin_follows meaning making s sound.machine sound.shows n t row)

    pub begin_settles : (n : ℕ) (t : State S) (c : S) → BeginRow s n t → Settled s c → Settled t c
    begin_settles n t c row w = stays (journal.Begin n) t c refl
        (begin_follows meaning making s sound.machine sound.shows n t row) w

    pub call_sound : (n : ℕ) (e : Event) (t : State S) → CallRow meaning s n e t → Sound t
    call_sound n e t row = goes (journal.Call (n, e)) t
        (call_follows meaning making s sound.machine sound.shows n e t row)

    pub call_settles : (n : ℕ) (e : Event) (t : State S) (c : S) → CallRow meaning s n e t →
        Settled s c → Settled t c
    call_settles n e t c row w = stays (journal.Call (n, e)) t c refl
        (call_follows meaning making s sound.machine sound.shows n e t row) w

    pub later_sound : (n at : ℕ) (call : Call) (t : State S) → LaterRow meaning s n at call t →
        Sound t
    later_sound n at call t row = goes
        (journal.Later (n, record { at = at; call = call; reply = Reply.Done })) t
        (later_follows meaning making s sound.machine sound.shows n at call t row)

    pub later_settles : (n at : ℕ) (call : Call) (t : State S) (c : S) →
        LaterRow meaning s n at call t → Settled s c → Settled t c
    later_settles n at call t c row w =
        stays (journal.Later (n, record { at = at; call = call; reply = Reply.Done })) t c refl
        (later_follows meaning making s sound.machine sound.shows n at call t row) w

    -- what one number deferred, as the theory has it
    laters_there : (n : ℕ) → theory.laters_of rules n sound.machine.entries ≡
        journal.laters left (all_owned (filter (λ e. e.0 == n) s.entries))
    laters_there n = own_laters n sound.machine.entries s.entries sound.shows.entries

    -- What a transaction deferred can run in a commit.
    pub laters_disposable : (n : ℕ) →
        AllByRecursion (λ e. Disposable e.call × (e.reply ≡ Reply.Done))
        (laters_of (own n s.entries))
    laters_disposable n =
        subst (AllByRecursion (λ e. Disposable e.call × (e.reply ≡ Reply.Done)))
        (laters_are (filter (λ e. e.0 == n) s.entries))
        (each_map (λ e. e.1) (λ e. Disposable e.call × (e.reply ≡ Reply.Done))
        (journal.laters left (all_owned (filter (λ e. e.0 == n) s.entries)))
        (subst (AllByRecursion rules.late) (laters_there n)
        (laters_late laws sound.machine sound.sound n)))

    -- What a running transaction deferred can always run.
    pub commit_can : (n : ℕ) → IsRunning s n →
        (next : S) × Leads (Does meaning) (laters_of (own n s.entries)) s.now next
    commit_can n running =
        let fs = filter (λ e. e.0 == n) s.entries in
        let row = (serial.commits_run laws sound.machine sound.content n sound.sound
        (settled_there s sound.machine sound.content sound.shows sound.settled)
        ((sound.shows.live n).1 running.live)
        (λ h. running.standing ((sound.shows.falling n).0 h))).1 in
        let there : Leads rules.does (journal.laters left (all_owned fs)) s.now row.next =
        subst (λ v. Leads rules.does (journal.laters left (all_owned fs)) v row.next)
        sound.shows.now (subst (λ l. Leads rules.does l sound.machine.now row.next)
        (laters_there n) row.does) in (
          row.next,
          subst (λ l. Leads (Does meaning) l s.now row.next) (laters_are fs)
              (leads_map (λ e. e.1) (Does meaning) (journal.laters left (all_owned fs)) s.now
              row.next
              there),
        )

    pub commit_sound : (n : ℕ) (t : State S) → CommitRow meaning s n t → Sound t
    commit_sound n t row = goes (journal.Commit n) t
        (commit_follows meaning making s sound.machine sound.shows n t row)

    -- the entries of one number, as the theory has them, run as the transaction says
    whole_here : (n : ℕ) (c d : S) →
        journal.RunsWhole rules c (journal.Whole
        (runs.own (journal.asker owner) n sound.machine.entries)) d →
        RunsWhole meaning making c (Whole (own n s.entries)) d
    whole_here n c d w =
        let mine : runs.own (journal.asker owner) n sound.machine.entries ≡
        all_owned (filter (λ e. e.0 == n) s.entries) =
        ap (runs.own (journal.asker owner) n) sound.shows.entries ∙ own_owned n s.entries in
        let fs = filter (λ e. e.0 == n) s.entries in
        let run = subst (λ l. journal.RunsWhole rules c (journal.Whole l) d) mine w in (
          run.0,
          subst (λ l. Leads (Does meaning) l c run.0) (calls_are fs)
              (leads_map (λ e. e.1) (Does meaning) (journal.calls (all_owned fs)) c run.0 run.1),
          subst (λ l. Leads (Does meaning) l run.0 d) (laters_are fs)
              (leads_map (λ e. e.1) (Does meaning) (journal.laters rules.leaves (all_owned fs))
              run.0 d run.2),
        )

    pub commit_settles : (n : ℕ) (t : State S) (c : S) → CommitRow meaning s n t → Settled s c →
        (d : S) × RunsWhole meaning making c (Whole (own n s.entries)) d × Settled t d
    commit_settles n t c row w =
        let moved = moves (journal.Commit n) t c
        (commit_follows meaning making s sound.machine sound.shows n t row) w in (
          moved.0,
          subst (RunsWhole meaning making c (Whole (own n s.entries))) moved.1.2
              (whole_here n c moved.1.0 moved.1.1),
          moved.2,
        )

    pub ended_sound : (n : ℕ) (t : State S) → EndedRow s n t → Sound t
    ended_sound n t row = goes (journal.Ended n) t
        (ended_follows meaning making s sound.machine sound.shows n t row)

    pub ended_settles : (n : ℕ) (t : State S) (c : S) → EndedRow s n t → Settled s c → Settled t c
    ended_settles n t c row w = stays (journal.Ended n) t c refl
        (ended_follows meaning making s sound.machine sound.shows n t row) w

    pub back_sound : (n : ℕ) (t : State S) → BackRow meaning s n t → Sound t
    back_sound n t row = goes (journal.Back n) t
        (back_follows meaning making s sound.machine sound.shows n t row)

    pub back_settles : (n : ℕ) (t : State S) (c : S) → BackRow meaning s n t → Settled s c →
        Settled t c
    back_settles n t c row w = stays (journal.Back n) t c refl
        (back_follows meaning making s sound.machine sound.shows n t row) w

    -- The newest call of a number can be undone, and is one that a client can ask for.
    pub back_can : (n : ℕ) (x : Event) (rest : List (ℕ × Entry)) →
        log.IsNewestCall n s.entries x rest →
        Askable x.call × ((u : S) × shape.Undoes meaning s.now x.at x.call x.reply u)
    back_can n x rest new =
        let there = subst (λ l. theory.IsNewestCall owner n l (n, x) (all_owned rest))
        (sym sound.shows.entries) (newest_call n s.entries x rest new) in
        let back = newest_undone laws n sound.machine sound.content (n, x) (all_owned rest)
        sound.sound (settled_there s sound.machine sound.content sound.shows sound.settled)
        there in (
          serial.newest_asked laws sound.machine n (n, x) (all_owned rest) sound.sound there,
          (
            back.0,
            subst (λ v. shape.Undoes meaning v x.at x.call x.reply back.0) sound.shows.now
                back.1,
          ),
        )

    falls_there : (n : ℕ) (t : State S) (c : S) (k : theory.State S (ℕ × Event) Hold) → Shows t k →
        FallsRow rules sound.machine n k → Settled s c → Settled t c
    falls_there n t c k shows row w =
        settled_here t k c shows (subst (λ v. theory.IsSettled rules v c) (sym row.is)
        (settled_there s sound.machine c sound.shows w))

    pub fall_sound : (n : ℕ) (t : State S) → FallRow s n t → Sound t
    fall_sound n t row =
        let follows = fall_follows meaning making s sound.machine sound.shows n t row in
        record {
          machine = follows.0;
          shows = follows.1;
          sound = falls_sound laws sound.machine n follows.0 sound.sound follows.2;
          content = sound.content;
          settled = falls_there n t sound.content follows.0 follows.1 follows.2 sound.settled;
        }

    pub fall_settles : (n : ℕ) (t : State S) (c : S) → FallRow s n t → Settled s c → Settled t c
    fall_settles n t c row w =
        let follows = fall_follows meaning making s sound.machine sound.shows n t row in
        falls_there n t c follows.0 follows.1 follows.2 w

    each_live : (es : List (ℕ × Entry)) →
        AllByRecursion (λ e. Has sound.machine.live (owner (journal.event e))) (all_owned es) →
        AllByRecursion (λ e. Lives s.live e.0) es
    each_live [] a = tt
    each_live ((n, Asked x) ∷ es) a = ((sound.shows.live n).0 a.0, each_live es a.1)
    each_live ((n, Deferred at c) ∷ es) a = ((sound.shows.live n).0 a.0, each_live es a.1)

    -- Whoever asked for something is live.
    pub alive : AllByRecursion (λ e. Lives s.live e.0) s.entries
    alive = each_live s.entries (subst
        (AllByRecursion (λ e. Has sound.machine.live (owner (journal.event e)))) sound.shows.entries
        sound.sound.alive)

  -- Where no transaction is live,
  pub opened_sound : (format : Format) (now : S) (wear : ℕ) →
      Sound (record {
        now = now;
        live = maps.empty;
        entries = [];
        holds = [];
        wear = wear;
        format = format;
      })
  opened_sound format now wear = record {
    machine = idle now;
    shows = record {
      now = refl;
      entries = refl;
      live = λ n. (λ h. absurd h, λ lives. nobody n lives);
      falling = λ n. (λ h. absurd h, λ falls. nobody n (ap is_some falls));
      needs = λ h. (λ i. absurd i, λ inside. let below = inside.1 in absurd (omega arith));
    };
    sound = idle_sound laws now;
    content = now;
    settled = refl;
  }

  -- nothing is asked for, and what is there now is the settled content.
  pub none_live : (s : State S) (sound : Sound s) (c : S) → s.live ≡ maps.empty → Settled s c →
      (s.entries ≡ []) × (c ≡ s.now)
  none_live s sound c empty w =
      let none : s.entries ≡ [] = nothing s.entries
      (weaker (λ e. Lives s.live e.0) (λ e. ⊥)
      (λ e lives. nobody e.0 (subst (λ m. Lives m e.0) empty lives)) s.entries
      (alive s sound)) in
      (none, subst (λ es. Leads (Does meaning) (calls_of (map (λ e. e.1) es)) c s.now) none w)
