-- What a command leaves on a disk.
use Rattle.std.proofs.Common.{◌≡◌, ◌⊎◌, ◌≤◌, inl, inr, ℕ, List, [], Result, Ok, Err, OnOk}
use Rattle.std.proofs.Common.{replicate}
use Rattle.std.proofs.Common.{refl, true, false}
use Rattle.std.proofs.Common.{sym, subst, take, length, arith}
use Rattle.std.proofs.lemmas.List.{take_all}
use Rattle.std.specs.Prelude.{MatchResult, IfErr, IsErrOf}
use Rattle.boost.specs.declared.arguments.Task.{Task}
use Rattle.calls.specs.Contents.{Collection}
use Rattle.disk_model.specs.Disk.{ReadsOnly, IsAtRest, LeavesOnly, Rises}
use Rattle.disk_model.specs.declared.disk.Disk.{Ghosts}
use Rattle.disk_model.proofs.Walk.{started, weaker}
use Rattle.replay.specs.Journals.{StandsFor}
use Rattle.replay.specs.Reading.{IsSound}
use Rattle.calls.specs.Formats.{number_of}
use Rattle.calls.specs.declared.format.Format.{Format}
use Rattle.calls.specs.declared.refusal.Refusal.{Refusal}
use Rattle.recovery.specs.Formatting.{IsRoomAs, IsFormatAnswer, IsEmptyStore, IsMaking}
use Rattle.recovery.specs.Formatting.{IsFormatting}
use Rattle.recovery.specs.Openings.{KeepsContent, IsOpenRefusal}
use Rattle.recovery.specs.Refusals.{IsOpenedAtMost, OpeningLeaves, RefusalLeaves}
use Rattle.world.specs.Moves.{Whole}
use Rattle.checkpoint.specs.Crash.{Yields}
use Rattle.world.specs.Pasts.{committed_in}
use Rattle.world.proofs.PlayLemmas.{honest_of}
use Rattle.talks.specs.Plays.{IsPlayed}
use Rattle.talks.specs.Requests.{nobody, CarriesOut, PlaysLines}
use Rattle.script.specs.Scripts.{IsScriptOf, IsWhy}
use Rattle.script.specs.declared.line.ScriptError.{ScriptError}
use Rattle.boost.specs.declared.commands.failure.Failure.{Failure}
use Rattle.boost.specs.Failures.{failure_of}
use Rattle.boost.specs.Commands.{IsUnderstood, IsPlay, IsOfStore, IsWhyUnplayed, IsWhyUndone}
use Rattle.boost.specs.Commands.{status_of}
use Rattle.boost.specs.Effects.{StartsFrom, ArePlayedOn, IsPlayedOn, IsPlayedAnew, Leaves}
use Rattle.boost.specs.Effects.{IsFormatted, IsEmptyAs, FormatLeaves, IsBroughtUp}
use Rattle.boost.proofs.PlayedLemmas.{was_played}
use Rattle.talks.specs.declared.client.Client.{Client}
use Rattle.script.specs.declared.line.Line.{Line}

-- what holds anyway holds where the output was written
pub done_of : {T E X : Type 0} (r : Result T E) → X → OnOk r X
done_of (Ok v) x = x
done_of (Err e) x = tt {0}

-- bytes that stand for the content yield it, with nothing committed
yields_none : (content : List Collection) (c : List ℕ) → IsSound c × StandsFor c content →
    Yields content (committed_in []) [] c
yields_none content c fine = record {
  sound = fine.0;
  content = content;
  stands = fine.1;
  kept = [];
  begins = ([], refl);
  holds = ([], refl);
  serial = refl;
}

module _ {D : Type 0} (seen : D → List ℕ) (may_leave : D → List ℕ → Type 0) (moment : D → ℕ)
    (left_since : D → ℕ → List ℕ → Type 0) (old : D) where
  -- a disk that nobody touched
  pub untouched_keeps : ((c : List ℕ) → left_since old (moment old) c → may_leave old c) →
      KeepsContent seen may_leave moment left_since old old
  untouched_keeps only_now content rest sound stands =
      started moment left_since old _
      (λ c left. subst (λ b. IsSound b × StandsFor b content) (sym (rest c (only_now c left)))
      (sound, stands))

  pub untouched_format : (is_made : List ℕ → Type 0) →
      ((c : List ℕ) → left_since old (moment old) c → may_leave old c) →
      IsAtRest seen may_leave old → LeavesOnly moment left_since old old
      (IsMaking is_made (seen old))
  untouched_format is_made only_now rest =
      started moment left_since old _
      (λ c left. subst (IsMaking is_made (seen old)) (sym (rest c (only_now c left)))
      (inl (record { before = refl; after = refl; size = refl })))

  pub untouched_reads : ((c : List ℕ) → left_since old (moment old) c → may_leave old c) →
      ReadsOnly seen may_leave moment left_since old old
  untouched_reads only_now = record {
    same = refl;
    stop = λ c left. left;
    any_moment = started moment left_since old (may_leave old) only_now;
  }

module _ {D : Type 0} (g : Ghosts D) (old : D) where
  -- an opening that did not touch its disk
  pub unopened : ((c : List ℕ) → g.left_since old (g.moment old) c → g.may_leave old c) →
      OpeningLeaves g old old
  unopened only_now = record {
    ends = inl (inl (untouched_reads g.seen g.may_leave g.moment g.left_since old only_now));
    any_moment = λ honest.
        untouched_keeps g.seen g.may_leave g.moment g.left_since old only_now;
  }

  -- a format that did not touch its disk
  unformatted : (number area : ℕ) →
      ((c : List ℕ) → g.left_since old (g.moment old) c → g.may_leave old c) →
      FormatLeaves g number area old old
  unformatted number area only_now = record {
    ends = inl refl;
    any_moment =
        untouched_format g.seen g.may_leave g.moment g.left_since old (IsEmptyAs number) only_now;
  }

  -- a command that did not touch its disk
  pub untouched_leaves : ((c : List ℕ) → g.left_since old (g.moment old) c → g.may_leave old c) →
      (task : Task) (script : List ℕ) → Leaves g task script old old
  untouched_leaves only_now (Task.Format disk area version reserve group force) script =
      unformatted version area only_now
  untouched_leaves only_now (Task.Play disk name) script = λ honest.
      inl (unopened only_now)
  untouched_leaves only_now (Task.Show disk false) script = unopened only_now
  untouched_leaves only_now (Task.Show disk true) script =
      untouched_reads g.seen g.may_leave g.moment g.left_since old only_now
  untouched_leaves only_now (Task.Check disk) script =
      untouched_reads g.seen g.may_leave g.moment g.left_since old only_now
  untouched_leaves only_now (Task.Stat disk json) script =
      untouched_reads g.seen g.may_leave g.moment g.left_since old only_now
  untouched_leaves only_now (Task.Upgrade disk) script = record {
    ends = inl (inl (untouched_reads g.seen g.may_leave g.moment g.left_since old only_now));
    any_moment = λ honest.
        untouched_keeps g.seen g.may_leave g.moment g.left_since old only_now;
  }
  untouched_leaves only_now Task.Demo script = refl

  -- a format of a number: what it makes, and what a stop in it leaves
  pub formatted : (number area : ℕ) (new : D) → IsRoomAs number area (length (g.seen old)) →
      ((f : Format) → number ≡ number_of f → IsEmptyStore f (g.seen new)) →
      IsAtRest g.seen g.may_leave new → IsFormatted g number area old new
  formatted number area new room empty rest = record {
    room = room;
    empty = empty room.version room.numbered;
    at_rest = rest;
  }

  making : (number area : ℕ) (new : D) → IsRoomAs number area (length (g.seen old)) →
      ((f : Format) → number ≡ number_of f → IsAtRest g.seen g.may_leave old →
      LeavesOnly g.moment g.left_since old new (IsFormatting f (g.seen old))) →
      IsAtRest g.seen g.may_leave old →
      LeavesOnly g.moment g.left_since old new (IsMaking (IsEmptyAs number) (g.seen old))
  making number area new room stop rest =
      weaker g.moment g.left_since old new _ (IsMaking (IsEmptyAs number) (g.seen old))
      (stop room.version room.numbered rest)
      (λ c made. elim made [
        | inl torn ↦ inl torn
        | inr other ↦ elim other [
          | inl none ↦ inr (inl none)
          | inr empty ↦ inr (inr (record {
            version = room.version;
            numbered = room.numbered;
            empty = empty;
          }))
        ]
      ])

  pub format_leaves : (number area : ℕ) (new : D) (r : Result (Unit {0}) Refusal) →
      ((c : List ℕ) → g.left_since old (g.moment old) c → g.may_leave old c) →
      IsFormatAnswer (IsRoomAs number area (length (g.seen old)))
      (Rises (g.fault_count old) (g.fault_count new)) r →
      (IsErrOf r Refusal.BadArg → new ≡ old) →
      ((f : Format) → number ≡ number_of f → OnOk r (IsEmptyStore f (g.seen new))) →
      OnOk r (IsAtRest g.seen g.may_leave new) →
      ((f : Format) → number ≡ number_of f → IsAtRest g.seen g.may_leave old →
      LeavesOnly g.moment g.left_since old new (IsFormatting f (g.seen old))) →
      FormatLeaves g number area old new
  format_leaves number area new (Ok done) only_now answer same empty rest stop = record {
    ends = inr (inl (formatted number area new answer empty rest));
    any_moment = making number area new answer stop;
  }
  format_leaves number area new (Err Refusal.Fault) only_now answer same empty rest stop = record {
    ends = inr (inr answer);
    any_moment = making number area new answer.0 stop;
  }
  format_leaves number area new (Err Refusal.BadArg) only_now answer same empty rest stop =
      subst (λ d. FormatLeaves g number area old d) (sym (same refl))
      (unformatted number area only_now)
  format_leaves number area new (Err e) only_now answer same empty rest stop = absurd answer

  -- an upgrade that was refused
  pub refused_leaves : (new : D) (no_head : Type 0) (is_damaged : ℕ → Type 0) (no_room : Type 0)
      (e : Refusal) →
      IsOpenRefusal (Rises (g.fault_count old) (g.fault_count new)) no_head is_damaged no_room e →
      RefusalLeaves g old new e → IsOpenedAtMost g old new ⊎
      (Rises (g.fault_count old) (g.fault_count new) ⊎ (g.is_honest new → IsBroughtUp g old new))
  refused_leaves new no_head is_damaged no_room Refusal.NoMemory why left = inl left
  refused_leaves new no_head is_damaged no_room Refusal.Full why left = inl left
  refused_leaves new no_head is_damaged no_room Refusal.Fault why left = inr (inl why)
  refused_leaves new no_head is_damaged no_room Refusal.NotAStore why left = inl (inl left)
  refused_leaves new no_head is_damaged no_room (Refusal.Damaged place) why left = inl (inl left)
  refused_leaves new no_head is_damaged no_room e why left = absurd why

  -- a store was opened, and then lines were carried out
  module _ (only_now : (d : D) (c : List ℕ) → g.left_since d (g.moment d) c → g.may_leave d c)
      (counts_now : (d : D) (t : ℕ) (c : List ℕ) → t ≤ g.moment d → g.may_leave d c →
      g.left_since d t c) (w v : Whole D) (ks ls : List Client) (new : ks ≡ replicate 64 nobody)
      (keeps : g.is_honest w.keeper.disk →
      KeepsContent g.seen g.may_leave g.moment g.left_since old w.keeper.disk)
      (starts : g.is_honest w.keeper.disk → StartsFrom g old w) (played : IsPlayed g w v) where
    are_played : (lines : List Line) → CarriesOut g ks w lines ls v → g.is_honest v.keeper.disk →
        ArePlayedOn g lines old v.keeper.disk
    are_played lines carried honest =
        let before = honest_of g played.0 w v played.1 honest in
        let anew = subst (λ k. CarriesOut g k w lines ls v) new carried in record {
          opened = w;
          starts = starts before;
          keeps = keeps before;
          clients = ls;
          world = v;
          carried = anew;
          disk = refl;
          played = λ content rest sound stands.
              was_played g only_now counts_now content w v
              ((starts before).past content stands rest) old lines ls anew
              (weaker g.moment g.left_since old w.keeper.disk _
              (Yields content (committed_in []) []) (keeps before content rest sound stands)
              (yields_none content));
        }

    -- all lines were
    pub lines_played : {E F : Type 0} (lines : List Line) (r : Result (Unit {0}) E)
        (s : Result (Unit {0}) F) (f : F) → PlaysLines g ks w lines r ls v →
        MatchResult r (λ done. s ≡ Ok tt) (λ e. s ≡ Err f) →
        OnOk s (g.is_honest v.keeper.disk → ArePlayedOn g lines old v.keeper.disk)
    lines_played lines (Ok done) s f carried response =
        subst (λ q. OnOk q (g.is_honest v.keeper.disk → ArePlayedOn g lines old v.keeper.disk))
        (sym response) (are_played lines carried)
    lines_played lines (Err e) s f carried response =
        subst (λ q. OnOk q (g.is_honest v.keeper.disk → ArePlayedOn g lines old v.keeper.disk))
        (sym response) tt

    -- so many of them were
    pub lines_in_part : {E : Type 0} (lines : List Line) (r : Result (Unit {0}) E) →
        PlaysLines g ks w lines r ls v → g.is_honest v.keeper.disk →
        (n : ℕ) × ArePlayedOn g (take n lines) old v.keeper.disk
    lines_in_part lines (Ok done) carried honest = (
      length lines,
      are_played (take (length lines) lines)
          (subst (λ l. CarriesOut g ks w l ls v)
          (sym (take_all (length lines) lines (omega (arith)))) carried) honest,
    )
    lines_in_part lines (Err e) carried honest =
        (carried.0, are_played (take carried.0 lines) carried.1 honest)

-- they were those of a script, which was understood
pub script_played : {D E : Type 0} (g : Ghosts D) (old new : D) (lines : List Line)
    (script : List ℕ) (r : Result (Unit {0}) E) → IsScriptOf lines script
    → OnOk r (g.is_honest new → ArePlayedOn g lines old new) →
    OnOk r (IsUnderstood script × (g.is_honest new → IsPlayedOn g script old new))
script_played g old new lines script (Ok done) is played =
    ((lines, is), λ honest. (lines, is, played honest))
script_played g old new lines script (Err e) is played = tt

-- a failure of the store is why a script was not played that is understood
pub store_unplayed : {E : Type 0} (script : List ℕ) (same : Type 0) (r : Result E Failure) →
    IsUnderstood script → IfErr r IsOfStore → IfErr r (IsWhyUnplayed script same)
store_unplayed script same (Ok done) is why = tt
store_unplayed script same (Err (Failure.Refused refusal)) is why = inl is
store_unplayed script same (Err Failure.Unwritten) is why = tt
store_unplayed script same (Err f) is why = absurd why

-- what the reading of a script is refused for
pub script_unplayed : (script : List ℕ) (same : Type 0) (e : ScriptError) → IsWhy script e →
    same → IsWhyUnplayed script same (failure_of e)
script_unplayed script same (ScriptError.NotUnderstood line) why is = (why, is)
script_unplayed script same ScriptError.NoMemory why is = inr (refl, is)

-- why a command was not done that is no play, and one that is
pub other_undone : {E : Type 0} (task : Task) (script : List ℕ) (same : Type 0)
    (r : Result E Failure) → (IsPlay task → ⊥) → IfErr r IsOfStore →
    IfErr r (IsWhyUndone task script same)
other_undone task script same (Ok done) other why = tt
other_undone task script same (Err (Failure.Refused refusal)) other why = λ is. absurd (other is)
other_undone task script same (Err Failure.Unwritten) other why = tt
other_undone task script same (Err f) other why = absurd why

pub play_undone : {E : Type 0} (task : Task) (script : List ℕ) (same : Type 0)
    (r : Result E Failure) → IsPlay task → IfErr r (IsWhyUnplayed script same) →
    IfErr r (IsWhyUndone task script same)
play_undone task script same (Ok done) is why = tt
play_undone task script same (Err (Failure.Refused refusal)) is why = λ it. why
play_undone task script same (Err (Failure.NotUnderstood line)) is why = (is, why.0, why.1)
play_undone task script same (Err Failure.Unwritten) is why = tt
play_undone task script same (Err (Failure.CannotOpen path error)) is why = absurd why
play_undone task script same (Err (Failure.InUse path)) is why = absurd why
play_undone task script same (Err (Failure.HoldsBytes path)) is why = absurd why
play_undone task script same (Err (Failure.BadArgument why_not)) is why = absurd why

-- a play ends with status 1 only where its script is understood, or nothing was touched
pub refused_one : (task : Task) (script : List ℕ) (same : Type 0) (f : Failure) →
    status_of f ≡ 1 → IsWhyUndone task script same f → IsPlay task → IsUnderstood script ⊎ same
refused_one task script same (Failure.Refused refusal) one why is = elim (why is) [
  | inl understood ↦ inl understood
  | inr memory ↦ inr memory.1
]
refused_one task script same (Failure.NotUnderstood line) one why is = absurd (omega (arith, one))
refused_one task script same (Failure.CannotOpen path error) one why is =
    absurd (omega (arith, one))
refused_one task script same (Failure.InUse path) one why is = absurd (omega (arith, one))
refused_one task script same (Failure.HoldsBytes path) one why is = absurd why
refused_one task script same (Failure.BadArgument why_not) one why is = absurd why
refused_one task script same Failure.Unwritten one why is = absurd (omega (arith, one))

-- the stored run's lines were played, whatever is shown behind them
pub anew_played : {D E F : Type 0} (g : Ghosts D) (disk left : D) (lines : List Line)
    (script : List ℕ) (s : Result (Unit {0}) F) (r : Result (Unit {0}) E) (done : Unit {0}) →
    IsEmptyStore Format.One (g.seen disk) → IsAtRest g.seen g.may_leave disk →
    IsScriptOf lines script →
    OnOk s (g.is_honest left → ArePlayedOn g lines disk left) → s ≡ Ok done → g.is_honest left →
    OnOk r (IsPlayedAnew g script)
anew_played g disk left lines script s (Ok shown) done empty rest is played ended honest = record {
  disk = disk;
  empty = empty;
  at_rest = rest;
  left = left;
  played = (
    lines,
    is,
    subst (λ x. OnOk x (g.is_honest left → ArePlayedOn g lines disk left)) ended played honest,
  );
}
anew_played g disk left lines script s (Err e) done empty rest is played ended honest = tt
