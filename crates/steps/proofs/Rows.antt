-- The rows of the machine, from the parts of its state before and after.
use Rattle.std.proofs.Common.{◌≡◌, ℕ, ◌+◌, ◌<◌, true, List, [], ◌∷◌, ◌++◌, length, refl}
use Rattle.std.proofs.Common.{arith}
use Rattle.std.specs.FinMap as maps
use Rattle.calls.specs.declared.format.Format.{Format}
use Rattle.calls.specs.declared.kind.Kind.{Kind}
use Rattle.calls.specs.Names.{IsName}
use Rattle.calls.specs.Transactions.{Event, Entry, Asked, Deferred}
use Rattle.calls.specs.declared.refusal.Refusal.{Refusal}
use Rattle.catalog.specs.Making as naming
use Rattle.records.specs.declared.record.Record.{Record}
use Rattle.abstract_locks.specs.declared.table.Hold.{Hold}
use Rattle.abstract_locks.specs.Holds.{hold, IsAdded, IsClear}
use Rattle.undo_log.specs.Entries.{place_of, need_to_take}
use Rattle.undo_log.specs.Logs.{Statuses, Log}
use Rattle.steps.specs.Shelves.{IsAnswered, taken}
use Rattle.steps.specs.Machine.{State, MakeRow}
use Rattle.steps.specs.Machine.{CanCall, ReadRow, CanAccept, AcceptRow}
use Rattle.steps.specs.Machines.{resting, unmade, HasRoomFor, StepAnswers}
use Rattle.steps.specs.Views.{state_of}
use Rattle.boosted.specs.Meaning.{Meaning}
use Rattle.catalog.specs.Making.{Making, MakingLaws}
use Rattle.calls.specs.Rules.{need_of}
use Rattle.calls.specs.Reads.{reads}

-- States whose parts are the same.
pub same_parts : {S : Type 0} (format : Format) {now now' : S} {live live' : Statuses}
    {entries entries' : List (ℕ × Entry)} {holds holds' : List Hold} {wear wear' : ℕ} →
    now ≡ now' → live ≡ live' → entries ≡ entries' → holds ≡ holds' → wear ≡ wear' →
    ◌≡◌ {A = State S}
    (record {
      now = now;
      live = live;
      entries = entries;
      holds = holds;
      wear = wear;
      format = format;
    })
    (record {
      now = now';
      live = live';
      entries = entries';
      holds = holds';
      wear = wear';
      format = format;
    })
same_parts format a b c d e = rw (a, b, c, d, e) refl

-- a state with no live transaction
pub resting_is : {S : Type 0} (format : Format) (now : S) (wear : ℕ) (now' : S)
    (held' : List Hold) (log' : Log) (wear' : ℕ) → now' ≡ now → held' ≡ [] →
    log'.live ≡ maps.empty → log'.entries ≡ [] → wear' ≡ wear →
    state_of format now' held' log' wear' ≡ resting format now wear
resting_is format now wear now' held' log' wear' there none_held live entries worn =
    same_parts format there live entries none_held worn

-- A collection is made: its name was free, and there were fewer than 256.
pub made_row : {S : Type 0} {meaning : Meaning S ℕ} {making : Making S}
    (laws : MakingLaws meaning making) (format : Format) (now : S) (held : List Hold) (log : Log)
    (wear : ℕ)
    (name : List ℕ) (kind : Kind) (now' : S) (at : ℕ) →
    IsName name → at ≡ length (making.names now) → at < 256 → making.makes now name kind now' →
    MakeRow making (state_of format now held log wear) name kind
    (state_of format now' held log wear)
made_row laws format now held log wear name kind now' at good is few made =
    record {
      new = record {
        good = good;
        free = (laws.makes_named now now' name kind made).0;
        few = omega (arith, is, few);
      };
      next = now';
      made = made;
      is = refl;
    }

-- What can be taken is answered by the collections, and its need is free.
module _ {S : Type 0} (meaning : Meaning S ℕ) (s : State S) (n : ℕ) where
  pub can_answer : (e : Entry) → CanAccept meaning s n e → IsAnswered meaning s.now e
  can_answer (Asked e) can = can.answered
  can_answer (Deferred at c) can = tt

  pub can_clear : (e : Entry) → CanAccept meaning s n e →
      IsClear s.holds n (place_of e) (need_to_take e)
  can_clear (Asked e) can = can.clear
  can_clear (Deferred at c) can = can.clear

module _ {S : Type 0} (format : Format) (now : S) (held : List Hold) (log : Log) (wear n : ℕ)
  where
    abbrev before : State S
    before = state_of format now held log wear

    -- what the machine holds then
    module _ (now' : S) (held' : List Hold) (log' : Log) (wear' : ℕ) where
      abbrev behind : State S
      behind = state_of format now' held' log' wear'

      module _ (meaning : Meaning S ℕ) where
        -- What is asked for is taken and noted.
        pub taken_row : (e : Entry) → CanAccept meaning before n e → HasRoomFor before 1 →
            IsAdded held held' (hold n (place_of e) (need_to_take e)) → now' ≡ taken meaning now e →
            log'.live ≡ log.live → log'.entries ≡ log.entries ++ (n, e) ∷ [] → wear' ≡ wear + 1 →
            AcceptRow meaning before n e behind
        taken_row (Asked e) can room added made live entries worn = record {
          can = can;
          room = room;
          holds = added;
          is = same_parts format made live entries refl worn;
        }
        taken_row (Deferred at c) can room added there live entries worn = record {
          can = can;
          room = room;
          holds = added;
          is = same_parts format there live entries refl worn;
        }

        -- A call that only reads is noted.
        pub read_row : (e : Event) → CanCall meaning before n e → reads e.call e.reply ≡ true →
            HasRoomFor before 1 → IsAdded held held' (hold n e.at (need_of e.call e.reply)) →
            now' ≡ now → log'.live ≡ log.live → log'.entries ≡ log.entries ++ (n, Asked e) ∷ [] →
            wear' ≡ wear → ReadRow meaning before n e behind
        read_row e can only_reads room added there live entries worn = record {
          can = can;
          only_reads = only_reads;
          room = room;
          holds = added;
          is = same_parts format there live entries refl worn;
        }

-- A making that the collections refuse is none of the machine's steps.
pub make_stuck : {S : Type 0} (making : Making S) (steps : State S → Record → State S → Type 0)
    (s t : State S) (name : List ℕ) (kind : Kind) (e : Refusal) →
    ((v : State S) → steps s (Record.Make kind name) v → MakeRow making s name kind v) → t ≡ s →
    naming.MakeRefused (making.names s.now) name e →
    StepAnswers steps s (Record.Make kind name) (unmade e) t
make_stuck making steps s t name kind Refusal.NoMemory rows same is = same
make_stuck making steps s t name kind Refusal.NameTaken rows same is =
    (same, λ v step. (rows v step).new.free is.1)
make_stuck making steps s t name kind Refusal.TooManyCollections rows same is =
    (same, λ v step. let few = (rows v step).new.few in let many = is.2 in absurd (omega arith))
make_stuck making steps s t name kind Refusal.BadName rows same is =
    (same, λ v step. is (rows v step).new.good.spelt)
make_stuck making steps s t name kind Refusal.TooLong rows same is = (
  same,
  λ v step. let short = (rows v step).new.good.short in let long = is.1 in
      absurd (omega arith),
)
make_stuck making steps s t name kind e rows same is = absurd is
