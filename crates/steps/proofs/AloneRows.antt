-- A step of the transactions alone, with a shelf beside them; and what a step leaves that may be
-- refused.
use Rattle.std.proofs.Common.{◌≡◌, ℕ, length, refl, sym, ◌∙◌, ap, subst, Result, Ok, Err, arith}
use Rattle.std.specs.Prelude.{OnOk, OnErr}
use Rattle.std.specs.FinMap as maps
use Rattle.calls.specs.Transactions.{Leads, own, others, laters_of}
use Rattle.abstract_locks.specs.Holds.{IsGivenUp}
use Rattle.undo_log.specs.Entries.{HasNoCall}
use Rattle.undo_log.specs.Logs.{Lives, Falls}
use Rattle.boosted.specs.Meaning.{Meaning}
use Rattle.steps.specs.Shelves.{ShelfState}
use Rattle.steps.specs.Machine.{State, Does, BeginRow, CommitRow, EndedRow, FallRow, UnreadRow}
use Rattle.steps.specs.Wholes.{TransactionsState, state_on}
use Rattle.steps.specs.TransactionTables.{alone, finished}

abbrev transactions_in : {S : Type 0} → State S → TransactionsState
transactions_in s = record {
  live = s.live;
  entries = s.entries;
  wear = s.wear;
  format = s.format;
}

module _ {S : Type 0} (a b : TransactionsState) (n : ℕ) (s : ShelfState S) where
  pub begin_on : BeginRow (alone a) n (alone b) → BeginRow (state_on a s) n (state_on b s)
  begin_on row = record {
    can = record { number = row.can.number; fresh = row.can.fresh; few = row.can.few };
    room = row.room;
    is = ap (λ (v : State _). state_on (transactions_in v) s) row.is;
  }

  pub fall_on : FallRow (alone a) n (alone b) → FallRow (state_on a s) n (state_on b s)
  fall_on row = record {
    live = row.live;
    undone = row.undone;
    is = ap (λ (v : State _). state_on (transactions_in v) s) row.is;
  }

  pub unread_on : UnreadRow (alone a) n (alone b) → UnreadRow (state_on a s) n (state_on b s)
  unread_on row = record {
    live = row.live;
    call = row.call;
    rest = row.rest;
    newest = row.newest;
    only_reads = row.only_reads;
    is = ap (λ (v : State _). state_on (transactions_in v) s) row.is;
  }

-- TransactionTable and shelf are as before.
pub same_on : {S : Type 0} {a b : TransactionsState} {s t : ShelfState S} → b ≡ a → t ≡ s →
    state_on b t ≡ state_on a s
same_on {S} {a} {b} {s} {t} transactions shelf =
    ap (λ v. state_on v t) transactions ∙ ap (state_on a) shelf

-- What holds before a step, and behind it where it was taken, holds behind it.
pub kept_if : {S X E : Type 0} (P : State S → Type 0) {s t : State S} {Row Same : Type 0}
    (r : Result X E) → OnOk r Row → OnErr r Same → (Row → P t) → (Same → t ≡ s) → P s → P t
kept_if P (Ok x) ok err taken same old = taken ok
kept_if P (Err e) ok err taken same old = subst P (sym (same err)) old

-- ---- a transaction is taken out

module _ {S : Type 0} (meaning : Meaning S ℕ) (a : TransactionsState) (s : ShelfState S) (n : ℕ)
    (t : ShelfState S) (lives : Lives a.live n) (given : IsGivenUp s.holds t.holds n) where
  -- What it deferred ran.
  pub commit_on : (Falls a.live n → ⊥) →
      Leads (Does meaning) (laters_of (own n a.entries)) s.now t.now →
      CommitRow meaning (state_on a s) n
      (state_on (finished n (length (laters_of (own n a.entries))) a) t)
  commit_on standing runs = record {
    running = record { live = lives; standing = standing };
    next = t.now;
    runs = runs;
    left = record { holds = given; is = refl };
  }

  -- Nothing of it was left to undo.
  pub ended_on : HasNoCall n a.entries → t.now ≡ s.now →
      EndedRow (state_on a s) n (state_on (finished n 0 a) t)
  ended_on undone same = record {
    live = lives;
    undone = undone;
    left = record {
      holds = given;
      is = ap (λ now. state_on (finished n 0 a) (record t { now = now })) same ∙
          ap (λ wear. let v : State S = record {
            now = s.now;
            live = maps.remove a.live n;
            entries = others n a.entries;
            holds = t.holds;
            wear = wear;
            format = a.format;
          } in v) (omega arith);
    };
  }
