-- A shelf: what its collections hold, the needs that are held on them, and what a commit runs
-- there.
use Rattle.std.specs.Prelude.{◌≢◌, ⊤, ℕ, ◌+◌, ◌≤◌, ◌==◌, ◌%◌, List, length, Option, Some, None}
use Rattle.std.specs.List.{AllByRecursion, filter}
use Rattle.calls.specs.Rules.{Disposable}
use Rattle.calls.specs.Transactions.{Event, Entry, Asked, Deferred, Leads}
use Rattle.calls.specs.Limits.{max_wear}
use Rattle.undo_log.specs.Entries.{place_of}
use Rattle.abstract_locks.specs.declared.table.Hold.{Hold}
use Rattle.abstract_locks.specs.Holds.{IsGivenUp}
use Rattle.boosted.specs.Meaning as shape
use Rattle.boosted.specs.Meaning.{Meaning}

-- A shelf as contracts see it. C: contents of its collections.
pub record ShelfState (C : Type 0) : Type 0 where
  -- what the collections hold now
  pub now : C
  -- the needs that live transactions hold on them
  pub holds : List Hold

-- The call, answered so, leads from one content to another.
abbrev pub Does : {C : Type 0} → Meaning C ℕ → C → Event → C → Type 0
Does meaning s e t = shape.Does meaning s e.at e.call e.reply t

-- The calls can be made from the content one after another: each may run in a commit, and there is
-- room in the wear for all.
pub record CanRun {C : Type 0} (meaning : Meaning C ℕ) (es : List Event) (s : C) : Type 0 where
  pub next : C
  pub runs : Leads (Does meaning) es s next
  pub late : AllByRecursion (λ e. Disposable e.call) es
  pub wear : ℕ
  pub reached : meaning.within s wear
  pub room : wear + length es ≤ max_wear

-- The calls of the collections whose numbers leave the quarter on division by 4, in their order.
abbrev pub on_quarter : ℕ → List Event → List Event
on_quarter quarter es = filter (λ e. e.at % 4 == quarter) es

-- All calls, or those of a quarter alone.
abbrev pub of_quarter : Option ℕ → List Event → List Event
of_quarter None es = es
of_quarter (Some quarter) es = on_quarter quarter es

-- The collection of what was asked for is in another quarter.
abbrev pub IsOutside : Option ℕ → Entry → Type 0
IsOutside None e = ⊥
IsOutside (Some quarter) e = place_of e % 4 ≢ quarter

-- The collections can answer what is asked for as it tells. Nothing is asked of a call that is put
-- off: it does nothing yet.
abbrev pub IsAnswered : {C : Type 0} → Meaning C ℕ → C → Entry → Type 0
IsAnswered meaning s (Asked e) = meaning.answers s e.at e.call e.reply
IsAnswered meaning s (Deferred at c) = ⊤

-- What they hold then.
abbrev pub taken : {C : Type 0} → Meaning C ℕ → C → Entry → C
taken meaning s (Asked e) = meaning.leaves s e.at e.call e.reply
taken meaning s (Deferred at c) = s

-- A transaction is settled on the shelf: these calls ran, and its needs are gone.
pub record Settles {C : Type 0} (meaning : Meaning C ℕ) (s : ShelfState C) (number : ℕ)
    (laters : List Event) (t : ShelfState C) : Type 0 where
  pub runs : Leads (Does meaning) laters s.now t.now
  pub holds : IsGivenUp s.holds t.holds number
