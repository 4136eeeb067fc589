-- A state behind another one: what an image keeps of a book, and what the records that follow make
-- of it.
use Rattle.std.specs.Prelude.{◌≡◌, ◌↔◌, ◌⊎◌, ℕ, List, [], ◌∷◌, Contains}
use Rattle.std.specs.FinMap as maps
use Rattle.calls.specs.Formats.{Allows}
use Rattle.calls.specs.Transactions.{Entry, Asked, Deferred}
use Rattle.abstract_locks.specs.declared.table.Hold.{Hold}
use Rattle.undo_log.specs.Logs.{Statuses, Lives, Falls}
use Rattle.replay.specs.Steps.{State}

-- a falling transaction defer it: it will never run
abbrev pub IsInVain : Statuses → ℕ × Entry → Type 0
IsInVain live (n, Asked e) = ⊥
IsInVain live (n, Deferred at call) = Falls live n

-- The first list is the second without some of what is there in vain.
abbrev pub IsThinned : Statuses → List (ℕ × Entry) → List (ℕ × Entry) → Type 0
IsThinned live few [] = few ≡ []
IsThinned live few (e ∷ all) = (IsInVain live e × IsThinned live few all) ⊎
    ((rest : List (ℕ × Entry)) × (few ≡ e ∷ rest) × IsThinned live rest all)

-- The first state lags behind the second. The same transactions are live, but one may be falling in
-- the second alone; some of what falling ones deferred, and some of the needs held, may be missing;
-- and the first may be of a later format.
pub record Lags (s t : State) : Type 0 where
  pub now : s.now ≡ t.now
  pub wear : s.wear ≡ t.wear
  pub format : Allows t.format s.format
  pub few : maps.len s.live ≡ maps.len t.live
  pub lives : (n : ℕ) → Lives s.live n ↔ Lives t.live n
  pub falls : (n : ℕ) → Falls s.live n → Falls t.live n
  pub entries : IsThinned t.live s.entries t.entries
  pub holds : (h : Hold) → Contains s.holds h → Contains t.holds h
