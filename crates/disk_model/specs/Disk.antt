-- What the calls of a disk do to its bytes, and what a stop may do between two syncs.
use Rattle.std.specs.Prelude.{◌<◌, ◌≡◌, ◌⊎◌, ℕ, ◌+◌, ◌-◌, ◌^◌, ◌≤◌, List, ◌++◌, length, take, drop}
use Rattle.std.specs.Prelude.{Result, IsErr}
use Rattle.disk_model.specs.declared.disk.Fault.{Fault}

-- new is old with these bytes at this place
abbrev pub Overwritten : ℕ → List ℕ → List ℕ → List ℕ → Type 0
Overwritten at bytes old new = new ≡ take at old ++ bytes ++ drop (at + length bytes) old

-- new is old with any n bytes at this place
pub record Torn (at n : ℕ) (old new : List ℕ) : Type 0 where
  pub before : take at new ≡ take at old
  pub after : drop (at + n) new ≡ drop (at + n) old
  pub size : length new ≡ length old

-- each new outcome of a stop is an old outcome after a step
abbrev pub Follows : (List ℕ → List ℕ → Type 0) → (List ℕ → Type 0) → (List ℕ → Type 0) → Type 0
Follows step old new = (c : List ℕ) → new c → (d : List ℕ) × old d × step d c

-- a stop leaves these bytes and no others
abbrev pub Only : List ℕ → (List ℕ → Type 0) → Type 0
Only bytes outcomes = (c : List ℕ) → outcomes c → c ≡ bytes

-- a stop now leaves only what a read gives
abbrev pub IsAtRest : {D : Type 0} → (D → List ℕ) → (D → List ℕ → Type 0) → D → Type 0
IsAtRest seen may_leave disk = Only (seen disk) (may_leave disk)

-- Time goes on: a stop since t might have left what it might have left before, or what it may leave
-- now.
pub record Elapses (before now : ℕ) (past since : ℕ → List ℕ → Type 0)
    (may_leave : List ℕ → Type 0) : Type 0 where
  pub later : before ≤ now
  pub nothing_else : (t : ℕ) (c : List ℕ) → t ≤ before → since t c → past t c ⊎ may_leave c
  pub keeps : (t : ℕ) (c : List ℕ) → t ≤ before → past t c → since t c

-- a count of faults rose; one that has reached the greatest number stays there, which counts as
-- risen
abbrev pub Rises : ℕ → ℕ → Type 0
Rises before now = before < 2 ^ 64 - 1 → before < now

-- a fault is told only where the count rose
pub record HasCause {T : Type 0} (before now : ℕ) (result : Result T Fault) : Type 0 where
  pub later : before ≤ now
  pub risen : IsErr result → Rises before now

-- A stop at any moment since old leaves bytes that have P.
pub record LeavesOnly {D : Type 0} (moment : D → ℕ) (left_since : D → ℕ → List ℕ → Type 0)
    (old new : D) (P : List ℕ → Type 0) : Type 0 where
  pub later : moment old ≤ moment new
  pub each : (c : List ℕ) → left_since new (moment old) c → P c
  -- for a run that began earlier
  pub before : (t : ℕ) (c : List ℕ) → t ≤ moment old → left_since new t c → left_since old t c ⊎ P c

-- some outcome from before, with any n bytes at this place
abbrev pub WasTorn : ℕ → ℕ → (List ℕ → Type 0) → List ℕ → Type 0
WasTorn at n before c = (d : List ℕ) × before d × Torn at n d c

-- Nothing changed but time: a read gives the same, and a stop at any moment since old leaves what
-- it could have left then.
pub record ReadsOnly {D : Type 0} (seen : D → List ℕ) (may_leave : D → List ℕ → Type 0)
    (moment : D → ℕ) (left_since : D → ℕ → List ℕ → Type 0) (old new : D) : Type 0 where
  pub same : seen new ≡ seen old
  pub stop : (c : List ℕ) → may_leave new c → may_leave old c
  pub any_moment : LeavesOnly moment left_since old new (may_leave old)
