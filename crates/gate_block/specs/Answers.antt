-- When each answer of a row of blocks comes.
use Rattle.std.specs.Prelude.{◌≡◌, ℕ, Bool, true, false, Result, Ok, Err, ⊤}
use Rattle.calls.specs.declared.refusal.Refusal.{Refusal}
use Rattle.gate_block.specs.declared.read_error.ReadError.{ReadError}

-- when a block has its place at the next gate, and why not
abbrev pub IsPlaceAnswer : Bool → Type 0 → Result (Unit {0}) Refusal → Type 0
IsPlaceAnswer failed is_full (Ok done) = (failed ≡ false) × ¬ is_full
IsPlaceAnswer failed is_full (Err Refusal.Full) = (failed ≡ false) × is_full
IsPlaceAnswer failed is_full (Err Refusal.Failed) = failed ≡ true
IsPlaceAnswer failed is_full (Err other) = ⊥

-- when each answer of an append comes, and whether the area has failed before and after it
abbrev pub IsAppendAnswer : Bool → Bool → Type 0 → Type 0 → Result (Unit {0}) Refusal → Type 0
IsAppendAnswer failed fails is_full is_risen (Ok done) =
    (failed ≡ false) × (fails ≡ false) × ¬ is_full
IsAppendAnswer failed fails is_full is_risen (Err Refusal.Full) =
    (failed ≡ false) × (fails ≡ false) × is_full
IsAppendAnswer failed fails is_full is_risen (Err Refusal.Failed) = (failed ≡ true) × (fails ≡ true)
IsAppendAnswer failed fails is_full is_risen (Err Refusal.Fault) =
    (failed ≡ false) × (fails ≡ true) × ¬ is_full × is_risen
IsAppendAnswer failed fails is_full is_risen (Err other) = ⊥

-- when each answer of the next block comes, and whether the area has failed before and after it
abbrev pub IsNextAnswer : {T : Type 0} → Bool → Bool → Type 0 → (ℕ → Type 0) → Result T Refusal →
    Type 0
IsNextAnswer failed fails is_risen is_damaged (Ok found) = (failed ≡ false) × (fails ≡ false)
IsNextAnswer failed fails is_risen is_damaged (Err Refusal.NoMemory) =
    (failed ≡ false) × (fails ≡ false)
IsNextAnswer failed fails is_risen is_damaged (Err (Refusal.Damaged place)) =
    (failed ≡ false) × (fails ≡ false) × is_damaged place
IsNextAnswer failed fails is_risen is_damaged (Err Refusal.Fault) =
    (failed ≡ false) × (fails ≡ true) × is_risen
IsNextAnswer failed fails is_risen is_damaged (Err Refusal.Failed) =
    (failed ≡ true) × (fails ≡ true)
IsNextAnswer failed fails is_risen is_damaged (Err other) = ⊥

-- when each error of a reading comes
abbrev pub IsReadError : Type 0 → (ℕ → Type 0) → ReadError → Type 0
IsReadError is_risen is_damaged ReadError.NoMemory = ⊤
IsReadError is_risen is_damaged (ReadError.Damaged place) = is_damaged place
IsReadError is_risen is_damaged ReadError.Fault = is_risen
