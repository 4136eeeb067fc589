-- What each owner holds, in lists of their own.
use Rattle.std.specs.Prelude.{◌≡◌, ℕ, ◌<◌, ◌≤◌, Bool, false, Result, List, [], ◌∷◌, length, take}
use Rattle.std.specs.Prelude.{drop, All, HoldsAt, IsTrue, MatchResult, slice_index_or}
use Rattle.std.specs.List.{flat_map}
use Rattle.abstract_locks.specs.declared.table.Hold.{Hold}

-- One list: its owner, what that one holds, and for how many more there is room.
pub record Listed : Type 0 where
  pub owner : ℕ
  pub holds : List Hold
  pub room : ℕ

-- The holds of all owners, and whether there is room for one more of any of them.
pub record Noted : Type 0 where
  pub holds : List Hold
  pub ready : Bool

-- Nothing is noted, and there is no room.
abbrev pub blank : Noted
blank = record { holds = []; ready = false }

-- What stands past the last list: an empty one.
abbrev pub unlisted : Listed
unlisted = record { owner = 0; holds = []; room = 0 }

-- The list with the number.
abbrev pub listed_at : List Listed → (i : ℕ) → Listed
listed_at lists i = slice_index_or lists i unlisted

-- The holds in all of them.
abbrev pub all_noted : List Listed → List Hold
all_noted = flat_map (λ l. l.holds)

-- Each list has a lesser owner than all that follow it.
abbrev pub AreRising : List Listed → Type 0
AreRising [] = Unit {0}
AreRising (l ∷ ls) = All (λ k. l.owner < k.owner) ls × AreRising ls

-- No list is the owner's, and its own belongs at the place: lesser owners before it, and greater
-- ones from it on.
pub record IsGapFor (owner : ℕ) (lists : List Listed) (place : ℕ) : Type 0 where
  pub within : place ≤ length lists
  pub lesser : All (λ l. l.owner < owner) (take place lists)
  pub greater : All (λ l. owner < l.owner) (drop place lists)

-- Where the owner's list stands, or else where it belongs.
abbrev pub IsPlaceFor : (owner : ℕ) → List Listed → Result ℕ ℕ → Type 0
IsPlaceFor owner lists place = MatchResult place
    (λ i. (i < length lists) × HoldsAt (λ l. l.owner ≡ owner) lists i) (IsGapFor owner lists)

-- The list has its owner's holds alone.
abbrev pub HasItsOwn : Listed → Type 0
HasItsOwn l = All (λ h. h.owner ≡ l.owner) l.holds

-- The list is ready for any owner: it has no hold, and room for one.
abbrev pub IsSpare : Listed → Type 0
IsSpare l = (l.holds ≡ []) × (0 < l.room)

-- Each list has room for one more hold; and for an owner that has no list yet there is a spare one,
-- and a place for it beside the lists, of which `left` are left.
pub record HasPlaces (lists spares : List Listed) (left : ℕ) : Type 0 where
  pub room : All (λ l. 0 < l.room) lists
  pub place : 0 < left
  pub spare : 0 < length spares

-- The lists stand in the order of their owners, each with its owner's holds alone. Where it is
-- ready there are places for one more hold.
pub record AreListed (lists spares : List Listed) (left : ℕ) (ready : Bool) : Type 0 where
  pub rising : AreRising lists
  pub own : All HasItsOwn lists
  pub empty : All IsSpare spares
  pub places : IsTrue ready → HasPlaces lists spares left

-- The owner and its holds are as before.
pub record IsKept (old new : Listed) : Type 0 where
  pub owner : new.owner ≡ old.owner
  pub holds : new.holds ≡ old.holds

-- All lists are as before but for their room.
abbrev pub AreKept : (old new : List Listed) → Type 0
AreKept old new = (i : ℕ) → IsKept (listed_at old i) (listed_at new i)
