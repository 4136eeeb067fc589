-- The holds on one collection, in segments.
use Rattle.std.specs.Prelude.{◌≡◌, ℕ, suc, ◌+◌, ◌<◌, ◌≤◌, nat_le, Bool, true, List, [], ◌∷◌}
use Rattle.std.specs.Prelude.{length, take, drop, Contains, min, All, Option, Some, None}
use Rattle.std.specs.Prelude.{IfSome, MatchOption}
use Rattle.std.specs.List.{flat_map}
use Rattle.std.specs.Ordering.{is_le}
use Rattle.calls.specs.declared.need.Need.{Need}
use Rattle.calls.specs.Rules.{Overlap}
use Rattle.abstract_locks.specs.declared.bounds.Bounds.{Bounds}
use Rattle.abstract_locks.specs.declared.table.Hold.{Hold}
use Rattle.abstract_locks.specs.Bounds.{IsWithin}
use Rattle.abstract_locks.specs.Holds.{IsClear, IsBusy}
use Rattle.abstract_locks.specs.Order.{Rises, Precedes, compare}

-- How many holds a segment has at most.
abbrev pub segment_size : ℕ
segment_size = 128

-- The holds of a segment stand in their order, are within its bounds, are not too many, and there
-- is room for as many as there may be.
pub record IsSegment (bounds : Bounds) (holds : List Hold) (capacity : ℕ) : Type 0 where
  pub rises : Rises holds
  pub within : All (IsWithin bounds) holds
  pub few : length holds ≤ segment_size
  pub room : segment_size ≤ capacity

-- What is held in all segments.
abbrev pub all_holds : List (List Hold) → List Hold
all_holds = flat_map (λ s. s)

-- The holds stand in their order, and no segment is empty, but where it is the only one.
pub record AreOrdered (segments : List (List Hold)) : Type 0 where
  pub rise : Rises (all_holds segments)
  pub filled : 1 < length segments → All (λ s. 0 < length s) segments

-- All holds are within the bounds, and the spare segment has none.
pub record AreSegments (bounds : Bounds) (segments : List (List Hold))
    (spare : Option (List Hold)) : Type 0 where
  pub ordered : AreOrdered segments
  pub within : All (IsWithin bounds) (all_holds segments)
  pub empty : IfSome spare (λ s. s ≡ [])

-- For how many more holds there is room in any case: for none without a spare segment, and else
-- for as many as there are places for segments.
abbrev pub room_with : (spare : Option (List Hold)) → (places : ℕ) → ℕ
room_with None places = 0
room_with (Some s) places = places

-- The hold belongs to the segment at the place: those before it precede it, and it precedes those
-- of the segments behind it.
pub record IsSegmentOf (segments : List (List Hold)) (h : Hold) (place : ℕ) : Type 0 where
  pub within : 0 < length segments → place < length segments
  pub front : All (λ g. Precedes g h) (all_holds (take place segments))
  pub back : All (Precedes h) (all_holds (drop (suc place) segments))

-- The segment begins with a hold that does not stand behind this one, or has none.
abbrev pub begins_by : Hold → List Hold → Bool
begins_by h [] = true
begins_by h (g ∷ gs) = is_le (compare g h)

-- The segment begins with a hold whose lowest key is at most this one, or has none.
abbrev pub begins_to : (key : ℕ) → List Hold → Bool
begins_to key [] = true
begins_to key (g ∷ gs) = nat_le g.need.low key

-- No hold spans farther than the widest, from its lowest key to its highest.
abbrev pub AreNarrow : (widest : ℕ) → List Hold → Type 0
AreNarrow widest = All (λ h. h.need.high ≤ h.need.low + widest)

-- Of the holds these are some, and all that overlap the need are among them.
pub record AreInReach (holds : List Hold) (need : Need) (some : List Hold) : Type 0 where
  pub held : (h : Hold) → Contains some h → Contains holds h
  pub overlapping : (h : Hold) → Contains holds h → Overlap h.need need → Contains some h

-- The least other owner of a hold that keeps the need from the owner, or none.
abbrev pub IsLeast : List Hold → (owner at : ℕ) → Need → (least : Option ℕ) → Type 0
IsLeast holds owner at need least =
    MatchOption least (IsClear holds owner at need) (IsBusy holds owner at need)

-- The lesser of the numbers, where there are any.
abbrev pub lesser : Option ℕ → Option ℕ → Option ℕ
lesser (Some a) (Some b) = Some (min a b)
lesser (Some a) None = Some a
lesser None b = b
