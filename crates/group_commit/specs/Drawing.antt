-- The rule of the numbers: each that was drawn is below the word, and was drawn once, by one
-- drawer. What may still be drawn does not reach the word's end.
use Rattle.std.specs.Prelude.{◌≡◌, ◌≢◌, ℕ, ◌+◌, ◌-◌, ◌*◌, ◌<◌, ◌≤◌, true, false, List, [], ◌∷◌}
use Rattle.std.specs.Prelude.{◌++◌, map, sum_by, length, Contains}
use mathlib.Core.Option.{some}
use lib.ListN.{get_elem?}
use Rattle.atomic_table.specs.Table.{Me}
use Rattle.atomic_table.specs.Seated.{TableId}
use Rattle.atomic_table.specs.declared.shared.Seat.{Seat}
use Rattle.group_commit.specs.declared.numbers.Hand.{Hand}
use Rattle.group_commit.specs.declared.numbers.Draw.{Draw}
use Rattle.group_commit.specs.declared.numbers.Report.{Report}
use Rattle.group_commit.specs.Numbers.{AreApart, AreOfOne}
use Rattle.group_commit.specs.Parties.{Among, Distinct, Sit, rest, first}

abbrev pub hand : ℕ → ℕ → List ℕ → ℕ → Hand
hand number from drawn left = record { number = number; from = from; drawn = drawn; left = left }

abbrev pub number_of : Hand → ℕ
number_of h = h.number

-- the maker's seat: how many drawers it made, how many numbers those to come may draw, and what
-- drawers reported
abbrev pub maker : ℕ → ℕ → ℕ → List Report → Draw
maker from made left reports = record {
  makes = true;
  from = from;
  made = made;
  left = left;
  hands = [];
  reports = reports;
}

-- a seat of these drawers
abbrev pub holding : List Hand → Draw
holding hands = record {
  makes = false;
  from = 0;
  made = 0;
  left = 0;
  hands = hands;
  reports = [];
}

-- what a drawer reports, and a seat of what these drawers report
abbrev pub report_of : Hand → Report
report_of h = record { drawer = h.number; drawn = h.drawn }

abbrev pub reporting : List Hand → Draw
reporting hands = record {
  makes = false;
  from = 0;
  made = 0;
  left = 0;
  hands = [];
  reports = map report_of hands;
}

abbrev pub nobody : Draw
nobody = holding []

abbrev pub drawer : Hand → Draw
drawer h = holding (h ∷ [])

-- the drawer of a seat
abbrev pub hand_of : List Hand → Hand
hand_of [] = hand 0 0 [] 0
hand_of (h ∷ hs) = h

-- the maker's seat, that made so many drawers, of at most 65,536
pub record IsMaker (m : Me (Unit {0}) Draw) (made : ℕ) : Type 0 where
  pub view : m ≡ (maker m.0.from made m.0.left m.0.reports, [])
  pub count : m.0.left + made * 1099511627776 ≡ 72057594037927936

-- the seat of a drawer, that may draw so many more numbers, of 2 to the 40
pub record IsDrawer (m : Me (Unit {0}) Draw) (left : ℕ) : Type 0 where
  pub view : m ≡ (drawer (hand_of m.0.hands), [])
  pub may : (hand_of m.0.hands).left ≡ left
  pub count : left + length (hand_of m.0.hands).drawn ≡ 1099511627776

-- how the views are cut and joined; a drawer gets 2 to the 40 numbers
abbrev pub making : Draw → Draw
making v = maker v.from (v.made + 1) (v.left - 1099511627776) v.reports

abbrev pub made_one : Draw → Draw
made_one v = drawer (hand (v.made + 1) v.from [] 1099511627776)

abbrev pub boarded : Draw → Draw → Draw
boarded v w = record {
  makes = v.makes;
  from = v.from;
  made = v.made;
  left = v.left;
  hands = w.hands ++ v.hands;
  reports = w.reports ++ v.reports;
}

abbrev pub without_first : Draw → Draw
without_first v = record {
  makes = v.makes;
  from = v.from;
  made = v.made;
  left = v.left;
  hands = rest v.hands;
  reports = v.reports;
}

abbrev pub first_alone : Draw → Draw
first_alone v = holding (first v.hands)

-- the numbers that a drawer drew are not below the first one, are below the next one, and are its
-- own
pub record Drew (made next : ℕ) (drawer_of : ℕ → ℕ) (h : Hand) : Type 0 where
  pub numbered : h.number ≤ made
  pub from : h.from ≤ next
  pub drew : (n : ℕ) → Contains h.drawn n → (h.from ≤ n) × (n < next) × (drawer_of n ≡ h.number)

-- a seat that makes drawers is the maker's
abbrev pub Makes : ℕ → ℕ → ℕ → ℕ → Draw → Type 0
Makes making made next seat v = v.makes ≡ true → (seat ≡ making) × (v.made ≡ made) × (v.from ≤ next)

-- what was reported to a seat was drawn, by who reported it
abbrev pub AreTrue : ℕ → (ℕ → ℕ) → List Report → Type 0
AreTrue next drawer_of reports = (r : Report) → Among r reports → (n : ℕ) → Contains r.drawn n →
    (n < next) × (drawer_of n ≡ r.drawer)

-- what a seat knows without its drawers
abbrev pub Knows : ℕ → ℕ → ℕ → (ℕ → ℕ) → ℕ → Draw → Type 0
Knows making made next drawer_of seat v =
    Makes making made next seat v × AreTrue next drawer_of v.reports

abbrev pub Fits : ℕ → ℕ → ℕ → (ℕ → ℕ) → (ℕ → ℕ) → ℕ → Draw → Type 0
Fits making made next drawer_of seat_of seat v = Knows making made next drawer_of seat v ×
    Sit number_of (Drew made next drawer_of) seat_of seat v.hands

-- how many numbers a seat may still draw
abbrev pub left_of : Draw → ℕ
left_of v = v.left + sum_by (λ (h : Hand). h.left) v.hands

pub record Drawn (words : List ℕ) (views : List Draw) : Type 0 where
  pub next : ℕ
  pub making : ℕ
  pub made : ℕ
  pub drawer_of : ℕ → ℕ
  pub seat_of : ℕ → ℕ
  pub words_are : words ≡ next ∷ []
  pub room : next + sum_by left_of views ≤ 2377900603251621888
  pub fits : (seat : ℕ) (v : Draw) → get_elem? views seat ≡ some v →
      Fits making made next drawer_of seat_of seat v

-- what the steps tell: of the seat before, the number found, and the seat after
abbrev pub SeatView : Type 0
SeatView = Me (Unit {0}) Draw

abbrev pub with_drawn : Hand → ℕ → Hand
with_drawn h n = hand h.number h.from (h.drawn ++ n ∷ []) (h.left - 1)

abbrev pub DrawsOne : SeatView → ℕ → SeatView → Type 0
DrawsOne m n after =
    (after.0 ≡ drawer (with_drawn (hand_of m.0.hands) n)) × ((hand_of m.0.hands).from ≤ n)
    × (Contains (hand_of m.0.hands).drawn n → ⊥) × (after.1 ≡ m.1)

-- drawers of one seat have numbers of their own, and drew none of each other's
pub record AllApart (hands : List Hand) : Type 0 where
  pub distinct : Distinct number_of hands
  pub apart : (h k : Hand) → Among h hands → Among k hands → h.number ≢ k.number →
      AreApart h.drawn k.drawn

abbrev pub Compares : SeatView → SeatView → Type 0
Compares m after =
    (after.0 ≡ m.0) × AllApart m.0.hands × AreOfOne m.0.reports × (after.1 ≡ m.1)

-- the seat is of this table, holds no slot, and knows this
abbrev pub Sits : TableId → Draw → Seat (Unit {0}) Draw → Type 0
Sits id v s = (s.table_id ≡ id) × (s.me ≡ (v, []))
