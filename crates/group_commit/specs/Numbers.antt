-- Numbers of transactions, as those who draw them know them.
use Rattle.std.specs.Prelude.{◌≡◌, ℕ, ◌+◌, ◌<◌, ◌≤◌, ◌^◌, ◌⊎◌, List, ◌∷◌, [], ◌++◌, length}
use Rattle.std.specs.Prelude.{Contains}
use Rattle.calls.specs.Limits.{number_end}
use Rattle.atomic_table.specs.Seated.{TableId}
use Rattle.group_commit.specs.declared.numbers.Report.{Report}
use Rattle.group_commit.specs.Parties.{Among}

-- the number from which on numbers are drawn, how many drawers were made, and what drawers reported
pub record MakerState : Type 0 where
  pub table : TableId
  pub from : ℕ
  pub made : ℕ
  pub reports : List Report

-- a drawer's own number, and the numbers that it drew, in order
pub record DrawerState : Type 0 where
  pub table : TableId
  pub from : ℕ
  pub number : ℕ
  pub drawn : List ℕ

-- one more drawer was made
abbrev pub with_drawer : MakerState → MakerState
with_drawer m = record {
  table = m.table;
  from = m.from;
  made = m.made + 1;
  reports = m.reports;
}

-- what the drawer drew was reported
abbrev pub with_report : MakerState → DrawerState → MakerState
with_report m d = record {
  table = m.table;
  from = m.from;
  made = m.made;
  reports = record { drawer = d.number; drawn = d.drawn } ∷ m.reports;
}

-- the drawer reported that it drew the number
abbrev pub IsReported : List Report → (drawer n : ℕ) → Type 0
IsReported reports drawer n =
    (r : Report) × Among r reports × (r.drawer ≡ drawer) × Contains r.drawn n

-- each number that was reported is of one drawer
abbrev pub AreOfOne : List Report → Type 0
AreOfOne reports =
    (one other n : ℕ) → IsReported reports one n → IsReported reports other n → one ≡ other

-- the number was drawn
abbrev pub with_number : DrawerState → ℕ → DrawerState
with_number d n = record {
  table = d.table;
  from = d.from;
  number = d.number;
  drawn = d.drawn ++ n ∷ [];
}

-- the number was drawn, which is not below the first one, and which this drawer did not draw before
pub record Draws (before : DrawerState) (n : ℕ) (after : DrawerState) : Type 0 where
  pub few : length before.drawn < 2 ^ 40
  pub after_is : after ≡ with_number before n
  pub from : before.from ≤ n
  pub fresh : Contains before.drawn n → ⊥

-- the drawer had drawn 2 to the 40 numbers, or it drew one of 2 to the 61 and more
abbrev pub IsWorn : DrawerState → DrawerState → Type 0
IsWorn before after =
    ((length before.drawn ≡ 2 ^ 40) × (after ≡ before))
    ⊎ ((n : ℕ) × (number_end ≤ n) × Draws before n after)

-- no number is in both lists
abbrev pub AreApart : List ℕ → List ℕ → Type 0
AreApart one other = (n : ℕ) → Contains one n → Contains other n → ⊥
