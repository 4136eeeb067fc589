-- The rule of the line: there is one history, which the book's seat knows whole. Each party has
-- seen a beginning of it, behind which no step is the party's. No step is of a number that no
-- client has: they are counted from 1 on.
use Rattle.std.specs.Prelude.{◌≡◌, ℕ, ◌+◌, ◌<◌, ◌≤◌, true, false, List, [], ◌∷◌, ◌++◌, length}
use mathlib.Core.Option.{some}
use lib.ListN.{get_elem?}
use Rattle.atomic_table.specs.Table.{Me}
use Rattle.atomic_table.specs.Seated.{TableId}
use Rattle.atomic_table.specs.declared.shared.Seat.{Seat}
use Rattle.txn.specs.declared.actions.BookStep.{BookStep}
use Rattle.group_commit.specs.declared.view.Party.{Party}
use Rattle.group_commit.specs.declared.view.View.{View}
use Rattle.group_commit.specs.Lines.{concerns, steps_of, numbers_of, AreDifferent, AreOf}
use Rattle.group_commit.specs.Lines.{HaveSeenOne}
use Rattle.group_commit.specs.Parties.{Among, Has, Distinct, Sit, rest, first}

abbrev pub party : ℕ → List BookStep → Party
party number seen = record { number = number; seen = seen }

abbrev pub number_of : Party → ℕ
number_of p = p.number

-- the book's seat, with these parties
abbrev pub hosting : List BookStep → ℕ → List Party → View
hosting all made parties = record { keeps = true; all = all; made = made; parties = parties }

-- a seat of these parties alone
abbrev pub alone : List Party → View
alone parties = record { keeps = false; all = []; made = 0; parties = parties }

abbrev pub book : List BookStep → ℕ → View
book all made = hosting all made []

abbrev pub client : ℕ → List BookStep → View
client number seen = alone (party number seen ∷ [])

abbrev pub nobody : View
nobody = alone []

-- the party of a client's seat
abbrev pub party_of : List Party → Party
party_of [] = party 0 []
party_of (p ∷ ps) = p

-- how the views are cut and joined
abbrev pub admitting : View → View
admitting v = record { keeps = v.keeps; all = v.all; made = v.made + 1; parties = v.parties }

abbrev pub admitted : View → View
admitted v = client (v.made + 1) []

abbrev pub boarded : View → View → View
boarded v w = record {
  keeps = v.keeps;
  all = v.all;
  made = v.made;
  parties = w.parties ++ v.parties;
}

abbrev pub without_first : View → View
without_first v = record { keeps = v.keeps; all = v.all; made = v.made; parties = rest v.parties }

abbrev pub first_alone : View → View
first_alone v = alone (first v.parties)

-- the party has seen a beginning of the list, behind which no step is its own
pub record Began (whole : List BookStep) (p : Party) : Type 0 where
  pub later : List BookStep
  pub begun : p.seen ++ later ≡ whole
  pub none : steps_of p.number later ≡ []

-- so many clients have these numbers
abbrev pub IsNumber : (made : ℕ) → ℕ → Type 0
IsNumber made n = (0 < n) × (n ≤ made)

pub record Agrees (made : ℕ) (log : List BookStep) (p : Party) : Type 0 where
  pub numbered : IsNumber made p.number
  pub began : Began log p

-- a seat that keeps the history is the book's, and knows it whole
abbrev pub Keeps : ℕ → ℕ → List BookStep → ℕ → View → Type 0
Keeps book made log seat v = v.keeps ≡ true → (seat ≡ book) × (v.all ≡ log) × (v.made ≡ made)

abbrev pub Fits : ℕ → ℕ → (ℕ → ℕ) → List BookStep → ℕ → View → Type 0
Fits book made seat_of log seat v =
    Keeps book made log seat v × Sit number_of (Agrees made log) seat_of seat v.parties

pub record Kept (views : List View) : Type 0 where
  pub book : ℕ
  pub made : ℕ
  pub seat_of : ℕ → ℕ
  pub log : List BookStep
  pub fresh : (n : ℕ) → (IsNumber made n → ⊥) → steps_of n log ≡ []
  pub fits : (seat : ℕ) (v : View) → get_elem? views seat ≡ some v →
      Fits book made seat_of log seat v

-- all parties have seen the list
abbrev pub all_seeing : List BookStep → List Party → List Party
all_seeing steps [] = []
all_seeing steps (p ∷ ps) = party p.number steps ∷ all_seeing steps ps

abbrev pub tallied : BookStep → View → View
tallied step v =
    record {
      keeps = v.keeps;
      all = v.all ++ step ∷ [];
      made = v.made;
      parties = all_seeing (v.all ++ step ∷ []) v.parties;
    }

-- whose step it is, is among the parties
abbrev pub IsTold : BookStep → List Party → Type 0
IsTold step parties = (n : ℕ) → concerns n step ≡ true → Has number_of n parties

abbrev pub AllBegan : List BookStep → List Party → Type 0
AllBegan whole parties = (p : Party) → Among p parties → Began whole p

-- what the steps tell: of the seat before and after
abbrev pub SeatView : Type 0
SeatView = Me (Unit {0}) View

abbrev pub Tallies : BookStep → SeatView → SeatView → Type 0
Tallies step m n = (n.0 ≡ tallied step m.0) × AllBegan m.0.all m.0.parties × (n.1 ≡ m.1)

-- the parties see the whole history
abbrev pub informed : View → View
informed v = record {
  keeps = v.keeps;
  all = v.all;
  made = v.made;
  parties = all_seeing v.all v.parties;
}

abbrev pub Informs : SeatView → SeatView → Type 0
Informs m n = (n.0 ≡ informed m.0) × AllBegan m.0.all m.0.parties × (n.1 ≡ m.1)

-- What each of the clients has seen begins the history, and behind that no step is the client's. No
-- two of them have one number; and where they are as many as were made, each step that has a client
-- is of one of them.
pub record AreCounted (clients : List Party) (made : ℕ) (steps : List BookStep) : Type 0 where
  pub began : AllBegan steps clients
  pub apart : AreDifferent (numbers_of clients)
  pub only : length clients ≡ made → AreOf (numbers_of clients) steps

-- the parties are counted, and what they have seen is compared with the whole history
abbrev pub Counts : SeatView → SeatView → Type 0
Counts m n = (n.0 ≡ m.0) × AreCounted m.0.parties m.0.made m.0.all × (n.1 ≡ m.1)

-- what the parties have seen is of one history
abbrev pub Compares : SeatView → SeatView → Type 0
Compares m n = (n.0 ≡ m.0) × HaveSeenOne m.0.parties × (n.1 ≡ m.1)

-- all parties have then seen what one of them had, and this begins with what each had
pub record Met (before after : View) : Type 0 where
  pub longest : List BookStep
  pub seen : after ≡ record {
    keeps =
        before.keeps;
    all = before.all;
    made = before.made;
    parties = all_seeing longest before.parties;
  }
  pub began : AllBegan longest before.parties
  pub whose : (p : Party) × Among p before.parties × (longest ≡ p.seen)
  pub apart : Distinct number_of before.parties

abbrev pub Meets : SeatView → SeatView → Type 0
Meets m n = Met m.0 n.0 × (n.1 ≡ m.1)

-- the seat is of this table, holds no slot, and knows this
abbrev pub Sits : TableId → View → Seat (Unit {0}) View → Type 0
Sits id v s = (s.table_id ≡ id) × (s.me ≡ (v, []))
