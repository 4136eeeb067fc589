-- Four in the place of one: each for the numbers that leave its place on division by 4.
use Rattle.std.specs.Prelude.{ℕ, zero, suc}
use Rattle.std.specs.Borrow.{Lends, Fml, RattleType, MutBor}
use Rattle.catalog.specs.declared.four.Four.{Four}
use Rattle.catalog.specs.contracts.four.Four.{the_row}

-- which of the four
pub data Which : Type 0 where
  First : Which
  Second : Which
  Third : Which
  Fourth : Which

-- its place, from 0 to 3
abbrev pub rank : Which → ℕ
rank First = 0
rank Second = 1
rank Third = 2
rank Fourth = 3

-- The one whose place the number leaves on division by 4, and the quotient.
abbrev pub which_of : ℕ → Which
which_of zero = First
which_of (suc zero) = Second
which_of (suc (suc zero)) = Third
which_of (suc (suc (suc zero))) = Fourth
which_of (suc (suc (suc (suc n)))) = which_of n

abbrev pub quarter : ℕ → ℕ
quarter zero = 0
quarter (suc zero) = 0
quarter (suc (suc zero)) = 0
quarter (suc (suc (suc zero))) = 0
quarter (suc (suc (suc (suc n)))) = suc (quarter n)

abbrev pub pick : {T : Type 0} → Four T → Which → T
pick f First = f.first
pick f Second = f.second
pick f Third = f.third
pick f Fourth = f.fourth

-- the four with another one in a place
abbrev pub put : {T : Type 0} → Four T → Which → T → Four T
put f First x = record f { first = x }
put f Second x = record f { second = x }
put f Third x = record f { third = x }
put f Fourth x = record f { fourth = x }

-- The four end with the last value behind r in the number's place.
abbrev pub LendsOne : (T : RattleType) → MutBor (Four T.Denot) → ℕ → MutBor T.Denot → Fml
LendsOne T f at r = Lends (the_row T) T f r (put f.now (which_of at))
