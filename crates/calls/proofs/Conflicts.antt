-- A conflict of needs goes both ways.
use Rattle.calls.specs.declared.need.Mode.{Mode}
use Rattle.calls.specs.declared.need.Need.{Need}
use Rattle.calls.specs.Rules.{Compatible, Conflict}

pub compatible_turn : (m n : Mode) → Compatible m n → Compatible n m
compatible_turn Mode.Read Mode.Read h = h
compatible_turn Mode.Add Mode.Add h = h
compatible_turn Mode.Take Mode.Take h = h
compatible_turn Mode.Take Mode.Give h = h
compatible_turn Mode.Give Mode.Take h = h
compatible_turn Mode.Give Mode.Give h = h
compatible_turn m n h = absurd h

pub conflict_turn : (a b : Need) → Conflict a b → Conflict b a
conflict_turn a b c = ((c.0.1, c.0.0), λ h. c.1 (compatible_turn b.mode a.mode h))
