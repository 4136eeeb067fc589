-- The mark behind what the keeper did: so many commits are kept.
use Rattle.std.specs.Prelude.{ℕ, Result, Ok, Err}
use Rattle.calls.specs.declared.refusal.Refusal.{Refusal}
use Rattle.checkpoint.specs.declared.turn.Turn.{Turn}

-- the mark behind a turn: the one that it told, if it told one
abbrev pub mark_behind : ℕ → Result Turn Refusal → ℕ
mark_behind mark (Ok (Turn.Kept place)) = place
mark_behind mark r = mark

-- the mark behind a flip
abbrev pub mark_flipped : ℕ → Result ℕ Refusal → ℕ
mark_flipped mark (Ok place) = place
mark_flipped mark (Err e) = mark
