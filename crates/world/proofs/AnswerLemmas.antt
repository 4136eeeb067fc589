-- Each step is answered in its own way.
use Rattle.std.proofs.Common.{◌≡◌, ℕ, Bool, List, Result, Ok, Err}
use Rattle.std.specs.Prelude.{MatchResult}
use Rattle.calls.specs.declared.refusal.Refusal.{Refusal}
use Rattle.checkpoint.specs.declared.turn.Turn.{Turn}
use Rattle.records.specs.declared.block.Block.{Block}
use Rattle.disk_model.specs.declared.disk.Disk.{Ghosts}
use Rattle.world.specs.declared.step.Step.{Step}
use Rattle.world.specs.declared.step.Answer.{Answer}
use Rattle.world.specs.Pasts.{CoreStep, IsAnswerOf, alone, outcome}
use Rattle.txn.specs.Books.{NamedBook}
use Rattle.world.specs.Moves.{Whole}
use Rattle.world.specs.OneStep.{TakesStep}

pub core_answered : (s : NamedBook) (waiting : List Block) (mark : ℕ) (x : Step × Answer)
    (t : NamedBook) (waits : List Block) → CoreStep s waiting mark x t waits → IsAnswerOf x.0 x.1
core_answered s waiting mark (Step.Draw, a) t waits step = step.0
core_answered s waiting mark (Step.Make name kind, a) t waits step = step.0
core_answered s waiting mark (Step.Enter n, a) t waits step = step.0
core_answered s waiting mark (Step.Ask n at call when, a) t waits step = step.0
core_answered s waiting mark (Step.Commit n, a) t waits step = step.0
core_answered s waiting mark (Step.Back n, a) t waits step = step.0
core_answered s waiting mark (Step.Ended n, a) t waits step = step.0
core_answered s waiting mark (Step.Cut, Answer.Cut handed) t waits step = tt
core_answered s waiting mark (Step.Cut, Answer.Refused e) t waits step = tt
core_answered s waiting mark (Step.Cut, a) t waits step = absurd step
core_answered s waiting mark (Step.Look, Answer.Marked m) t waits step = tt
core_answered s waiting mark (Step.Look, a) t waits step = step.0
core_answered s waiting mark (Step.Turn, a) t waits step = absurd step
core_answered s waiting mark (Step.Gather, a) t waits step = absurd step
core_answered s waiting mark (Step.Freeze, a) t waits step = absurd step
core_answered s waiting mark (Step.Pack, a) t waits step = absurd step
core_answered s waiting mark (Step.Piece, a) t waits step = absurd step
core_answered s waiting mark (Step.Flip, a) t waits step = absurd step

pub turn_answered : (r : Result Turn Refusal) → IsAnswerOf Step.Turn (outcome Answer.Turned r)
turn_answered (Ok turn) = tt
turn_answered (Err e) = tt

pub gather_answered : (r : Result Bool Refusal) →
    IsAnswerOf Step.Gather (outcome Answer.Gathered r)
gather_answered (Ok more) = tt
gather_answered (Err e) = tt

pub freeze_answered : (r : Result (Unit {0}) Refusal) →
    IsAnswerOf Step.Freeze (outcome (alone Answer.Frozen) r)
freeze_answered (Ok done) = tt
freeze_answered (Err e) = tt

pub pack_answered : (r : Result (Unit {0}) Refusal) →
    IsAnswerOf Step.Pack (outcome (alone Answer.Packed) r)
pack_answered (Ok done) = tt
pack_answered (Err e) = tt

pub piece_answered : (r : Result Bool Refusal) → IsAnswerOf Step.Piece (outcome Answer.Laid r)
piece_answered (Ok more) = tt
piece_answered (Err e) = tt

pub flip_answered : (r : Result ℕ Refusal) → IsAnswerOf Step.Flip (outcome Answer.Flipped r)
flip_answered (Ok place) = tt
flip_answered (Err e) = tt

-- a step that was taken is what was asked for, and its result is wrapped
pub wrapped : {D T : Type 0} (g : Ghosts D) (old new : Whole D) (s step : Step) (done : T → Answer)
    (r : Result T Refusal) (a : Answer) → step ≡ s →
    MatchResult r (λ x. a ≡ done x) (λ e. a ≡ Answer.Refused e) →
    TakesStep g old (s, outcome done r) new → TakesStep g old (step, a) new
wrapped g old new s step done (Ok x) a asked is taken = rw (asked, is) taken
wrapped g old new s step done (Err e) a asked is taken = rw (asked, is) taken
