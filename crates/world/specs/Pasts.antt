-- Pasts: steps with their answers; what they have committed, and what was acknowledged.
use Rattle.std.specs.Prelude.{◌≡◌, ℕ, ◌+◌, ◌<◌, ◌≤◌, max, List, [], ◌∷◌, ◌++◌, length, take}
use Rattle.std.specs.Prelude.{map, Option, Some, None, Result, Ok, Err}
use Rattle.std.specs.List.{flat_map, AllByRecursion}
use Rattle.calls.specs.Contents.{Collection}
use Rattle.calls.specs.Transactions.{Transaction, Serial}
use Rattle.calls.specs.declared.refusal.Refusal.{Refusal}
use Rattle.calls.specs.Limits.{number_end}
use Rattle.checkpoint.specs.declared.turn.Turn.{Turn}
use Rattle.records.specs.declared.block.Block.{Block}
use Rattle.steps.specs.Machine.{IsSettled}
use Rattle.txn.specs.declared.actions.Action.{Action}
use Rattle.txn.specs.declared.actions.BookStep.{BookStep}
use Rattle.txn.specs.declared.actions.Target.{Target}
use Rattle.txn.specs.Books as books
use Rattle.txn.specs.Books.{NamedBook}
use Rattle.txn.specs.Histories.{committed_by, uncounted}
use Rattle.world.specs.declared.step.Step.{Step}
use Rattle.world.specs.declared.step.Answer.{Answer}
use Rattle.catalog.specs.Meaning.{catalog_meaning, catalog_making}

-- A past is a list of steps, each with its answer.
abbrev pub Past : Type 0
Past = List (Step × Answer)

-- What a step with its answer is to the book, where the book takes part: none in a cut that is
-- refused as there is no room. A past does not tell how many records a cut handed over.
abbrev pub action_of : Step → Answer → Option Action
action_of (Step.Make name kind) (Answer.Placed place) = Some (Action.Make name kind (Ok place))
action_of (Step.Make name kind) (Answer.Refused e) = Some (Action.Make name kind (Err e))
action_of (Step.Enter n) Answer.Entered = Some (Action.Enter n (Ok tt))
action_of (Step.Enter n) (Answer.Refused e) = Some (Action.Enter n (Err e))
action_of (Step.Ask n at call when) (Answer.Replied reply) =
    Some (Action.Ask n (Target.Number at) call when (Ok reply))
action_of (Step.Ask n at call when) (Answer.Refused e) =
    Some (Action.Ask n (Target.Number at) call when (Err e))
action_of (Step.Commit n) (Answer.Placed place) = Some (Action.Commit n (Ok place))
action_of (Step.Commit n) (Answer.Refused e) = Some (Action.Commit n (Err e))
action_of (Step.Back n) (Answer.Backed undone) = Some (Action.Back n (Ok undone))
action_of (Step.Back n) (Answer.Refused e) = Some (Action.Back n (Err e))
action_of (Step.Ended n) Answer.Ended = Some (Action.Ended n (Ok tt))
action_of (Step.Ended n) (Answer.Refused e) = Some (Action.Ended n (Err e))
action_of Step.Cut (Answer.Cut handed) = Some (Action.Cut 0 (Ok handed))
action_of Step.Cut (Answer.Refused Refusal.NotNow) = Some (Action.Cut 0 (Err Refusal.NotNow))
action_of Step.Gather (Answer.Gathered more) = Some (Action.Gather (Ok more))
action_of Step.Gather (Answer.Refused e) = Some (Action.Gather (Err e))
action_of Step.Freeze Answer.Frozen = Some (Action.Freeze (Ok tt))
action_of Step.Freeze (Answer.Refused e) = Some (Action.Freeze (Err e))
action_of s a = None

-- A step of no client.
abbrev pub of_no_client : Option Action → List BookStep
of_no_client None = []
of_no_client (Some action) = record { client = None; action = action } ∷ []

-- The steps of the book in a past.
abbrev pub book_steps_of : Past → List BookStep
book_steps_of past = flat_map (λ x. of_no_client (action_of x.0 x.1)) past

-- The book's steps are those of the past, each cut with some number of records.
abbrev pub AreBookSteps : Past → List BookStep → Type 0
AreBookSteps past steps = map uncounted steps ≡ book_steps_of past

-- The transactions that a past has committed, in the order of their commits.
abbrev pub committed_in : Past → List Transaction
committed_in past = committed_by (book_steps_of past)

-- up to which place a step told that commits are kept
abbrev pub told : Step → Answer → ℕ
told Step.Turn (Answer.Turned (Turn.Kept place)) = place
told Step.Flip (Answer.Flipped place) = place
told Step.Look (Answer.Marked place) = place
told s a = 0

abbrev pub greatest_told : Past → ℕ
greatest_told [] = 0
greatest_told (x ∷ past) = max (told x.0 x.1) (greatest_told past)

-- The transactions of a past that were acknowledged: the first of those that it committed, up to
-- the greatest place that was told.
abbrev pub acknowledged : Past → List Transaction
acknowledged past = take (greatest_told past) (committed_in past)

-- Each step has answers of its own, and may be refused; a look is never refused.
abbrev pub IsAnswerOf : Step → Answer → Type 0
IsAnswerOf Step.Draw (Answer.Drawn n) = Unit {0}
IsAnswerOf Step.Draw (Answer.Refused e) = Unit {0}
IsAnswerOf (Step.Make name kind) (Answer.Placed place) = Unit {0}
IsAnswerOf (Step.Make name kind) (Answer.Refused e) = Unit {0}
IsAnswerOf (Step.Enter n) Answer.Entered = Unit {0}
IsAnswerOf (Step.Enter n) (Answer.Refused e) = Unit {0}
IsAnswerOf (Step.Ask n at call when) (Answer.Replied reply) = Unit {0}
IsAnswerOf (Step.Ask n at call when) (Answer.Refused e) = Unit {0}
IsAnswerOf (Step.Commit n) (Answer.Placed place) = Unit {0}
IsAnswerOf (Step.Commit n) (Answer.Refused e) = Unit {0}
IsAnswerOf (Step.Back n) (Answer.Backed undone) = Unit {0}
IsAnswerOf (Step.Back n) (Answer.Refused e) = Unit {0}
IsAnswerOf (Step.Ended n) Answer.Ended = Unit {0}
IsAnswerOf (Step.Ended n) (Answer.Refused e) = Unit {0}
IsAnswerOf Step.Cut (Answer.Cut handed) = Unit {0}
IsAnswerOf Step.Cut (Answer.Refused e) = Unit {0}
IsAnswerOf Step.Turn (Answer.Turned turn) = Unit {0}
IsAnswerOf Step.Turn (Answer.Refused e) = Unit {0}
IsAnswerOf Step.Gather (Answer.Gathered more) = Unit {0}
IsAnswerOf Step.Gather (Answer.Refused e) = Unit {0}
IsAnswerOf Step.Freeze Answer.Frozen = Unit {0}
IsAnswerOf Step.Freeze (Answer.Refused e) = Unit {0}
IsAnswerOf Step.Pack Answer.Packed = Unit {0}
IsAnswerOf Step.Pack (Answer.Refused e) = Unit {0}
IsAnswerOf Step.Piece (Answer.Laid more) = Unit {0}
IsAnswerOf Step.Piece (Answer.Refused e) = Unit {0}
IsAnswerOf Step.Flip (Answer.Flipped place) = Unit {0}
IsAnswerOf Step.Flip (Answer.Refused e) = Unit {0}
IsAnswerOf Step.Look (Answer.Marked mark) = Unit {0}
IsAnswerOf s a = ⊥

-- The step is one of the book, with this answer; or the book takes no part.
abbrev pub BookTakes : NamedBook → Option Action → NamedBook → Type 0
BookTakes s None t = t ≡ s
BookTakes s (Some action) t = books.Takes catalog_meaning catalog_making s action t

-- A step that calls no keeper and gathers nothing, with its answer, leads a book and the blocks in
-- transit on; the mark is the one that a look answers. No block is handed over where four wait, and
-- none where there is no room for it.
abbrev pub CoreStep : NamedBook → List Block → ℕ → Step × Answer → NamedBook → List Block → Type 0
CoreStep s waiting mark (Step.Cut, Answer.Cut handed) t waits =
    books.CutAnswers s (λ bs. waits ≡ waiting ++ bs) (4 ≤ length waiting) (Ok handed) t
CoreStep s waiting mark (Step.Cut, Answer.Refused Refusal.NotNow) t waits =
    books.CutAnswers s (λ bs. waits ≡ waiting ++ bs) (4 ≤ length waiting) (Err Refusal.NotNow) t
CoreStep s waiting mark (Step.Cut, Answer.Refused Refusal.Imaging) t waits =
    (t ≡ s) × (waits ≡ waiting)
CoreStep s waiting mark (Step.Cut, Answer.Refused Refusal.Full) t waits =
    (t ≡ s) × (waits ≡ waiting)
CoreStep s waiting mark (Step.Cut, a) t waits = ⊥
CoreStep s waiting mark (Step.Look, Answer.Marked m) t waits =
    (t ≡ s) × (m ≡ mark) × (waits ≡ waiting)
CoreStep s waiting mark (Step.Turn, a) t waits = ⊥
CoreStep s waiting mark (Step.Gather, a) t waits = ⊥
CoreStep s waiting mark (Step.Freeze, a) t waits = ⊥
CoreStep s waiting mark (Step.Pack, a) t waits = ⊥
CoreStep s waiting mark (Step.Piece, a) t waits = ⊥
CoreStep s waiting mark (Step.Flip, a) t waits = ⊥
CoreStep s waiting mark x t waits =
    IsAnswerOf x.0 x.1 × BookTakes s (action_of x.0 x.1) t × (waits ≡ waiting)

-- A draw gives the next number, and none gives it again; from 2 ^ 61 on it is refused. No other
-- step draws.
abbrev pub IsDraw : ℕ → Answer → ℕ → Type 0
IsDraw next (Answer.Drawn n) after = (n ≡ next) × (n < number_end) × (after ≡ next + 1)
IsDraw next (Answer.Refused Refusal.Worn) after = (number_end ≤ next) × (after ≡ next)
IsDraw next a after = ⊥

abbrev pub Draws : ℕ → Step × Answer → ℕ → Type 0
Draws next (Step.Draw, a) after = IsDraw next a after
Draws next x after = after ≡ next

abbrev pub AreAnswered : Past → Type 0
AreAnswered past = AllByRecursion (λ x. IsAnswerOf x.0 x.1) past

-- the answer of a step that has no result
abbrev pub alone : Answer → Unit {0} → Answer
alone a done = a

-- what a step is answered that is done, with this result, or refused
abbrev pub outcome : {T : Type 0} → (T → Answer) → Result T Refusal → Answer
outcome done (Ok x) = done x
outcome done (Err e) = Answer.Refused e

-- The committed transactions of the past, each run whole, one after another, with the replies that
-- its client got, lead from the start to what the collections of the book hold without the live
-- transactions.
pub record IsOneHistory (start : List Collection) (past : Past) (book : NamedBook) : Type 0 where
  pub content : List Collection
  pub settled : IsSettled catalog_meaning book.state content
  pub serial : Serial (committed_in past) start content
