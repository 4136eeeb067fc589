-- Pasts, the steps of a book in them, and what they have committed.
use Rattle.std.proofs.Common.{◌≡◌, ℕ, ◌≤◌, None, List, []}
use Rattle.std.proofs.Common.{◌∷◌, ◌++◌, map, refl, sym, ◌∙◌, ap, arith}
use Rattle.std.specs.List.{flat_map}
use Rattle.std.proofs.lemmas.List.{append-nil, map-append}
use Rattle.std.proofs.lemmas.Grind.{flat_map-append}
use mathlib.Core.List.{IsPrefix}
use Rattle.calls.specs.Contents.{Collection}
use Rattle.calls.specs.Transactions.{Transaction, Act, committed_after, committed}
use Rattle.steps.proofs.RecordRuns.{gathered, committed_append}
use Rattle.txn.specs.declared.actions.Action.{Action}
use Rattle.txn.specs.declared.actions.BookStep.{BookStep}
use Rattle.txn.specs.Histories.{acts_of_action, committed_by}
use Rattle.txn.specs.Histories.{without_count, uncounted}
use Rattle.checkpoint.specs.Crash.{Yields}
use Rattle.checkpoint.proofs.YieldLemmas.{prefix_trans}
use Rattle.world.specs.declared.step.Step.{Step}
use Rattle.world.specs.declared.step.Answer.{Answer}
use Rattle.world.specs.Pasts.{Past, action_of, of_no_client, book_steps_of, AreBookSteps}
use Rattle.world.specs.Pasts.{committed_in, told, greatest_told}

-- ---- the steps of the book

pub book_steps-push : (past : Past) (x : Step × Answer) →
    book_steps_of (past ++ x ∷ []) ≡ book_steps_of past ++ of_no_client (action_of x.0 x.1)
book_steps-push past x = flat_map-append (λ y. of_no_client (action_of y.0 y.1)) past (x ∷ []) ∙
    ap (λ l. book_steps_of past ++ l) (append-nil (of_no_client (action_of x.0 x.1)))

-- a step of the book more
pub are_push : (past : Past) (x : Step × Answer) (steps more : List BookStep) →
    AreBookSteps past steps → map uncounted more ≡ of_no_client (action_of x.0 x.1) →
    AreBookSteps (past ++ x ∷ []) (steps ++ more)
are_push past x steps more are same = map-append uncounted steps more ∙
    (λ i. are i ++ same i) ∙ sym (book_steps-push past x)

-- a step in which the book takes no part
pub are_still : (past : Past) (x : Step × Answer) (steps : List BookStep) →
    AreBookSteps past steps → action_of x.0 x.1 ≡ None → AreBookSteps (past ++ x ∷ []) steps
are_still past x steps are none = are ∙ sym (append-nil (book_steps_of past)) ∙
    ap (λ o. book_steps_of past ++ of_no_client o) (sym none) ∙ sym (book_steps-push past x)

-- ---- what they commit

uncounted_acts : (a : Action) → acts_of_action (without_count a) ≡ acts_of_action a
uncounted_acts (Action.Cut count a) = refl
uncounted_acts a = refl

acts_uncounted : (steps : List BookStep) →
    flat_map (λ x. acts_of_action x.action) (map uncounted steps) ≡
    flat_map (λ x. acts_of_action x.action) steps
acts_uncounted [] = refl
acts_uncounted (x ∷ steps) = (λ i. uncounted_acts x.action i ++ acts_uncounted steps i)

-- The past commits what its steps do.
pub committed_are : (past : Past) (steps : List BookStep) → AreBookSteps past steps →
    committed_in past ≡ committed_by steps
committed_are past steps are = ap committed_by (sym are) ∙ ap committed (acts_uncounted steps)

-- more of a past commits more
pub committed_in-append : (past more : Past) → IsPrefix (committed_in past)
    (committed_in (past ++ more))
committed_in-append past more =
    let acts : List BookStep → List Act = λ steps. flat_map (λ x. acts_of_action x.action) steps in
    let both : acts (book_steps_of (past ++ more)) ≡
    acts (book_steps_of past) ++ acts (book_steps_of more) =
    ap acts (flat_map-append (λ y. of_no_client (action_of y.0 y.1)) past more) ∙
    flat_map-append (λ x. acts_of_action x.action) (book_steps_of past) (book_steps_of more) in (
      committed_after (gathered [] (acts (book_steps_of past))) (acts (book_steps_of more)),
      sym (ap committed both ∙
          committed_append (acts (book_steps_of past)) (acts (book_steps_of more)) []),
    )

pub greatest_told-push : (past : Past) (s : Step) (a : Answer) (mark : ℕ) →
    greatest_told past ≤ mark → told s a ≤ mark → greatest_told (past ++ (s, a) ∷ []) ≤ mark
greatest_told-push [] s a mark below here = omega (arith, here)
greatest_told-push (x ∷ past) s a mark below here =
    let rest = greatest_told-push past s a mark (omega (arith, below)) here in
    omega (arith, below, rest)

-- ---- what a stop leaves

-- more may have been committed
pub yields_on : (start : List Collection) (past more : Past) (known : List Transaction)
    (c : List ℕ) → Yields start (committed_in past) known c →
    Yields start (committed_in (past ++ more)) known c
yields_on start past more known c y =
    record {
      sound = y.sound;
      content = y.content;
      stands = y.stands;
      kept = y.kept;
      begins = prefix_trans y.kept (committed_in past) (committed_in (past ++ more)) y.begins
          (committed_in-append past more);
      holds = y.holds;
      serial = y.serial;
    }
