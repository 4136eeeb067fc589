-- Steps one after another.
use Rattle.std.proofs.Common.{◌≡◌, ℕ, ◌+◌, ◌≤◌, ◌<◌, List, [], ◌∷◌, ◌++◌, length, take, get_or}
use Rattle.std.proofs.Common.{refl, sym, ◌∙◌, ap, subst, arith, append_assoc}
use Rattle.std.proofs.lemmas.List.{append-nil, take_more, length-take-le}
use Rattle.std.specs.List.{zip}
use mathlib.Core.List.{IsPrefix}
use Rattle.calls.specs.Contents.{Collection}
use Rattle.calls.specs.Transactions.{Leads, Serial}
use Rattle.disk_model.specs.Disk.{LeavesOnly}
use Rattle.disk_model.specs.declared.disk.Disk.{Ghosts}
use Rattle.disk_model.proofs.Walk.{weaker, and_then}
use Rattle.world.specs.declared.step.Step.{Step}
use Rattle.world.specs.declared.step.Answer.{Answer}
use Rattle.world.specs.Pasts.{Past, committed_in, greatest_told, acknowledged, AreAnswered, Draws}
use Rattle.checkpoint.specs.Crash.{Yields}
use Rattle.checkpoint.proofs.YieldLemmas.{take_longer}
use Rattle.txn.specs.Books.{standing}
use Rattle.world.specs.Pasts.{IsOneHistory}
use Rattle.world.specs.Worlds.{Parts, HasPast}
use Rattle.world.specs.Moves.{Whole, Moves}
use Rattle.world.specs.OneStep.{parts, TakesStep}
use Rattle.world.proofs.PastLemmas.{committed_are, committed_in-append, yields_on}
use Rattle.checkpoint.proofs.YieldLemmas.{prefix_take}
use Rattle.checkpoint.proofs.YieldLemmas.{yields_fewer}
use Rattle.recovery.proofs.CommittedReads.{comes_to}
use Rattle.world.proofs.StepLemmas.{few_marked, rests}

-- What the past says of the book.
pub one_history : {D : Type 0} (seen : D → List ℕ) (may_leave : D → List ℕ → Type 0)
    (start : List Collection) (past : Past) (w : Parts D) →
    HasPast seen may_leave start past w → IsOneHistory start past w.book
one_history seen may_leave start past w had =
    let comes = comes_to had.format start had.wear had.steps (standing w.book) had.handed.legal in
    record {
      content = comes.content;
      settled = comes.is_settled;
      serial = subst (λ ts. Serial ts start comes.content)
          (sym (committed_are past had.steps had.are)) comes.serial;
    }

-- one step with its answer more
zip-push : (xs : List Step) (ys : List Answer) (x : Step) (y : Answer) → length xs ≡ length ys →
    zip (xs ++ x ∷ []) (ys ++ y ∷ []) ≡ zip xs ys ++ (x, y) ∷ []
zip-push [] [] x y e = refl
zip-push [] (b ∷ ys) x y e = absurd (omega arith)
zip-push (a ∷ xs) [] x y e = absurd (omega arith)
zip-push (a ∷ xs) (b ∷ ys) x y e = ap (λ l. (a, b) ∷ l) (zip-push xs ys x y (omega arith))

-- the steps so far with their answers, and one more
pub zip-more : (steps : List Step) (answers more : List Answer) (i : ℕ) (x : Step) (a : Answer) →
    length answers ≡ i → i < length steps →
    x ≡ get_or steps i x → more ≡ answers ++ a ∷ [] →
    zip (take (i + 1) steps) more ≡ zip (take i steps) answers ++ (x, a) ∷ []
zip-more steps answers more i x a count inside at is =
    let size : length (take i steps) ≡ length answers =
    omega (arith, length-take-le i steps (omega (arith, inside)), count) in
    (λ j. zip ((take_more steps i x inside ∙ ap (λ y. take i steps ++ y ∷ []) (sym at)) j) (is j)) ∙
    zip-push (take i steps) answers x a size

-- more of a past tells no less
told_more : (past more : Past) → greatest_told past ≤ greatest_told (past ++ more)
told_more [] more = omega arith
told_more (x ∷ past) more = let rest = told_more past more in omega (arith, rest)

module _ {D : Type 0} (g : Ghosts D) where
  -- what was acknowledged is what the mark tells, or less
  acknowledged_is_marked : (start : List Collection) (past : Past) (w : Whole D) →
      HasPast g.seen g.may_leave start past (parts w) →
      IsPrefix (acknowledged past) (take w.mark (committed_in past))
  acknowledged_is_marked start past w had =
      prefix_take (committed_in past) (greatest_told past) w.mark had.told

  -- what was acknowledged stays so
  acknowledged_more : (start : List Collection) (past more : Past) (w : Whole D) →
      HasPast g.seen g.may_leave start past (parts w) →
      IsPrefix (acknowledged past) (acknowledged (past ++ more))
  acknowledged_more start past more w had =
      let few : greatest_told past ≤ length (committed_in past) =
      omega (arith, had.told, few_marked g.seen g.may_leave start past (parts w) had) in
      let same : take (greatest_told past) (committed_in (past ++ more)) ≡ acknowledged past =
      take_longer (committed_in past) (committed_in (past ++ more)) (greatest_told past)
      (committed_in-append past more) few in
      subst (λ l. IsPrefix l (acknowledged (past ++ more))) same
      (prefix_take (committed_in (past ++ more)) (greatest_told past) (greatest_told (past ++ more))
      (told_more past more))

  -- each past of the world goes on with steps that were taken
  pub past_goes_on : (start : List Collection) (past steps : Past) (old new : Whole D) →
      Leads (TakesStep g) steps old new →
      HasPast g.seen g.may_leave start past (parts old) →
      HasPast g.seen g.may_leave start (past ++ steps) (parts new)
  past_goes_on start past [] old new taken had =
      subst (λ w. HasPast g.seen g.may_leave start (past ++ []) (parts w)) taken
      (subst (λ p. HasPast g.seen g.may_leave start p (parts old)) (sym (append-nil past)) had)
  past_goes_on start past (x ∷ steps) old new taken had =
      subst (λ p. HasPast g.seen g.may_leave start p (parts new)) (append_assoc past (x ∷ []) steps)
      (past_goes_on start (past ++ x ∷ []) steps taken.0 new taken.2 (taken.1.past start past had))

  -- whatever a stop at any moment of them might have left is what that past yields, and holds what
  -- was acknowledged before
  pub moments_of : ((d : D) (c : List ℕ) → g.left_since d (g.moment d) c → g.may_leave d c) →
      (start : List Collection) (past steps : Past) (old new : Whole D) →
      Leads (TakesStep g) steps old new → HasPast g.seen g.may_leave start past (parts old) →
      LeavesOnly g.moment g.left_since old.keeper.disk new.keeper.disk
      (Yields start (committed_in (past ++ steps)) (acknowledged past))
  moments_of only_now start past [] old new taken had =
      subst (λ (w : Whole D). LeavesOnly g.moment g.left_since old.keeper.disk w.keeper.disk
      (Yields start (committed_in (past ++ [])) (acknowledged past))) taken
      (weaker g.moment g.left_since old.keeper.disk old.keeper.disk
      (Yields start (committed_in (past ++ [])) (take old.mark (committed_in past)))
      (Yields start (committed_in (past ++ [])) (acknowledged past))
      (subst (λ p. LeavesOnly g.moment g.left_since old.keeper.disk old.keeper.disk
      (Yields start (committed_in p) (take old.mark (committed_in past)))) (sym (append-nil past))
      (rests g.seen g.may_leave start past (parts old) had g.moment g.left_since
      (only_now old.keeper.disk)))
      (λ c y. yields_fewer start (committed_in (past ++ [])) (take old.mark (committed_in past))
      (acknowledged past) c (acknowledged_is_marked start past old had) y))
  moments_of only_now start past (x ∷ steps) old new taken had =
      let mid = taken.0 in
      let behind : Past = past ++ x ∷ [] in
      let has = taken.1.past start past had in
      let P : List ℕ → Type 0 = Yields start (committed_in (behind ++ steps))
      (acknowledged past) in
      let Q : List ℕ → Type 0 = Yields start (committed_in (behind ++ steps))
      (acknowledged behind) in
      let first = weaker g.moment g.left_since old.keeper.disk mid.keeper.disk
      (Yields start (committed_in behind) (take old.mark (committed_in past))) P
      (taken.1.any_moment start past had)
      (λ c y. yields_on start behind steps (acknowledged past) c
      (yields_fewer start (committed_in behind) (take old.mark (committed_in past))
      (acknowledged past) c (acknowledged_is_marked start past old had) y)) in
      let whole = and_then g.moment g.left_since old.keeper.disk mid.keeper.disk new.keeper.disk P Q
      first (moments_of only_now start behind steps mid new taken.2 has)
      (λ c y. yields_fewer start (committed_in (behind ++ steps)) (acknowledged behind)
      (acknowledged past) c
      (acknowledged_more start past (x ∷ []) old had) y) in
      subst (λ p. LeavesOnly g.moment g.left_since old.keeper.disk new.keeper.disk
      (Yields start (committed_in p) (acknowledged past))) (append_assoc past (x ∷ []) steps) whole

  -- each is answered in its own way, draws the next number or none, and leads the world on; reads
  -- that were true stay so
  pub answered_of : (steps : Past) (old new : Whole D) → Leads (TakesStep g) steps old new →
      AreAnswered steps
  answered_of [] old new taken = tt
  answered_of (x ∷ steps) old new taken = (taken.1.own, answered_of steps taken.0 new taken.2)

  pub drawn_of : (steps : Past) (old new : Whole D) → Leads (TakesStep g) steps old new →
      Leads Draws steps old.next new.next
  drawn_of [] old new taken = ap (λ (w : Whole D). w.next) taken
  drawn_of (x ∷ steps) old new taken =
      (taken.0.next, taken.1.drawn, drawn_of steps taken.0 new taken.2)

  pub moves_of : (steps : Past) (old new : Whole D) → Leads (TakesStep g) steps old new →
      Leads (Moves g.fault_count) steps old new
  moves_of [] old new taken = taken
  moves_of (x ∷ steps) old new taken = (taken.0, taken.1.moves, moves_of steps taken.0 new taken.2)

  pub honest_of : (steps : Past) (old new : Whole D) → Leads (TakesStep g) steps old new →
      g.is_honest new.keeper.disk → g.is_honest old.keeper.disk
  honest_of [] old new taken = subst
      (λ (w : Whole D). g.is_honest w.keeper.disk → g.is_honest old.keeper.disk) taken (λ h. h)
  honest_of (x ∷ steps) old new taken = λ h. taken.1.honest (honest_of steps taken.0 new taken.2 h)
