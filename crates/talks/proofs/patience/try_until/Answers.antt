use Rattle.std.proofs.Common.{inl, inr, refl, subst, sym, true}
use Rattle.talks.specs.Talks.{Tries}
use Rattle.talks.proofs.PatienceLemmas.{one_more, ended, still_heard}
use Rattle.talks.proofs.patience.try_until.Goals as goal

pub returns-in-Transacted-clause-done : goal.returns-in-Transacted-clause-done
returns-in-Transacted-clause-done g c =
    ended g.S.Speaker c.args.speaker.now c.loop.speaker c.attempt.new.speaker c.args.calls.now
    c.in-Transacted.outcome c.loop.invariant.0 (inl c.in-Transacted.ensures.done)

pub returns-in-TakenBack-false-clause-done : goal.returns-in-TakenBack-false-clause-done
returns-in-TakenBack-false-clause-done g c =
    let try = rw c.in-TakenBack-false.field-0-test at c.in-TakenBack-false.ensures.done in
    ended g.S.Speaker c.args.speaker.now c.loop.speaker c.attempt.new.speaker c.args.calls.now _
    c.loop.invariant.0 (inr (inr (refl, try)))

pub returns-in-Left-clause-done : goal.returns-in-Left-clause-done
returns-in-Left-clause-done g c =
    let try = rw c.in-TakenBack-true.field-0-test at c.in-TakenBack-true.ensures.done in
    let were = one_more g.S.Speaker c.args.speaker.now c.loop.speaker c.attempt.new.speaker
    c.args.calls.now c.loop.invariant.0 try in
    ended g.S.Speaker c.args.speaker.now c.attempt.new.speaker c.rest.new.speaker
    c.args.calls.now _ were (inr (inl (refl, c.rest.ensures.same)))

pub returns-in-Over-clause-done : goal.returns-in-Over-clause-done
returns-in-Over-clause-done g c =
    let try = rw c.in-TakenBack-true.field-0-test at c.in-TakenBack-true.ensures.done in
    let done = subst (λ s. Tries g.S.Speaker c.loop.speaker c.args.calls.now true s)
    (sym c.rest.ensures.same) try in
    let were = one_more g.S.Speaker c.args.speaker.now c.loop.speaker c.rest.new.speaker
    c.args.calls.now c.loop.invariant.0 done in
    ended g.S.Speaker c.args.speaker.now c.rest.new.speaker c.transact.new.speaker
    c.args.calls.now c.transact.result were (inl c.transact.ensures)

pub returns-clause-done : goal.returns-clause-done
returns-clause-done g c =
    ended g.S.Speaker c.args.speaker.now c.loop.speaker c.transact-2.new.speaker
    c.args.calls.now c.transact-2.result c.loop.invariant.0 (inl c.transact-2.ensures)

pub loop-preserved : goal.loop-preserved
loop-preserved g c =
    let try = rw c.in-TakenBack-true.field-0-test at c.in-TakenBack-true.ensures.done in
    let done = subst (λ s. Tries g.S.Speaker c.loop.speaker c.args.calls.now true s)
    (sym c.rest.ensures.same) try in (
      one_more g.S.Speaker c.args.speaker.now c.loop.speaker c.rest.new.speaker
          c.args.calls.now c.loop.invariant.0 done,
      still_heard _ _ _ (still_heard _ _ _ c.loop.invariant.1 c.attempt.ensures.still)
          c.rest.ensures.still,
    )
