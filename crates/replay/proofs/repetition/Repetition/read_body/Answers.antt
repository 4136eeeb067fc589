use Rattle.std.proofs.Common.{◌≡◌, ◌<◌, ◌==◌, ℕ, zero, suc, length, arith, sym, ◌∙◌, Bool, false}
use Rattle.std.proofs.Common.{true≢false, rules}
use Rattle.std.proofs.lemmas.Result.{err_from_is_err_and}
use Rattle.replay.proofs.RepeatLemmas.{reading_starts, reading_goes_on, unread_is_refused}
use Rattle.replay.proofs.RepeatLemmas.{stuck_body, damage_weaker, unread_damage}
use Rattle.replay.proofs.repetition.Repetition.read_body.Goals as goal

some_left : (n : ℕ) (empty : Bool) → empty ≡ (n == 0) → empty ≡ false → 0 < n
some_left zero empty is none = absurd (true≢false (sym is ∙ none))
some_left (suc n) empty is none = omega arith

pub returns-in-Err-clause-ok : goal.returns-in-Err-clause-ok
returns-in-Err-clause-ok c = search rules

pub returns-in-Err-clause-err : goal.returns-in-Err-clause-err
returns-in-Err-clause-err c =
    (unread_damage c.loop-rest.so_far.kind c.args.place c.loop-rest.rest.now c.in-Err.refusal _
    c.in-Err.ensures.refused
    (λ none version rs group reached good is q run.
    unread_is_refused c.args.body.now c.loop-rest.rest.now _ _ _ _ _ _ c.loop-rest.invariant
    (some_left (length c.loop-rest.rest.now) c.is_empty.result c.is_empty.ensures
    c.loop-rest-test.true) none group good is))

pub returns-in_err-so_far-in-Ok-clause-err : goal.returns-in_err-so_far-in-Ok-clause-err
returns-in_err-so_far-in-Ok-clause-err c =
    let p = err_from_is_err_and c.from_residual.result c.from_residual.ensures.1 in
    rw (p.1, p.2)
    (damage_weaker c.args.place c.in_err-so_far-in-Ok.field-0.0 _ _
    (λ stuck. stuck_body c.args.body.now c.loop-rest.rest.now _ _ _ _ _ _ c.loop-rest.invariant
    c.in-Ok.behind.now c.in-Ok.entry c.in-Ok.ensures.found stuck)
    c.in_err-so_far-in-Ok.ensures.err)

pub loop-rest-init : goal.loop-rest-init
loop-rest-init c = reading_starts c.args.body.now c.args.self.kind c.args.self.stage
    c.args.self.next c.requires.fit

pub loop-rest-preserved : goal.loop-rest-preserved
loop-rest-preserved c =
    let now = c.in_ok-so_far-in-Ok.ensures in
    reading_goes_on c.args.body.now c.loop-rest.rest.now _ _ _ _ _ _ c.loop-rest.invariant
    c.in-Ok.behind.now c.in-Ok.entry _ _ _ c.in-Ok.ensures.found now.ok now.kind now.fit now.few
