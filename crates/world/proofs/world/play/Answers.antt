use Rattle.std.proofs.Common.{◌≡◌, ◌<◌, ◌∷◌, [], List, length, length-append, take, arith, sym, ap}
use Rattle.std.proofs.Common.{subst, refl, Result, Ok, Err, vec_len, vec_capacity, IsOk, is_ok}
use Rattle.std.proofs.Common.{if◌then◌else◌, true≢false}
use Rattle.std.proofs.lemmas.List.{take_all}
use Rattle.std.specs.List.{zip}
use Rattle.calls.specs.Transactions.{Leads}
use Rattle.replay.proofs.Lists.{leads_push}
use Rattle.world.specs.declared.step.Answer.{Answer}
use Rattle.world.specs.OneStep.{parts, TakesStep}
use Rattle.world.proofs.PlayLemmas.{zip-more, one_history, past_goes_on, moments_of, answered_of}
use Rattle.world.proofs.PlayLemmas.{drawn_of, moves_of, honest_of}
use Rattle.world.proofs.world.play.Given.{Over}
use Rattle.world.proofs.world.play.Goals as goal

pub loop-step-init : goal.loop-step-init
loop-step-init g c = (
  ap length c.in_ok-answers.ensures.items,
  omega (arith, c.in_ok-answers.ensures.capacity),
  refl,
)

-- what was pushed with room
pushed : {E : Type 0} (r : Result (Unit {0}) E) (new old more : List Answer) → IsOk r →
    new ≡ (if is_ok r then more else old) → new ≡ more
pushed (Ok done) new old more fine is = is
pushed (Err e) new old more fine is = absurd (true≢false (sym fine))

pub loop-step-preserved : goal.loop-step-preserved
loop-step-preserved g c =
    let now = c.loop-step.invariant in
    let inside : c.loop-step.step-index < length c.args.steps.now =
    omega (arith, c.loop-step-test.true) in
    let free : vec_len c.loop-step.answers < vec_capacity c.loop-step.answers =
    omega (arith, now.0, now.1, c.loop-step-test.true, c.loop-step.answers.ok.0) in
    let more = pushed c.push-pushed.result _ _ _ (c.push-pushed.ensures.succeeds free)
    c.push-pushed.ensures.items in
    let pairs = zip-more c.args.steps.now c.loop-step.answers.items c.push-pushed.new.self.items
    c.loop-step.step-index c.step-item.result c.step-answer.result now.0 inside c.step-item.is
    more in (
      omega (
        arith,
        ap length more,
        length-append c.loop-step.answers.items
            (c.step-answer.result ∷ []),
        now.0,
      ),
      omega (arith, now.1, c.push-pushed.ensures.capacity),
      subst (λ l. Leads (TakesStep g.D.Disk) l c.args.world.now c.step-answer.new.self) (sym pairs)
          (leads_push (TakesStep g.D.Disk)
          (zip (take c.loop-step.step-index c.args.steps.now) c.loop-step.answers.items)
          (c.step-item.result, c.step-answer.result) c.args.world.now c.loop-step.world
          c.step-answer.new.self now.2 c.step-answer.ensures),
    )

-- all steps are taken
taken : (g : Over) (c : goal.After-loop-step g) →
    Leads (TakesStep g.D.Disk) (zip c.args.steps.now c.loop-step.answers.items) c.args.world.now
    c.loop-step.world
taken g c =
    let all = take_all c.loop-step.step-index c.args.steps.now
    (omega (arith, c.loop-step-test.false)) in
    subst (λ l. Leads (TakesStep g.D.Disk) (zip l c.loop-step.answers.items) c.args.world.now
    c.loop-step.world) all c.loop-step.invariant.2

pub returns-clause-past : goal.returns-clause-past
returns-clause-past g c = λ start past had. past_goes_on g.D.Disk start past
    (zip c.args.steps.now c.loop-step.answers.items) c.args.world.now c.loop-step.world (taken g c)
    had

pub returns-clause-any_moment : goal.returns-clause-any_moment
returns-clause-any_moment g c = λ start past had.
    moments_of g.D.Disk g.met.D.Disk.only_now start past
    (zip c.args.steps.now c.loop-step.answers.items) c.args.world.now c.loop-step.world
    (taken g c) had

pub returns-clause-one_history : goal.returns-clause-one_history
returns-clause-one_history g c = λ start past had.
    one_history g.D.Disk.seen g.D.Disk.may_leave start _ (parts c.loop-step.world)
    (returns-clause-past g c start past had)

pub returns-clause-own : goal.returns-clause-own
returns-clause-own g c = answered_of g.D.Disk (zip c.args.steps.now c.loop-step.answers.items)
    c.args.world.now c.loop-step.world (taken g c)

pub returns-clause-drawn : goal.returns-clause-drawn
returns-clause-drawn g c = drawn_of g.D.Disk (zip c.args.steps.now c.loop-step.answers.items)
    c.args.world.now c.loop-step.world (taken g c)

pub returns-clause-honest : goal.returns-clause-honest
returns-clause-honest g c = honest_of g.D.Disk (zip c.args.steps.now c.loop-step.answers.items)
    c.args.world.now c.loop-step.world (taken g c)

pub returns-clause-moves : goal.returns-clause-moves
returns-clause-moves g c = moves_of g.D.Disk (zip c.args.steps.now c.loop-step.answers.items)
    c.args.world.now c.loop-step.world (taken g c)
