use Rattle.std.proofs.Common.{List, subst, sym, rules}
use Rattle.script.specs.declared.action.Request.{Request}
use Rattle.script.proofs.WishLemmas.{AreRead, nothing_read, reads_on, no_first, no_space, no_last}
use Rattle.script.proofs.wishes.calls_of.Goals as goal

pub loop-front-init : goal.loop-front-init
loop-front-init c = search (rules, nothing_read c.args.text.now)

pub loop-front-preserved : goal.loop-front-preserved
loop-front-preserved c =
    let next = c.in-Some-behind.next.now in
    let before = c.loop-front.calls.items in
    subst (λ (rs : List Request). AreRead c.args.text.now rs next) (sym c.in_ok-push.ensures.items)
    (reads_on c.args.text.now c.loop-front.rest.now c.in-Some.front.now c.in-Some.back.now next
    before c.in-Some-2.call c.in-Some.ensures.some c.in-Some.ensures.first
    (rw c.in-Some-2.is at c.in_ok-call.ensures) c.in-Some-behind.ensures.some
    c.loop-front.invariant)

pub returns-in_default-2 : goal.returns-in_default-2
returns-in_default-2 c = λ rs.
    no_first c.args.text.now c.loop-front.rest.now c.in-Some.front.now c.in-Some.back.now
    c.loop-front.calls.items rs c.in-Some.ensures.some c.in-Some.ensures.first
    (rw c.in_default-2.is at c.in_ok-call.ensures) c.loop-front.invariant

pub returns-in_default-behind : goal.returns-in_default-behind
returns-in_default-behind c = λ rs.
    no_space c.args.text.now c.loop-front.rest.now c.in-Some.front.now c.in-Some.back.now
    c.loop-front.calls.items rs c.in-Some.ensures.some c.in-Some.ensures.first
    c.in_default-behind.ensures.none c.loop-front.invariant

pub returns-in_default-3 : goal.returns-in_default-3
returns-in_default-3 c = λ rs.
    no_last c.args.text.now c.loop-front.rest.now c.loop-front.calls.items rs
    c.in_default.ensures.none (rw c.in_default-3.is at c.in_ok-last.ensures) c.loop-front.invariant
