use Rattle.std.proofs.Common.{[], ◌∷◌, true, false, refl, sym, subst, arith}
use Rattle.clients.specs.Calls.{Hears}
use Rattle.fizgaloms.specs.Transactions.{GivesUp}
use Rattle.fizgaloms.proofs.Trying.{goes_first, seeks_on, gives_up, gives_up_lost, goes_through}
use Rattle.fizgaloms.proofs.Trying.{not_true}
use Rattle.fizgaloms.proofs.seeking.try_until.Goals as goal

pub loop-init : goal.loop-init
loop-init g c = (
  1,
  goes_first g.J.Naming (g.T.Transaction.refuses c.args.transaction.now) 1 c.args.client.now
      c.upheld.ensures,
)

pub returns-in-Err-2-clause-goes : goal.returns-in-Err-2-clause-goes
returns-in-Err-2-clause-goes g c =
    let seeks = c.loop.invariant in (
      seeks.0,
      gives_up g.J.Naming (g.T.Transaction.refuses c.args.transaction.now) seeks.0
          c.args.client.now c.loop.client c.try_once.new.client seeks.0 c.in-Err.refusal seeks.1
          c.in-Err.ensures.refused c.in-Err.ensures.tried
          (λ passing. absurd (not_true (c.if-is_passing.ensures.1 passing))),
    )

pub returns-in-Ok-clause-goes : goal.returns-in-Ok-clause-goes
returns-in-Ok-clause-goes g c =
    let seeks = c.loop.invariant in (
      seeks.0,
      goes_through g.J.Naming (g.T.Transaction.refuses c.args.transaction.now) seeks.0
          (g.T.Transaction.says c.args.transaction.now c.in-Ok.done.0) c.args.client.now
          c.loop.client c.try_once.new.client seeks.0 c.in-Ok.done.1.place seeks.1
          c.in-Ok.ensures.ran,
    )

pub returns-then-not-rest-clause-goes : goal.returns-then-not-rest-clause-goes
returns-then-not-rest-clause-goes g c =
    let seeks = c.loop.invariant in (
      seeks.0,
      subst (GivesUp g.J.Naming.origin (g.T.Transaction.refuses c.args.transaction.now) seeks.0
          c.args.client.now c.in-Err.refusal) (sym c.rest.ensures)
          (gives_up g.J.Naming (g.T.Transaction.refuses c.args.transaction.now) seeks.0
          c.args.client.now c.loop.client c.try_once.new.client seeks.0 c.in-Err.refusal seeks.1
          c.in-Err.ensures.refused c.in-Err.ensures.tried (λ passing. omega arith)),
    )

pub returns-then-has_failed-clause-goes : goal.returns-then-has_failed-clause-goes
returns-then-has_failed-clause-goes g c =
    let seeks = c.loop.invariant in (
      seeks.0,
      gives_up_lost g.J.Naming (g.T.Transaction.refuses c.args.transaction.now) seeks.0
          c.args.client.now c.loop.client c.try_once.new.client c.has_failed.new.self seeks.0
          c.in-Err.refusal seeks.1 (c.if-is_passing.ensures.0 refl) c.in-Err.ensures.refused
          c.in-Err.ensures.tried (subst (λ k. Hears k [] (true ∷ []) c.has_failed.new.self)
          c.rest.ensures c.if-has_failed.ensures),
    )

pub loop-preserved : goal.loop-preserved
loop-preserved g c =
    seeks_on g.J.Naming (g.T.Transaction.refuses c.args.transaction.now) c.args.client.now
    c.loop.client c.try_once.new.client c.has_failed.new.self c.in-Err.refusal c.loop.invariant
    (c.if-is_passing.ensures.0 refl) c.in-Err.ensures.refused c.in-Err.ensures.tried
    (subst (λ k. Hears k [] (false ∷ []) c.has_failed.new.self) c.rest.ensures
    c.if-has_failed.ensures)
