use Rattle.std.proofs.Common.{◌+◌, ◌∙◌, refl, sym, ap, subst, Result, Ok, Err, OnErr}
use Rattle.std.proofs.Common.{true≢false}
use Rattle.undo_log.specs.Entries.{event_of, HasNewestCall}
use Rattle.undo_log.specs.Logs.{Lives, fallen}
use Rattle.steps.specs.Machine.{BackRow}
use Rattle.steps.specs.Wholes.{TransactionsState, state_on}
use Rattle.steps.specs.TransactionTables.{transactions_of}
use Rattle.steps.proofs.UndoneCall.{undone_row}
use Rattle.steps.proofs.transaction_table.TransactionTable.back.Given.{Over}
use Rattle.steps.proofs.transaction_table.TransactionTable.back.Goals as goal

pub undo-requires-clause-askable : goal.undo-requires-clause-askable
undo-requires-clause-askable g c =
    let x = event_of c.in-Some.newest.now in
    (c.requires.undoes x (subst (λ (a : TransactionsState). HasNewestCall c.args.handle.number
    a.entries
    x)
    c.self.view_is c.in-Some.ensures.found)).0

pub undo-requires-clause-undoes : goal.undo-requires-clause-undoes
undo-requires-clause-undoes g c =
    let x = event_of c.in-Some.newest.now in
    (c.requires.undoes x (subst (λ (a : TransactionsState). HasNewestCall c.args.handle.number
    a.entries
    x)
    c.self.view_is c.in-Some.ensures.found)).1

-- the step that was taken
step : (g : Over) (c : goal.Joined-undone g) → let i = c.self.inside in
    BackRow g.C.Boosted.meaning (state_on (transactions_of i.format i.live i.wear) c.args.shelf.now)
    c.args.handle.number (state_on (transactions_of i.format c.fall.new.self (i.wear + 1))
    c.undo.new.self)
step g c =
    let i = c.self.inside in
    let shelf = c.args.shelf.now in
    undone_row i.format shelf.now shelf.holds i.live i.wear c.args.handle.number
    g.C.Boosted.meaning (event_of c.in-Some.newest.now) c.undo.new.self.now c.undo.new.self.holds
    c.pop-undone.new.self.entries c.fall.new.self (i.wear + 1) c.pop-undone.result
    (subst (λ (a : TransactionsState). Lives a.live c.args.handle.number) (sym c.self.view_is)
    c.requires.live) c.in-Some.ensures.found c.in_ok-undo.ensures.ok c.pop-undone.ensures.found
    c.pop-undone.ensures.none c.in_ok-undo.ensures.holds
    (c.fall.ensures.live ∙ ap (λ v. fallen v c.args.handle.number) c.pop-undone.ensures.live)
    c.fall.ensures.entries refl

pub returns-clause-ok : goal.returns-clause-ok
returns-clause-ok g c = rw (← c.self.view_is) (step g c)

-- what holds anyway holds of a refusal
of_refusal : {T E : Type 0} (r : Result T E) (P : Type 0) → P → OnErr r P
of_refusal (Ok x) P holds = tt
of_refusal (Err e) P holds = holds

pub returns-in_err-undo-clause-in_place : goal.returns-in_err-undo-clause-in_place
returns-in_err-undo-clause-in_place g c =
    let x = event_of c.in-Some.newest.now in
    of_refusal c.from_residual.result _ (
      x,
      subst (λ (a : TransactionsState). HasNewestCall c.args.handle.number a.entries x)
          c.self.view_is
          c.in-Some.ensures.found,
      λ in_place. true≢false (sym (c.in_err-undo.ensures.in_place in_place)),
    )
