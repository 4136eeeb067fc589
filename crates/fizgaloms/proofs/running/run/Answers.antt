use Rattle.std.proofs.Common.{inl, inr, refl, sym, subst}
use Rattle.group_commit.specs.Marks.{AreReached}
use Rattle.recovery.proofs.RefusalLemmas.{only_opened, starved_opening}
use Rattle.recovery.proofs.Stores.{opened_sound}
use Rattle.store.specs.Openings.{naming_of}
use Rattle.fizgaloms.specs.Works.{AreTold}
use Rattle.fizgaloms.proofs.WorkLemmas.{ok_then, ok_always, parts_told, was_opened}
use Rattle.fizgaloms.proofs.running.run.Goals as goal

pub returns-in-Ok-clause-opened : goal.returns-in-Ok-clause-opened
returns-in-Ok-clause-opened g c =
    let opened = c.in-Ok.ensures in
    let result = c.run_opened.result in
    let closed = c.run_opened.ensures.closed in
    let says = g.W.Work.says c.args.work.now in
    ok_then result.0 _ _ closed.parts_of (λ answers are.
    was_opened g.D.Disk _ _ (λ o. AreTold (says o) answers.items result.1.kept) c.args.disk
    c.in-Ok.opened.keeper.disk result.1.disk result.1.kept closed
    (λ was_kept all. parts_told (says (naming_of {J = Unit {0}} g.D.Disk c.in-Ok.opened).origin)
    answers.items closed.left closed.made closed.closes.steps result.1.kept are.0
    are.1 closed.closes.counted
    (subst (AreReached closed.left.counts) (sym closed.mark) closed.closes.reached) was_kept all)
    (only_opened g.D.Disk c.args.disk c.in-Ok.opened.keeper.disk c.in-Ok.opened.book
    c.in-Ok.opened.keeper.area opened.opened opened.ready) opened.kept
    (λ honest rest. record {
      bytes = g.D.Disk.seen c.args.disk;
      is_opened = opened.opened honest;
      ready = opened.ready honest rest;
    })
    (λ honest. opened_sound (g.D.Disk.seen c.args.disk) _ _ _ (opened.opened honest))
    (λ content stands honest. opened.content content stands honest) refl (λ t bytes was. was))

pub returns-in-Ok-clause-left : goal.returns-in-Ok-clause-left
returns-in-Ok-clause-left g c =
    let opened = c.in-Ok.ensures in
    let result = c.run_opened.result in
    inr (was_opened g.D.Disk _ _ (λ origin steps was_kept. Unit {0}) c.args.disk
    c.in-Ok.opened.keeper.disk result.1.disk result.1.kept c.run_opened.ensures.closed
    (λ was_kept all. tt)
    (only_opened g.D.Disk c.args.disk c.in-Ok.opened.keeper.disk c.in-Ok.opened.book
    c.in-Ok.opened.keeper.area opened.opened opened.ready) opened.kept
    (λ honest rest. record {
      bytes = g.D.Disk.seen c.args.disk;
      is_opened = opened.opened honest;
      ready = opened.ready honest rest;
    })
    (λ honest. opened_sound (g.D.Disk.seen c.args.disk) _ _ _ (opened.opened honest))
    (λ content stands honest. opened.content content stands honest) refl (λ t bytes was. was))

pub returns-in-Ok-clause-rest : goal.returns-in-Ok-clause-rest
returns-in-Ok-clause-rest g c = ok_always c.run_opened.result.0 c.run_opened.ensures.rest

pub returns-in-Err-clause-left : goal.returns-in-Err-clause-left
returns-in-Err-clause-left g c =
    let e = c.in-Err.ensures in
    inl (record {
      ends = starved_opening g.D.Disk c.args.disk c.in-Err.disk _ _ _ c.in-Err.refusal e.refused
          e.unchanged e.opened_at_most;
      any_moment = e.kept_in_refusal;
    })
