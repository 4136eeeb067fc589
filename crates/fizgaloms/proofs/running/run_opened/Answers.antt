use denote.Param.{param}
use Rattle.std.proofs.Common.{◌≡◌, sym, ap, subst, ◌∙◌, length, IfOk, Vec, Global}
use Rattle.store.proofs.Sends.{parts, store_sync}
use Rattle.fizgaloms.specs.Works.{AreParts}
use Rattle.fizgaloms.proofs.WorkLemmas.{closed_with, ok_then}
use Rattle.fizgaloms.proofs.running.run_opened.Goals as goal

pub run_beside-ended-requires-sync-S : goal.run_beside-ended-requires-sync-S
run_beside-ended-requires-sync-S g c κs within =
    let b = c.type_bounds in
    let store = store_sync (param 1 g.row.D) (param 0 g.row.J) g.J.Naming g.D.Disk b.send-D b.send-J
    b.sync-J in
    search (parts, store)

pub returns-in-Ok-join-clause-closed : goal.returns-in-Ok-join-clause-closed
returns-in-Ok-join-clause-closed g c =
    let says = g.W.Work.says c.args.work.now g.J.Naming.origin in
    let answers = c.in-Ok-join.answers in
    closed_with g.J.Naming g.D.Disk _
    (λ left made. IfOk c.of_all.result
    (λ all. AreParts says all.items left × (made ≡ length all.items)))
    c.close-closed.result.0.disk c.close-closed.result.0.kept c.close-closed.ensures.closed
    (λ left made is. ok_then c.of_all.result _ _ c.of_all.ensures (λ all are. (
      subst (λ (v : Vec g.row.W-Output.Denot Global). AreParts says v.items left) (sym are.0)
          (subst (AreParts says answers.items) (sym is.0) c.in-Ok-join.ensures.parts),
      is.1 ∙ are.1 ∙ sym c.in-Ok.ensures.len ∙ sym c.in-Ok-join.ensures.len ∙ answers.ok.0 ∙
          sym (ap (λ (v : Vec g.row.W-Output.Denot Global). length v.items) are.0),
    )))
