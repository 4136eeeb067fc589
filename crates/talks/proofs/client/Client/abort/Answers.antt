use Rattle.std.proofs.lemmas.Result.{err_from_is_err_and}
use Rattle.std.proofs.Common.{[], Err, refl, sym, subst}
use Rattle.calls.specs.declared.refusal.Refusal.{Refusal}
use Rattle.talks.specs.Clients.{AbortsOpen}
use Rattle.talks.proofs.ClientLemmas.{abort_refused, abort_taken_back, abort_unknown}
use Rattle.talks.proofs.client.Client.abort.Goals as goal
use Rattle.talks.proofs.client.Client.abort.Goals.{then-begun+in_ok-undo, else-begun}

pub returns-in_default : goal.returns-in_default
returns-in_default g c = (
  [],
  subst
      (λ o. AbortsOpen o c.args.self.now (Err Refusal.NoSuchTxn) [] c.args.self.now)
      (sym c.in_default.is) (refl, refl, refl),
  refl,
)

pub returns-in_err-undo : goal.returns-in_err-undo
returns-in_err-undo g c =
    let p = err_from_is_err_and c.from_residual.result c.from_residual.ensures.1 in
    rw (p.1, p.2) (abort_refused g.D.Disk c.args.self.now c.in-Some.begun c.in-Some.is
    c.args.world.now c.in_err-undo.field-0.0 c.undo.new.world c.if-begun.true
    c.in_err-undo.ensures)

pub returns : goal.returns
returns g c = elim c.if-begun.branch [
  | then-begun+in_ok-undo w ↦ abort_taken_back g.D.Disk c.args.self.now c.in-Some.begun c.in-Some.is
      c.args.world.now c.if-begun.world w.if-begun.true (rw w.world-is w.in_ok-undo.ensures)
  | else-begun w ↦ abort_unknown g.D.Disk c.args.self.now c.in-Some.begun c.in-Some.is
      c.args.world.now c.if-begun.world w.if-begun.false w.world-is
]
