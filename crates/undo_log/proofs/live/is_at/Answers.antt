use Rattle.std.proofs.Common.{◌∙◌, sym, ap}
use Rattle.std.specs.Prelude.{option_copied}
use Rattle.std.proofs.lemmas.Bool.{eqb-true}
use Rattle.undo_log.proofs.live.is_at.Goals as goal

pub returns-in-Some : goal.returns-in-Some
returns-in-Some c same = (
  c.in-Some.transaction.now,
  sym c.get.ensures ∙ ap option_copied c.in-Some.is,
  eqb-true c.in-Some.transaction.now.number c.args.handle.number same,
)
