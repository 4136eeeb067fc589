use Rattle.std.proofs.Common.{Err, refl, ap, subst, get_or, slice_set, ◌%◌}
use Rattle.std.proofs.lemmas.Result.{err_from_is_err_and}
use Rattle.talks.specs.Requests.{Obeys, nobody}
use Rattle.talks.proofs.player.Player.act.Goals as goal

pub returns-in_err-turn-in-Turn : goal.returns-in_err-turn-in-Turn
returns-in_err-turn-in-Turn g c =
    let p = err_from_is_err_and c.from_residual.result c.from_residual.ensures.1 in
    rw (c.in-Turn.is, p.1, p.2)
    (Err c.in_err-turn-in-Turn.field-0.0, refl, refl, c.in_err-turn-in-Turn.ensures)

pub returns-in-Client : goal.returns-in-Client
returns-in-Client g c =
    let clients = c.args.self.now.clients in
    rw c.in-Client.is (
      c.obey.new.client,
      ap (λ m. slice_set clients (m % 64) c.obey.new.client) c.from.ensures,
      subst (λ m. Obeys g.D.Disk (get_or clients (m % 64) nobody) c.args.self.now.world
          c.in-Client.request c.obey.result c.obey.new.client c.obey.new.world) c.from.ensures
          c.obey.ensures,
    )
