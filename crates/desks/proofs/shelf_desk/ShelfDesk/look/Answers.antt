use Rattle.std.proofs.Common.{subst}
use Rattle.steps.specs.Looks.{IsLooked}
use Rattle.desks.proofs.shelf_desk.ShelfDesk.look.Goals as goal

pub returns : goal.returns
returns g c =
    subst (λ s. IsLooked g.B.Shelf.Boosted.meaning c.args.when c.args.format s c.args.number
    c.args.at
    c.args.call.now c.look.result) c.self.view_is c.look.ensures
