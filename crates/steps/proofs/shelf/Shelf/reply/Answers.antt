use Rattle.std.proofs.Common.{refl, subst}
use Rattle.boosted.specs.Meaning.{CanDefer}
use Rattle.steps.specs.Shelves.{ShelfState}
use Rattle.steps.proofs.shelf.Shelf.reply.Goals as goal

pub returns-in_ok-deferrable-in-AtCommit-clause-ok :
    goal.returns-in_ok-deferrable-in-AtCommit-clause-ok
returns-in_ok-deferrable-in-AtCommit-clause-ok g c =
    let call = c.args.call.now in
    let can = subst (λ (s : ShelfState _). CanDefer g.C.Boosted.meaning s.now c.args.at call)
    c.self.view_is (c.in_ok-deferrable-in-AtCommit.ensures.ok.0 refl) in
    rw c.in-AtCommit.is (
      can,
      (
        refl,
        (g.met.C.Boosted.laws.holds c.args.self.now.now).deferred_is_ready c.args.at call can.0
            can.1,
      ),
    )
