use Rattle.std.proofs.Common.{◌≡◌, ◌∷◌, [], subst}
use Rattle.calls.specs.Transactions.{laters_of}
use Rattle.undo_log.specs.Entries.{entry_of}
use Rattle.steps.specs.Shelves.{CanRun, of_quarter}
use Rattle.steps.proofs.DeferredRuns.{deferred_inside}
use Rattle.steps.proofs.laters.run_entry.Given.{Over}
use Rattle.steps.proofs.laters.run_entry.Goals as goal

-- all that the entry defers is of the quarter
inside : (g : Over) (c : goal.After-run_deferred-arg-1 g) →
    of_quarter c.args.quarter (laters_of (entry_of c.args.entry.now ∷ [])) ≡
    laters_of (entry_of c.args.entry.now ∷ [])
inside g c = deferred_inside c.args.quarter (entry_of c.args.entry.now) (λ there.
    let is = c.is_outside.ensures.1 there in let not = c.if-is_outside.false in cc)

pub run_deferred-requires : goal.run_deferred-requires
run_deferred-requires g c = record {
  can = subst (λ es. CanRun g.C.Boosted.meaning es c.args.collections.now) (inside g c)
      c.requires.can;
}
