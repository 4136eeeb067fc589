use Rattle.std.proofs.Common.{sym, subst}
use Rattle.workloads.specs.Gatherings.{HasRun}
use Rattle.workloads.proofs.Going.{none_run, made_run}
use Rattle.workloads.proofs.comparison.gatherings.one_of_each.Goals as goal

pub returns : goal.returns
returns c =
    made_run 6 c.make-6.new.self c.make-7.new.self _ _
    (made_run 5 c.make-5.new.self c.make-6.new.self _ _
    (made_run 4 c.make-4.new.self c.make-5.new.self _ _
    (made_run 3 c.make-3.new.self c.make-4.new.self _ _
    (made_run 2 c.make-2.new.self c.make-3.new.self _ _
    (made_run 1 c.make.new.self c.make-2.new.self _ _
    (made_run 0 c.new-catalog.result c.make.new.self _ _
    (subst (λ xs. HasRun xs 0 0) (sym c.new-catalog.ensures) none_run)
    c.in_ok-make.ensures.ok.2) c.in_ok-make-2.ensures.ok.2) c.in_ok-make-3.ensures.ok.2)
    c.in_ok-make-4.ensures.ok.2) c.in_ok-make-5.ensures.ok.2) c.in_ok-make-6.ensures.ok.2) c.in_ok-make-7.ensures.ok.2
