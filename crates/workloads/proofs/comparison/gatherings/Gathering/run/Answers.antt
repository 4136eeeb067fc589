use Rattle.std.proofs.Common.{◌∷◌, [], ◌++◌, sym, ◌∙◌, ap, subst, arith}
use Rattle.calls.specs.Contents.{after_at}
use Rattle.workloads.specs.Gatherings.{Goes}
use Rattle.workloads.proofs.Going.{goes_run}
use Rattle.workloads.proofs.comparison.gatherings.Gathering.run.Goals as goal

pub run-requires-clause-room : goal.run-requires-clause-room
run-requires-clause-room c =
    let low = c.requires.going.unworn in
    (c.args.self.now.lsn, c.requires.going.has_run.within, omega arith)

pub returns : goal.returns
returns c =
    let s = c.args.self.now in
    let e = c.args.effect in
    let after = after_at s.catalog e.collection e.call e.reply in
    let items = c.push_back_reserved.ensures.items ∙
    ap (λ l. l ++ e ∷ []) c.in_ok-reserve.ensures.items in
    subst (λ xs. Goes xs s.gather c.push_back_reserved.new.self.items e.lsn)
    (sym c.in_ok-run.ensures.ok)
    (subst (λ l. Goes after s.gather l e.lsn) (sym items)
    (goes_run s.catalog s.gather s.effects.items s.lsn c.requires.going e c.requires.lsn
    c.requires.unworn c.requires.answered c.requires.short))
