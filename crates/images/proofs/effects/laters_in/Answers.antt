use Rattle.std.proofs.Common.{None, sym, ◌∙◌, ap, ◌++◌, map, append-nil}
use Rattle.std.specs.Option.{option_to_list}
use Rattle.steps.proofs.DeferredRuns.{deferred}
use Rattle.images.specs.Gatherings.{effect_at}
use Rattle.images.proofs.Laters.{laters_more, laters_all}
use Rattle.images.proofs.effects.laters_in.Goals.{in-Some+in_ok-push_back, in_default}
use Rattle.images.proofs.effects.laters_in.Goals as goal

pub loop-stamped-init : goal.loop-stamped-init
loop-stamped-init c = ap (λ l. l ++ map (effect_at c.args.lsn) (deferred None c.args.entries.now))
    c.new-effects.ensures.items

pub loop-stamped-preserved : goal.loop-stamped-preserved
loop-stamped-preserved c =
    let more = laters_more (effect_at c.args.lsn) c.args.entries.now
    c.loop-stamped.stamped-index c.stamped-item.result c.loop-stamped-test.true c.stamped-item.is
    c.loop-stamped.effects.items c.match-branch-2.effects.items c.in_ok-effect.field-0
    c.in_ok-effect.ensures.ok in
    elim c.match-branch-2.branch [
      | in-Some+in_ok-push_back w ↦ more
          (ap (λ q. q.items) w.effects-is ∙ w.in_ok-push_back.ensures.items ∙
          ap (λ o. c.loop-stamped.effects.items ++ option_to_list o) (sym w.in-Some.is))
          c.loop-stamped.invariant
      | in_default w ↦ more
          (ap (λ q. q.items) w.effects-is ∙ sym (append-nil c.loop-stamped.effects.items) ∙
          ap (λ o. c.loop-stamped.effects.items ++ option_to_list o) (sym w.in_default.is))
          c.loop-stamped.invariant
    ]

pub returns-clause-ok : goal.returns-clause-ok
returns-clause-ok c = laters_all (effect_at c.args.lsn) c.args.entries.now
    c.loop-stamped.stamped-index c.loop-stamped-test.false c.loop-stamped.effects.items
    c.loop-stamped.invariant
