use Rattle.std.proofs.Common.{[], sym, ap, cond, ◌∙◌}
use Rattle.std.proofs.lemmas.Result.{IfOk-weaker}
use Rattle.std.specs.Option.{option_to_list}
use Rattle.undo_log.specs.Entries.{event_of}
use Rattle.images.specs.Gatherings.{GatheringState}
use Rattle.images.proofs.Undoing.{can_take_back}
use Rattle.images.proofs.gathering.Gathering.effect_of_undoing.Goals as goal

pub returns-then-not-self-clause-ok : goal.returns-then-not-self-clause-ok
returns-then-not-self-clause-ok g c =
    let x = event_of c.args.newest.now in
    let there = can_take_back g.C.Boosted.meaning c.args.lsn x c.args.collections.now
    c.requires.told c.requires.undoes in (
      there.0,
      there.1,
      there.2,
      sym (ap (λ b. cond b there.1 []) (ap (λ (n : GatheringState). n.going) (sym c.self.view_is) ∙
          c.if-not-self.true)),
    )

pub returns-clause-ok : goal.returns-clause-ok
returns-clause-ok g c = IfOk-weaker c.undoing_of.result _ _
    (λ undoing there. (
      there.0,
      option_to_list undoing,
      there.1,
      sym (ap (λ b. cond b (option_to_list undoing) []) (ap (λ (n : GatheringState). n.going)
          (sym c.self.view_is) ∙ c.if-not-self.false)),
    )) c.undoing_of.ensures.ok
