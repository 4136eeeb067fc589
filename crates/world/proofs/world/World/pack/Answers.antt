use Rattle.std.proofs.Common.{sym, ◌∙◌, subst}
use Rattle.std.proofs.lemmas.Result.{err_from_is_err_and}
use Rattle.checkpoint.specs.ImageAnswers.{BeginAnswers}
use Rattle.world.proofs.GatherSteps.{none_frozen, some_frozen, pack_unfrozen, pack_taken}
use Rattle.world.proofs.GatherSteps.{pack_refused}
use Rattle.world.proofs.world.World.pack.Goals as goal

pub returns-then-not-is_frozen : goal.returns-then-not-is_frozen
returns-then-not-is_frozen g c =
    let w = c.args.self.now in
    pack_unfrozen g.D.Disk w (g.met.D.Disk.only_now w.keeper.disk)
    (none_frozen w.gather.frozen (sym c.is_frozen.ensures ∙ c.if-not-is_frozen.true))

pub returns-in_err-image : goal.returns-in_err-image
returns-in_err-image g c =
    let p = err_from_is_err_and c.from_residual.result c.from_residual.ensures.1 in
    rw (← c.self.view_is, p.1, p.2, c.in_err-image.ensures.refusal)
    (pack_refused g.D.Disk _ (g.met.D.Disk.only_now c.self.inside.keeper.disk)
    c.pack.new.gather
    (some_frozen _ (sym (rw (← c.self.view_is) at c.is_frozen.ensures) ∙
    c.if-not-is_frozen.false)) c.in_err-image.ensures.back)

pub returns : goal.returns
returns g c =
    rw (← c.self.view_is, c.in_ok-image.ensures.taken)
    (pack_taken g.D.Disk _ (g.met.D.Disk.only_now c.self.inside.keeper.disk) c.in_ok-image.image
    c.begin_image.new.self c.begin_image.result c.in_ok-image.ensures.ok
    (subst (λ n. BeginAnswers c.self.inside.keeper c.in_ok-image.image n c.begin_image.new.self
    c.begin_image.result) c.blocks_len.ensures c.begin_image.ensures.answer)
    c.begin_image.ensures.crash)
