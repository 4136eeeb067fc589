use Rattle.std.proofs.Common.{inl, inr, refl, ap, Ok, Err}
use Rattle.std.proofs.lemmas.Result.{err_from_is_err_and}
use Rattle.world.specs.declared.step.Answer.{Answer}
use Rattle.engine.proofs.OfBook.{of_repeated, of_gathered, of_ungathered}
use Rattle.world.proofs.GatherSteps.{gather_taken, gather_refused}
use Rattle.world.proofs.world.World.gather.Goals as goal

pub invariant_of-self : goal.invariant_of-self
invariant_of-self g c = (
  c.self.invariant.0,
  of_repeated c.gather.new.self c.gather.new.gather c.catch_up.new.self c.catch_up.ensures.repeats
      (of_gathered c.self.inside.book c.gather.new.self c.self.inside.gather c.gather.new.gather
      c.in-Ok.more c.in-Ok.ensures.answer c.in-Ok.ensures.along c.self.invariant.1),
)

pub returns-in_err-catch_up-in-Ok : goal.returns-in_err-catch_up-in-Ok
returns-in_err-catch_up-in-Ok g c =
    let p = err_from_is_err_and c.from_residual.result c.from_residual.ensures.1 in
    let e = c.in_err-catch_up-in-Ok.field-0.0 in
    rw (← c.self.view_is, p.1, p.2)
    (gather_taken g.D.Disk _ (g.met.D.Disk.only_now c.self.inside.keeper.disk) c.in-Ok.more
    (Answer.Refused e) (Err e) c.gather.new.self c.gather.new.gather c.catch_up.new.self refl
    c.self.invariant.1 c.in-Ok.ensures.answer c.catch_up.ensures.repeats
    (inr (ap Answer.Refused c.in_err-catch_up-in-Ok.ensures.refusal)))

pub invariant_of-self-in-Ok : goal.invariant_of-self-in-Ok
invariant_of-self-in-Ok g c = (
  c.self.invariant.0,
  of_repeated c.gather.new.self c.gather.new.gather c.catch_up.new.self c.catch_up.ensures.repeats
      (of_gathered c.self.inside.book c.gather.new.self c.self.inside.gather c.gather.new.gather
      c.in-Ok.more c.in-Ok.ensures.answer c.in-Ok.ensures.along c.self.invariant.1),
)

pub returns-in_ok-catch_up-in-Ok : goal.returns-in_ok-catch_up-in-Ok
returns-in_ok-catch_up-in-Ok g c =
    rw (← c.self.view_is)
    (gather_taken g.D.Disk _ (g.met.D.Disk.only_now c.self.inside.keeper.disk) c.in-Ok.more
    (Answer.Gathered c.in-Ok.more) (Ok c.in-Ok.more) c.gather.new.self c.gather.new.gather
    c.catch_up.new.self refl c.self.invariant.1 c.in-Ok.ensures.answer c.catch_up.ensures.repeats
    (inl (refl, c.in_ok-catch_up-in-Ok.ensures.all)))

pub returns-in-Err : goal.returns-in-Err
returns-in-Err g c =
    let w = c.self.inside in
    rw (← c.self.view_is)
    (gather_refused g.D.Disk _ (g.met.D.Disk.only_now w.keeper.disk) c.in-Err.refusal
    c.gather.new.self c.gather.new.gather c.give_up_outrun.new.gather
    (of_ungathered w.book c.gather.new.self w.gather c.gather.new.gather c.in-Err.refusal
    c.in-Err.ensures.answer).1 c.in-Err.ensures.answer c.give_up_outrun.ensures)
