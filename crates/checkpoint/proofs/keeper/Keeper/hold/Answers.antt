use Rattle.std.proofs.Common.{refl, sym, true≢false, Ok, Err}
use Rattle.calls.specs.declared.refusal.Refusal.{Refusal}
use Rattle.checkpoint.proofs.ImageKeeping.{hold_keeps}
use Rattle.checkpoint.proofs.keeper.Keeper.hold.Goals as goal

pub returns-then-self-clause-crash : goal.returns-then-self-clause-crash
returns-then-self-clause-crash g c = rw (← c.self.view_is) (hold_keeps g.D.Disk _ _
    (g.met.D.Disk.only_now c.self.inside.disk) (g.met.D.Disk.counts_now c.self.inside.disk)
    (record { end = c.args.end; place = c.args.place }) (Err Refusal.Failed)
    (c.if-self.true, refl))

pub returns-then-not-is_idle-clause-answer : goal.returns-then-not-is_idle-clause-answer
returns-then-not-is_idle-clause-answer g c = rw (← c.self.view_is) (
  c.if-self.false,
  (λ idle. true≢false (sym (c.if-not-is_idle.ensures.1 idle))),
  refl,
)

pub returns-then-not-is_idle-clause-crash : goal.returns-then-not-is_idle-clause-crash
returns-then-not-is_idle-clause-crash g c = rw (← c.self.view_is) (hold_keeps g.D.Disk _ _
    (g.met.D.Disk.only_now c.self.inside.disk) (g.met.D.Disk.counts_now c.self.inside.disk)
    (record { end = c.args.end; place = c.args.place }) (Err Refusal.Imaging) (
      c.if-self.false,
      (λ idle. true≢false (sym (c.if-not-is_idle.ensures.1 idle))),
      refl,
    ))

pub returns-clause-answer : goal.returns-clause-answer
returns-clause-answer g c = rw (← c.self.view_is)
    (c.if-self.false, c.if-not-is_idle.ensures.0 refl, refl)

pub returns-clause-crash : goal.returns-clause-crash
returns-clause-crash g c = rw (← c.self.view_is) (hold_keeps g.D.Disk _ _
    (g.met.D.Disk.only_now c.self.inside.disk) (g.met.D.Disk.counts_now c.self.inside.disk)
    (record { end = c.args.end; place = c.args.place }) (Ok tt)
    (c.if-self.false, c.if-not-is_idle.ensures.0 refl, refl))
