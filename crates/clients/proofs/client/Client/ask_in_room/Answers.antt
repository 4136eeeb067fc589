use Rattle.std.proofs.Common.{refl, inl, inr}
use Rattle.clients.proofs.Seeing.{does_entering, entering_again}
use Rattle.clients.proofs.client.Client.ask_in_room.Goals as goal

pub returns-in-Ok-clause-step : goal.returns-in-Ok-clause-step
returns-in-Ok-clause-step g c = inl (does_entering g.J.Naming c.args.self.now.phase
    c.args.self.now c.loop.self c.ask_once.new.self _ _ _ refl c.loop.invariant
    c.in-Ok.ensures.done)

pub returns-in-Ok-clause-deferred : goal.returns-in-Ok-clause-deferred
returns-in-Ok-clause-deferred g c = c.in-Ok.ensures.deferred

pub returns-in-Err-NoRoom-clause-step : goal.returns-in-Err-NoRoom-clause-step
returns-in-Err-NoRoom-clause-step g c = inr (
  refl,
  entering_again g.J.Naming c.args.self.now.phase c.args.self.now c.loop.self
      c.ask_once.new.self refl c.loop.invariant c.in-Err-NoRoom.ensures.miss,
)

pub loop-preserved : goal.loop-preserved
loop-preserved g c = entering_again g.J.Naming c.args.self.now.phase c.args.self.now c.loop.self
    c.ask_once.new.self refl c.loop.invariant c.in-Err-NoRoomYet.ensures.miss
