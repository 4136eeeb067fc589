use Rattle.std.proofs.Common.{◌<◌, ◌+◌, length, refl, subst, rules}
use Rattle.disk_model.specs.Disk.{Rises}
use Rattle.gate_block.specs.Area.{size_of, offset_of}
use Rattle.gate_block.specs.Row.{IsBlockOf}
use Rattle.records.specs.declared.block.Block.{Block}
use Rattle.checkpoint.proofs.Turning.{brought, brought_once, laid_on}
use Rattle.checkpoint.proofs.TurnKeeping.{turn_still, turn_brings}
use Rattle.checkpoint.proofs.keeper.Keeper.turn.Goals as goal

pub returns-then-self-clause-answer : goal.returns-then-self-clause-answer
returns-then-self-clause-answer g c = rw (← c.self.view_is) (
  c.if-self.true,
  g.met.I.Inbox.receives_none c.args.inbox.now,
  (refl, refl),
  refl,
  refl,
  c.if-self.true,
)

-- nothing was received
pub returns-then-self-clause-crash : goal.returns-then-self-clause-crash
returns-then-self-clause-crash g c =
    turn_still g.D.Disk (λ bs. g.I.Inbox.receives c.args.inbox.now bs c.args.inbox.now)
    (g.met.I.Inbox.receives_one_list c.args.inbox.now c.args.inbox.now) c.args.self.now
    (g.met.I.Inbox.receives_none c.args.inbox.now) (g.met.D.Disk.only_now c.args.self.now.disk)

pub returns-in-Some-clause-answer : goal.returns-in-Some-clause-answer
returns-in-Some-clause-answer g c =
    rw (← c.self.view_is) (brought _ _ _ c.in-Some.block _ _ _ _ _ _ _ _ _ c.bring.result _
    c.in-Some.ensures.some c.if-self.false c.bring.ensures.answer)

pub returns-in-Some-clause-crash : goal.returns-in-Some-clause-crash
returns-in-Some-clause-crash g c =
    rw (← c.self.view_is) (turn_brings g.D.Disk
    (λ bs. g.I.Inbox.receives c.args.inbox.now bs c.next_block.new.inbox)
    (g.met.I.Inbox.receives_one_list c.args.inbox.now c.next_block.new.inbox) _ c.in-Some.block
    c.bring.new.self
    (size_of c.self.inside.area < offset_of c.self.inside.area + length
    c.in-Some.block.bytes.items)
    (Rises (g.D.Disk.fault_count c.self.inside.disk) (g.D.Disk.fault_count c.bring.new.self.disk))
    c.if-self.false c.in-Some.ensures.some c.bring.result
    (record {
      kept = c.bring.ensures.kept;
      any_moment = c.bring.ensures.any_moment;
      elsewhere = c.bring.ensures.elsewhere;
      laid = λ w bodies is was. laid_on g.D.Disk.seen _ w _ bodies c.self.invariant is
          c.bring.ensures.elsewhere was;
      base = c.bring.ensures.base;
      size = c.bring.ensures.size;
      covered = c.bring.ensures.covered;
      stage = c.bring.ensures.stage;
      only_now = g.met.D.Disk.only_now c.self.inside.disk;
      counts_now = g.met.D.Disk.counts_now c.bring.new.self.disk;
    })
    c.bring.ensures.answer)

-- the block of a clause is the one that is brought
pub returns-in-Some-clause-kept : goal.returns-in-Some-clause-kept
returns-in-Some-clause-kept g c = rw (← c.self.view_is) (λ bodies body b is is_block late ready.
    let same = brought_once c.self.inside.held _
    (g.met.I.Inbox.receives_one_list c.args.inbox.now c.next_block.new.inbox) b c.in-Some.block is
    c.in-Some.ensures.some in
    c.bring.ensures.kept bodies body
    (subst (λ (x : Block). IsBlockOf body x.bytes.items) same is_block)
    (subst (λ (x : Block). c.self.inside.covered < x.end) same late) ready)

pub returns-in-Some-clause-any_moment : goal.returns-in-Some-clause-any_moment
returns-in-Some-clause-any_moment g c =
    rw (← c.self.view_is) (λ bodies body b not_failed is is_block ready.
    let same = brought_once c.self.inside.held _
    (g.met.I.Inbox.receives_one_list c.args.inbox.now c.next_block.new.inbox) b c.in-Some.block is
    c.in-Some.ensures.some in
    c.bring.ensures.any_moment bodies body
    (subst (λ (x : Block). IsBlockOf body x.bytes.items) same is_block) ready)

pub returns-in-Some-clause-laid : goal.returns-in-Some-clause-laid
returns-in-Some-clause-laid g c =
    rw (← c.self.view_is) (λ w bodies is was. laid_on g.D.Disk.seen _ w _ bodies c.self.invariant is
    c.bring.ensures.elsewhere was)

pub returns-in-None-clause-answer : goal.returns-in-None-clause-answer
returns-in-None-clause-answer g c = search rules

pub returns-in-None-clause-crash : goal.returns-in-None-clause-crash
returns-in-None-clause-crash g c =
    rw (← c.self.view_is, c.in-None.ensures.held, c.in-None.ensures.none) (turn_still g.D.Disk
    (λ bs. g.I.Inbox.receives c.args.inbox.now bs c.next_block.new.inbox)
    (g.met.I.Inbox.receives_one_list c.args.inbox.now c.next_block.new.inbox) _
    c.in-None.ensures.received (g.met.D.Disk.only_now c.self.inside.disk))
