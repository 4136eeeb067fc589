use Rattle.std.proofs.Common.{◌≡◌, ◌<◌, ◌≤◌, ◌+◌, length, List, ap, ◌++◌, [], ◌∙◌, refl, arith, sym}
use Rattle.disk_model.specs.Disk.{Rises}
use Rattle.gate_block.specs.Area.{size_of, offset_of}
use Rattle.checkpoint.specs.Keepers.{IsPast}
use Rattle.engine.specs.Marks.{mark_behind}
use Rattle.world.proofs.KeeperSteps.{turned}
use Rattle.engine.proofs.KeeperLemmas.{mark_rises, mark_is, some_received}
use Rattle.world.proofs.AnswerLemmas.{turn_answered}
use Rattle.world.proofs.world.World.turn.Given.{Over}
use Rattle.world.proofs.world.World.turn.Goals as goal

-- the mark that the turn told is the keeper's
behind : (g : Over) (c : goal.After-self-1 g) →
    mark_behind c.self.inside.mark c.turn-turned.result ≡ c.turn-turned.new.self.mark
behind g c =
    let w = c.self.inside in
    let new = c.turn-turned.new.self in
    ap (λ m. mark_behind m c.turn-turned.result) c.self.invariant.0 ∙
    mark_is w.keeper.held (λ bs. w.transit.blocks.items ≡ bs ++
    c.turn-turned.new.inbox.blocks.items)
    (w.transit.blocks.items ≡ []) w.keeper.failed new.failed w.keeper.mark new.mark
    (λ b. b.end ≤ w.keeper.covered) (λ b. IsPast w.keeper.stage b.end)
    (λ b. size_of w.keeper.area < offset_of w.keeper.area + length b.bytes.items) _
    (Rises (g.D.Disk.fault_count w.keeper.disk) (g.D.Disk.fault_count new.disk))
    c.turn-turned.result new.held c.turn-turned.ensures.answer

marked : (g : Over) (c : goal.After-self-1 g) → c.self.inside.mark ≤ c.mark_after-self-inside.result
marked g c =
    let w = c.self.inside in
    let new = c.turn-turned.new.self in
    let rises = mark_rises w.keeper.held
    (λ bs. w.transit.blocks.items ≡ bs ++ c.turn-turned.new.inbox.blocks.items)
    (w.transit.blocks.items ≡ []) w.keeper.failed new.failed w.keeper.mark new.mark
    (λ b. b.end ≤ w.keeper.covered) (λ b. IsPast w.keeper.stage b.end)
    (λ b. size_of w.keeper.area < offset_of w.keeper.area + length b.bytes.items) _
    (Rises (g.D.Disk.fault_count w.keeper.disk) (g.D.Disk.fault_count new.disk))
    c.turn-turned.result new.held c.turn-turned.ensures.answer in
    omega (arith, rises, c.self.invariant.0, c.mark_after-self-inside.ensures, behind g c)

-- the blocks that the keeper took
took : (g : Over) (c : goal.After-self-1 g) → (bs : List _) ×
    (c.self.inside.transit.blocks.items ≡ bs ++ c.turn-turned.new.inbox.blocks.items)
took g c =
    let w = c.self.inside in
    let new = c.turn-turned.new.self in
    some_received w.keeper.held
    (λ bs. w.transit.blocks.items ≡ bs ++ c.turn-turned.new.inbox.blocks.items)
    (w.transit.blocks.items ≡ []) w.keeper.failed new.failed w.keeper.mark new.mark
    (λ b. b.end ≤ w.keeper.covered) (λ b. IsPast w.keeper.stage b.end)
    (λ b. size_of w.keeper.area < offset_of w.keeper.area + length b.bytes.items) _
    (Rises (g.D.Disk.fault_count w.keeper.disk) (g.D.Disk.fault_count new.disk))
    c.turn-turned.result new.held c.turn-turned.ensures.answer

pub returns : goal.returns
returns g c =
    let m = c.mark_after-self-inside.result in
    let told = c.mark_after-self-inside.ensures in
    rw (← c.self.view_is) (record {
      past = λ start past had. (turned g.D.Disk start past _ had c.turn-turned.new.self _
          (took g c).0
          m c.turn-turned.result (took g c).1 c.turn-turned.ensures.crash (told ∙ behind g c)
          (marked g c) (sym told)).0;
      any_moment = λ start past had. (turned g.D.Disk start past _ had c.turn-turned.new.self _
          (took g c).0 m c.turn-turned.result (took g c).1 c.turn-turned.ensures.crash
          (told ∙ behind g c) (marked g c) (sym told)).1;
      mark = marked g c;
      own = turn_answered c.turn-turned.result;
      drawn = refl;
      moves = record {
        turned = c.turn-turned.result;
        answer = refl;
        answers = c.turn-turned.ensures.answer;
        book = refl;
        gather = refl;
        mark = told;
        next = refl;
        alike = (refl, refl);
      };
      honest = c.turn-turned.ensures.honest;
    })
