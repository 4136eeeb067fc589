use Rattle.std.proofs.Common.{◌≡◌, ◌≤◌, refl, arith, ap, ◌∙◌}
use Rattle.world.specs.declared.step.Step.{Step}
use Rattle.world.specs.declared.step.Answer.{Answer}
use Rattle.world.specs.Pasts.{outcome}
use Rattle.engine.specs.Marks.{mark_flipped}
use Rattle.world.proofs.AnswerLemmas.{flip_answered}
use Rattle.world.proofs.KeeperSteps.{imaged, flip_told}
use Rattle.engine.proofs.KeeperLemmas.{flip_mark_is, flip_mark_rises}
use Rattle.world.proofs.world.World.flip.Given.{Over}
use Rattle.world.proofs.world.World.flip.Goals as goal

-- the mark that the flip told is the keeper's
behind : (g : Over) (c : goal.After-self-1 g) →
    c.mark_then-self-inside.result ≡ c.flip-flipped.new.self.mark
behind g c = c.mark_then-self-inside.ensures ∙
    ap (λ m. mark_flipped m c.flip-flipped.result) c.self.invariant.0 ∙
    flip_mark_is c.self.inside.keeper c.flip-flipped.new.self _ c.flip-flipped.result
    c.flip-flipped.ensures.answer

marked : (g : Over) (c : goal.After-self-1 g) → c.self.inside.mark ≤ c.mark_then-self-inside.result
marked g c =
    let rises = flip_mark_rises c.self.inside.keeper c.flip-flipped.new.self _ c.flip-flipped.result
    c.flip-flipped.ensures.answer in
    omega (
      arith,
      c.self.invariant.0,
      rises,
      c.mark_then-self-inside.ensures,
      ap (λ m. mark_flipped m c.flip-flipped.result) c.self.invariant.0,
    )

pub returns : goal.returns
returns g c =
    let m = c.mark_then-self-inside.result in
    let told = c.mark_then-self-inside.ensures in
    let tells = flip_told c.self.inside.mark c.flip-flipped.result in
    rw (← c.self.view_is) (record {
      past = λ start past had. (imaged g.D.Disk start past _ had
          (Step.Flip, outcome Answer.Flipped c.flip-flipped.result) c.flip-flipped.new.self m refl
          c.flip-flipped.ensures.crash (behind g c) (marked g c) (omega (arith, tells, told))).0;
      any_moment = λ start past had. (imaged g.D.Disk start past _ had
          (Step.Flip, outcome Answer.Flipped c.flip-flipped.result) c.flip-flipped.new.self m refl
          c.flip-flipped.ensures.crash (behind g c) (marked g c) (omega (arith, tells, told))).1;
      mark = marked g c;
      own = flip_answered c.flip-flipped.result;
      drawn = refl;
      moves = record {
        flipped = c.flip-flipped.result;
        answers = c.flip-flipped.ensures.answer;
        answer = refl;
        book = refl;
        gather = refl;
        transit = refl;
        mark = told;
        next = refl;
        alike = (refl, refl);
      };
      honest = c.flip-flipped.ensures.honest;
    })
