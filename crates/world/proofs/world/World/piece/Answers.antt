use Rattle.std.proofs.Common.{refl, sym, ◌∙◌, subst, arith, inl, inr, ◌≤◌, true≢false}
use Rattle.std.specs.Option.{IsSomeAnd}
use Rattle.checkpoint.specs.Imaging.{HasPiece}
use Rattle.calls.specs.declared.refusal.Refusal.{Refusal}
use Rattle.world.specs.declared.step.Step.{Step}
use Rattle.world.specs.declared.step.Answer.{Answer}
use Rattle.world.specs.Pasts.{outcome}
use Rattle.world.proofs.AnswerLemmas.{piece_answered}
use Rattle.world.proofs.StepLemmas.{passes, quiet}
use Rattle.world.proofs.KeeperSteps.{imaged, piece_told}
use Rattle.engine.proofs.KeeperLemmas.{piece_mark}
use Rattle.world.proofs.world.World.piece.Given.{Over}
use Rattle.world.proofs.world.World.piece.Goals as goal

pub returns-then-is_some_left : goal.returns-then-is_some_left
returns-then-is_some_left g c =
    let k = c.self.inside.keeper in
    let l = c.image_piece.new.self in
    let same = piece_mark k l _ c.image_piece.result c.image_piece.ensures.answer in
    let tells = piece_told c.image_piece.result in
    rw (← c.self.view_is) (record {
      past = λ start past had. (imaged g.D.Disk start past _ had
          (Step.Piece, outcome Answer.Laid c.image_piece.result) l c.self.inside.mark refl
          c.image_piece.ensures.crash (c.self.invariant.0 ∙ same) (omega arith)
          (omega (arith, tells))).0;
      any_moment = λ start past had. (imaged g.D.Disk start past _ had
          (Step.Piece, outcome Answer.Laid c.image_piece.result) l c.self.inside.mark refl
          c.image_piece.ensures.crash (c.self.invariant.0 ∙ same) (omega arith)
          (omega (arith, tells))).1;
      mark = omega arith;
      own = piece_answered c.image_piece.result;
      drawn = refl;
      moves = record {
        pieced = inl (
          subst (λ o. IsSomeAnd o (λ n. 1 ≤ n)) c.left.ensures
              (c.is_some_left.ensures.0 c.if-is_some_left.true),
          (c.image_piece.result, c.image_piece.ensures.answer, refl),
        );
        book = refl;
        gather = refl;
        transit = refl;
        mark = refl;
        next = refl;
        alike = (refl, refl);
      };
      honest = c.image_piece.ensures.honest;
    })

-- none is left
none_left : (g : Over) (c : goal.Else-is_some_left g) → HasPiece c.self.inside.keeper.stage → ⊥
none_left g c has = true≢false (sym
    (c.is_some_left.ensures.1 (subst (λ o. IsSomeAnd o (λ n. 1 ≤ n)) (sym c.left.ensures) has)) ∙
    c.if-is_some_left.false)

pub returns : goal.returns
returns g c = rw (← c.self.view_is) (record {
  past = λ start past had. passes g.D.Disk.seen g.D.Disk.may_leave start past _ had
      (Step.Piece, Answer.Refused Refusal.Unfinished) refl (omega arith);
  any_moment = λ start past had. quiet g.D.Disk.seen g.D.Disk.may_leave start past _ had
      g.D.Disk.moment g.D.Disk.left_since (g.met.D.Disk.only_now c.self.inside.keeper.disk)
      (Step.Piece, Answer.Refused Refusal.Unfinished);
  mark = omega arith;
  own = tt;
  drawn = refl;
  moves = record {
    pieced = inr (none_left g c, refl, refl);
    book = refl;
    gather = refl;
    transit = refl;
    mark = refl;
    next = refl;
    alike = (refl, refl);
  };
  honest = λ h. h;
})
