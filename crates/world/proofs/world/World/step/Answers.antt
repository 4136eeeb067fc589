use Rattle.world.specs.declared.step.Step.{Step}
use Rattle.world.specs.declared.step.Answer.{Answer}
use Rattle.world.proofs.AnswerLemmas.{wrapped}
use Rattle.world.proofs.world.World.step.Goals as goal

pub returns-in-Draw : goal.returns-in-Draw
returns-in-Draw g c = wrapped g.D.Disk _ _ (Step.Draw) c.args.step.now (Answer.Drawn) c.draw.result
    c.map_or_else.result c.in-Draw.is c.map_or_else.ensures c.draw.ensures

pub returns-in-Make : goal.returns-in-Make
returns-in-Make g c = wrapped g.D.Disk _ _ (Step.Make c.in-Make.name c.in-Make.kind) c.args.step.now
    (Answer.Placed) c.make.result c.map_or_else-in-Make.result c.in-Make.is
    c.map_or_else-in-Make.ensures c.make.ensures

pub returns-in-Enter : goal.returns-in-Enter
returns-in-Enter g c = rw (c.in-Enter.is, c.answered.ensures) c.enter.ensures

pub returns-in-Ask : goal.returns-in-Ask
returns-in-Ask g c = wrapped g.D.Disk _ _
    (Step.Ask c.in-Ask.number c.in-Ask.collection c.in-Ask.asked c.in-Ask.when) c.args.step.now
    (Answer.Replied) c.ask.result c.map_or_else-in-Ask.result c.in-Ask.is
    c.map_or_else-in-Ask.ensures c.ask.ensures

pub returns-in-Commit : goal.returns-in-Commit
returns-in-Commit g c = wrapped g.D.Disk _ _ (Step.Commit c.in-Commit.number) c.args.step.now
    (Answer.Placed) c.commit.result c.map_or_else-in-Commit.result c.in-Commit.is
    c.map_or_else-in-Commit.ensures c.commit.ensures

pub returns-in-Back : goal.returns-in-Back
returns-in-Back g c = wrapped g.D.Disk _ _ (Step.Back c.in-Back.number) c.args.step.now
    (Answer.Backed) c.back.result c.map_or_else-in-Back.result c.in-Back.is
    c.map_or_else-in-Back.ensures c.back.ensures

pub returns-in-Ended : goal.returns-in-Ended
returns-in-Ended g c = rw (c.in-Ended.is, c.answered-in-Ended.ensures) c.ended.ensures

pub returns-in-Cut : goal.returns-in-Cut
returns-in-Cut g c = wrapped g.D.Disk _ _ (Step.Cut) c.args.step.now (Answer.Cut) c.cut.result
    c.map_or_else-in-Cut.result c.in-Cut.is c.map_or_else-in-Cut.ensures c.cut.ensures

pub returns-in-Turn : goal.returns-in-Turn
returns-in-Turn g c = wrapped g.D.Disk _ _ (Step.Turn) c.args.step.now (Answer.Turned) c.turn.result
    c.map_or_else-in-Turn.result c.in-Turn.is c.map_or_else-in-Turn.ensures c.turn.ensures

pub returns-in-Gather : goal.returns-in-Gather
returns-in-Gather g c = wrapped g.D.Disk _ _ (Step.Gather) c.args.step.now (Answer.Gathered)
    c.gather.result c.map_or_else-in-Gather.result c.in-Gather.is c.map_or_else-in-Gather.ensures
    c.gather.ensures

pub returns-in-Freeze : goal.returns-in-Freeze
returns-in-Freeze g c = rw (c.in-Freeze.is, c.answered-in-Freeze.ensures) c.freeze.ensures

pub returns-in-Pack : goal.returns-in-Pack
returns-in-Pack g c = rw (c.in-Pack.is, c.answered-in-Pack.ensures) c.pack.ensures

pub returns-in-Piece : goal.returns-in-Piece
returns-in-Piece g c = wrapped g.D.Disk _ _ (Step.Piece) c.args.step.now (Answer.Laid)
    c.piece.result c.map_or_else-in-Piece.result c.in-Piece.is c.map_or_else-in-Piece.ensures
    c.piece.ensures

pub returns-in-Flip : goal.returns-in-Flip
returns-in-Flip g c = wrapped g.D.Disk _ _ (Step.Flip) c.args.step.now (Answer.Flipped)
    c.flip.result c.map_or_else-in-Flip.result c.in-Flip.is c.map_or_else-in-Flip.ensures
    c.flip.ensures
