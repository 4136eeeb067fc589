use Rattle.std.proofs.Common.{sym, ◌∙◌, true≢false}
use Rattle.replay.proofs.RepeatLemmas.{ok_weaker, err_weaker}
use Rattle.replay.proofs.ReadLemmas.{calls_take, calls_stuck}
use Rattle.replay.proofs.reading.read_asked.Goals as goal

pub returns-clause-ok : goal.returns-clause-ok
returns-clause-ok c =
    ok_weaker c.read_live.result _ _
    (λ stage leads n. calls_take n c.args.loader c.args.entry stage
    (λ begin. true≢false (sym (c.is_begin.ensures.1 begin) ∙ c.if-is_begin.false)) (leads n))
    c.read_live.ensures.ok

pub returns-clause-err : goal.returns-clause-err
returns-clause-err c = err_weaker c.read_live.result c.args.place _ _
    (λ none n. calls_stuck n c.args.loader c.args.entry none) c.read_live.ensures.err
