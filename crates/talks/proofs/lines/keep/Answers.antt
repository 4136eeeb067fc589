use Rattle.std.proofs.Common.{rules, ◌∙◌, arith}
use Rattle.talks.proofs.LineLemmas.{take_behind}
use Rattle.talks.proofs.lines.keep.Goals as goal

pub returns : goal.returns
returns c =
    c.in_ok-extend_from_slice.ensures.items
    ∙ take_behind 4096 c.min.result c.args.line.now.items c.args.more.now (search rules)
    (omega (arith, c.min.ensures, c.len.ensures))
