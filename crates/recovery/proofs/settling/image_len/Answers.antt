use Rattle.std.proofs.Common.{◌+◌, ◌-◌, ◌^◌, min, ap, ◌∙◌, arith}
use Rattle.recovery.proofs.CopyLemmas.{counted_none, counted_one, counted_all}
use Rattle.recovery.proofs.settling.image_len.Goals as goal

pub loop-i-init : goal.loop-i-init
loop-i-init c = counted_none c.args.image.now.blocks.items

pub loop-i-preserved : goal.loop-i-preserved
loop-i-preserved c =
    counted_one c.args.image.now.blocks.items c.loop-i.len c.saturating_add-len.result c.loop-i.i
    c.index.result.now (omega (arith, c.loop-i-test.true, c.len-i-end.ensures)) c.index.ensures
    c.args.image.now.whole (c.saturating_add-len.ensures ∙
    ap (λ n. min (c.loop-i.len + (n - 1)) (2 ^ 64 - 1))
    (c.len.ensures ∙ c.index.result.now.ok.0)) c.loop-i.invariant

pub returns : goal.returns
returns c = counted_all c.args.image.now.blocks.items c.loop-i.len c.loop-i.i
    (omega (arith, c.loop-i-test.false, c.len-i-end.ensures)) c.loop-i.invariant
