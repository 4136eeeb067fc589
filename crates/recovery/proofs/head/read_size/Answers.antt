use Rattle.std.proofs.Common.{◌∙◌, sym, ap, length}
use Rattle.recovery.proofs.HeadLemmas.{no_header, on_ok}
use Rattle.recovery.proofs.head.read_size.Goals as goal

pub returns-clause-refused : goal.returns-clause-refused
returns-clause-refused g c =
    no_header c.said.result c.ok_or.result _ _ c.read.new.out (g.D.Disk.seen c.args.disk.now)
    c.size-2.result c.ok_or.ensures.value
    (on_ok c.read.result _ (sym c.is_err.ensures.value ∙ c.if-is_err.false)
    c.read.ensures.bytes) (c.size-2.ensures ∙ ap length c.read.ensures.reads.same)
    c.said.ensures.none
