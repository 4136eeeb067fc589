use Rattle.std.proofs.Common.{sym, ◌∙◌, true≢false}
use Rattle.recovery.proofs.CopyLemmas.{none_laid, laid_one, stop_on, row_laid}
use Rattle.recovery.proofs.copying.lay_all.Goals as goal

pub loop-laying-init : goal.loop-laying-init
loop-laying-init g c =
    none_laid g.D.Disk.seen g.D.Disk.may_leave g.D.Disk.moment g.D.Disk.left_since
    g.D.Disk.fault_count c.args.laying c.args.disk.now (g.met.D.Disk.only_now c.args.disk.now)
    c.requires.fine c.requires.room

pub loop-laying-preserved : goal.loop-laying-preserved
loop-laying-preserved g c =
    let step = c.lay_next.ensures in
    laid_one g.D.Disk.seen g.D.Disk.may_leave g.D.Disk.moment g.D.Disk.left_since
    g.D.Disk.fault_count c.args.laying c.loop-laying.laying c.lay_next.new.self c.args.disk.now
    c.loop-laying.disk c.lay_next.new.disk c.lay_next.result
    (sym c.is_err.ensures.value ∙ c.if-is_err.false) c.requires.behind c.loop-laying.invariant
    (g.met.D.Disk.counts_now c.loop-laying.disk) step.any_moment step.written step.fine step.room
    step.elsewhere.same_size step.laid step.faults

pub returns-then-is_err-clause-stop : goal.returns-then-is_err-clause-stop
returns-then-is_err-clause-stop g c =
    stop_on g.D.Disk.seen g.D.Disk.may_leave g.D.Disk.moment g.D.Disk.left_since
    g.D.Disk.fault_count c.args.laying c.loop-laying.laying c.args.disk.now c.loop-laying.disk
    c.lay_next.new.disk c.requires.behind c.loop-laying.invariant
    (g.met.D.Disk.counts_now c.loop-laying.disk) c.lay_next.ensures.any_moment

pub returns-clause-laid : goal.returns-clause-laid
returns-clause-laid g c =
    row_laid g.D.Disk.seen g.D.Disk.may_leave g.D.Disk.moment g.D.Disk.left_since
    g.D.Disk.fault_count c.args.laying c.loop-laying.laying c.args.disk.now c.loop-laying.disk
    c.loop-laying.invariant
    (λ some. true≢false (sym (c.has_more.ensures.1 some) ∙ c.loop-laying-test.false))
