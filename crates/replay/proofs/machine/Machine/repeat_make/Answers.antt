use Rattle.std.proofs.Common.{subst}
use Rattle.catalog.specs.Making as naming
use Rattle.steps.specs.Machine.{Steps}
use Rattle.steps.proofs.Rows.{make_stuck}
use Rattle.replay.proofs.machine.Machine.repeat_make.Goals as goal

pub returns-in-Err : goal.returns-in-Err
returns-in-Err g c =
    let refused = subst (λ n. naming.MakeRefused (g.B.Parts.making.names c.args.self.now.now) n
    c.in-Err.refusal) c.as_str.ensures c.in-Err.ensures.err in
    rw c.unmade.ensures (make_stuck g.B.Parts.making (Steps g.B.Boosted.meaning g.B.Parts.making)
    c.args.self.now _ c.args.name.now c.args.kind c.in-Err.refusal (λ v row. row)
    c.in-Err.ensures.same refused)
