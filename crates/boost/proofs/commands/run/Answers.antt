use Rattle.std.proofs.Common.{◌≡◌, sym, ◌∙◌, subst}
use Rattle.std.specs.Prelude.{IfErr}
use Rattle.boost.specs.Commands.{IsWhyUndone}
use Rattle.boost.proofs.EffectLemmas.{refused_one}
use Rattle.boost.proofs.commands.run.Goals as goal

pub returns-in-Err-default-clause-refused : goal.returns-in-Err-default-clause-refused
returns-in-Err-default-clause-refused g c = λ one is.
    refused_one c.args.task.now c.args.script.now (c.carry_out.result.1 ≡ c.args.disk)
    c.in-Err-default.failure (sym c.report.ensures.status ∙ one)
    (subst (λ r. IfErr r (IsWhyUndone c.args.task.now c.args.script.now
    (c.carry_out.result.1 ≡ c.args.disk))) c.in-Err-default.is-0 c.carry_out.ensures.why) is
