use Rattle.std.proofs.Common.{ap, ◌∙◌}
use Rattle.std.proofs.lemmas.Result.{IfOk-weaker}
use Rattle.clap.specs.Simple.{app_of_fields}
use Rattle.boost.proofs.ArgumentCommands.{adds}
use Rattle.boost.proofs.arguments.lint_command.Goals as goal

pub returns : goal.returns
returns c =
    IfOk-weaker c.arg.result _ _
    (λ whole h. adds _ whole _ _ _ h (
      ap app_of_fields c.about.ensures ∙ c.new.ensures.app,
      ap (λ f. f.has_globals) c.about.ensures ∙ c.new.ensures.local,
    )
    c.path.ensures.rule c.path.ensures.alone)
    c.arg.ensures
