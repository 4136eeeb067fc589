use Rattle.std.proofs.Common.{ap, ◌∙◌, codes}
use Rattle.std.proofs.lemmas.Result.{IfOk-weaker}
use Rattle.clap.specs.Simple.{app_of_fields}
use Rattle.clap.specs.Words.{new_app}
use Rattle.boost.proofs.ArgumentCommands.{adds, HasRules}
use Rattle.boost.proofs.arguments.copy_command.Goals as goal

pub returns : goal.returns
returns c =
    let named : HasRules c.about.result (new_app (codes "copy")) = (
      ap app_of_fields c.about.ensures ∙ c.new.ensures.app,
      ap (λ f. f.has_globals) c.about.ensures ∙ c.new.ensures.local,
    ) in
    let old = adds _ _ _ _ _ c.in_ok-arg.ensures named c.path.ensures.rule c.path.ensures.alone in
    let both = adds _ _ _ _ _ c.in_ok-arg-2.ensures old c.path-2.ensures.rule
    c.path-2.ensures.alone in
    let sized = adds _ _ _ _ _ c.in_ok-arg-3.ensures both c.area_of_copy.ensures.rule
    c.area_of_copy.ensures.alone in
    let shared = adds _ _ _ _ _ c.in_ok-arg-4.ensures sized c.group.ensures.rule
    c.group.ensures.alone in
    let less = adds _ _ _ _ _ c.in_ok-arg-5.ensures shared c.without.ensures.rule
    c.without.ensures.alone in
    IfOk-weaker c.arg-6.result _ _
    (λ whole h. adds _ whole _ _ _ h less c.rename.ensures.rule c.rename.ensures.alone)
    c.arg-6.ensures
