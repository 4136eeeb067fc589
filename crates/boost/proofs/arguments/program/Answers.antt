use Rattle.std.proofs.Common.{ap, ap₂, ◌∙◌}
use Rattle.clap.specs.Simple.{app_of_fields}
use Rattle.clap.specs.Words.{App, with_subcommand}
use Rattle.std.proofs.lemmas.Result.{IfOk-weaker}
use Rattle.boost.specs.Arguments.{running_app, looking_app, changing_app}
use Rattle.boost.proofs.arguments.program.Goals as goal

pub returns : goal.returns
returns c =
    let is_1 = c.in_ok-program.ensures ∙ ap running_app c.bare_program.ensures in
    let is_2 = c.in_ok-program-2.ensures ∙ ap looking_app is_1 in
    let is_3 = c.in_ok-program-3.ensures ∙ ap changing_app is_2 in
    IfOk-weaker c.with.result _ _
    (λ whole h. h (ap (λ f. f.has_globals) c.about-demo.ensures ∙ c.new.ensures.local) ∙
    ap₂ with_subcommand is_3
    (ap (λ (a : App). a.top) (ap app_of_fields c.about-demo.ensures ∙ c.new.ensures.app)))
    c.with.ensures
