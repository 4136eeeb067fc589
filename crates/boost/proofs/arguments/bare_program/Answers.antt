use Rattle.std.proofs.Common.{ap, ◌∙◌, true}
use Rattle.clap.specs.Simple.{app_of_fields}
use Rattle.clap.specs.Words.{App}
use Rattle.boost.proofs.arguments.bare_program.Goals as goal

pub returns : goal.returns
returns c =
    rw (c.subcommand_required.ensures, c.version.ensures)
    (ap (λ (a : App). record a {
      top =
          record a.top { has_version = true; subcommand_required = true };
    })
    (ap app_of_fields c.about.ensures ∙ c.new.ensures.app))
