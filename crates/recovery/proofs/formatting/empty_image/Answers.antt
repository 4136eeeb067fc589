use Rattle.std.proofs.Common.{sym, ap, ◌∙◌}
use Rattle.calls.specs.declared.format.Format.{Format}
use Rattle.recovery.specs.Formatting.{empty_area}
use Rattle.recovery.proofs.FormatLemmas.{empty_image}
use Rattle.recovery.proofs.formatting.empty_image.Goals as goal

pub returns-in-One : goal.returns-in-One
returns-in-One c = empty_image Format.One ∙ ap empty_area (sym c.in-One.is)

pub returns-in-Two : goal.returns-in-Two
returns-in-Two c = empty_image Format.Two ∙ ap empty_area (sym c.in-Two.is)
