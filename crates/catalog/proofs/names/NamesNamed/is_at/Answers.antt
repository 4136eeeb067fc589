use Rattle.std.proofs.Common.{ap, ◌∙◌}
use Rattle.std.specs.Str.{bytes_eq}
use Rattle.catalog.proofs.Entries.{tells_name, no_name}
use Rattle.catalog.proofs.names.NamesNamed.is_at.Goals as goal

pub returns-in-Some : goal.returns-in-Some
returns-in-Some c = tells_name c.args.self.now c.self.inside.kinds.entries c.self.view_is
    c.from.result c.args.at c.from.ensures (c.in-Some.key.now, c.in-Some.field-0-1.now)
    c.in-Some.ensures.entry c.args.name.now c.eq.result
    (c.eq.ensures ∙ ap (λ v. bytes_eq v c.args.name.now) c.as_str.ensures.value)

pub returns-in-None : goal.returns-in-None
returns-in-None c = no_name c.args.self.now c.self.inside.kinds.entries c.self.view_is
    c.from.result c.args.at c.from.ensures c.in-None.ensures.entry c.args.name.now
