use Rattle.std.proofs.Common.{Some, None, ap}
use Rattle.std.specs.Option.{option_map}
use Rattle.catalog.specs.Woven.{Label}
use Rattle.catalog.proofs.Entries.{entry_at}
use Rattle.catalog.proofs.names.NamesNamed.kind.Goals as goal

pub returns-in-Some : goal.returns-in-Some
returns-in-Some c = ap (option_map (λ (x : Label). x.kind))
    (entry_at _ c.self.inside.kinds.entries c.self.view_is _ _ c.from.ensures
    (Some (c.in-Some.field-0-0.now, c.in-Some.kind.now)) c.in-Some.ensures.entry)

pub returns-in-None : goal.returns-in-None
returns-in-None c = ap (option_map (λ (x : Label). x.kind))
    (entry_at _ c.self.inside.kinds.entries c.self.view_is _ _ c.from.ensures None
    c.in-None.ensures.entry)
