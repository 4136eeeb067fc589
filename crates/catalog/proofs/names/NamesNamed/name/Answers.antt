use Rattle.std.proofs.Common.{Some, None, ap}
use Rattle.std.specs.Option.{option_map}
use Rattle.catalog.specs.Woven.{Label}
use Rattle.catalog.proofs.Entries.{entry_at, good_at}
use Rattle.catalog.proofs.names.NamesNamed.name.Goals as goal

pub returns-in-Some-clause-there : goal.returns-in-Some-clause-there
returns-in-Some-clause-there c = ap (option_map (λ (x : Label). x.name))
    (entry_at _ c.self.inside.kinds.entries c.self.view_is _ _ c.from.ensures
    (Some (c.in-Some.name.now, c.in-Some.field-0-1.now)) c.in-Some.ensures.entry)

pub returns-in-Some-clause-good : goal.returns-in-Some-clause-good
returns-in-Some-clause-good c = good_at c.self.inside.kinds.entries c.from.result
    (c.in-Some.name.now, c.in-Some.field-0-1.now) c.self.invariant.1 c.in-Some.ensures.entry

pub returns-in-None-clause-there : goal.returns-in-None-clause-there
returns-in-None-clause-there c = ap (option_map (λ (x : Label). x.name))
    (entry_at _ c.self.inside.kinds.entries c.self.view_is _ _ c.from.ensures None
    c.in-None.ensures.entry)
