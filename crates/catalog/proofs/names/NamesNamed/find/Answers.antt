use Rattle.std.proofs.Common.{refl, sym}
use Rattle.catalog.proofs.Entries.{stands_at, free}
use Rattle.catalog.proofs.names.NamesNamed.find.Goals as goal

pub returns-in-Some-clause-ok : goal.returns-in-Some-clause-ok
returns-in-Some-clause-ok c = (
  c.in_ok-check_name.ensures.ok.0 refl,
  stands_at _ c.self.inside.kinds.entries c.self.view_is c.args.name.now c.in-Some.at
      c.get_index_of.ensures.unique (sym c.in-Some.ensures.index),
)

pub returns-in-None-clause-err : goal.returns-in-None-clause-err
returns-in-None-clause-err c = (
  c.in_ok-check_name.ensures.ok.0 refl,
  free _ c.self.inside.kinds.entries c.self.view_is c.args.name.now
      (sym c.in-None.ensures.found),
)
