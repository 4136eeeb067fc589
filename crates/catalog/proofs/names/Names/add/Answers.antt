use Rattle.std.proofs.Common.{subst}
use Rattle.catalog.specs.Woven.{labels_of, AreGood}
use Rattle.catalog.proofs.Entries.{added, few_more, good_more}
use Rattle.catalog.proofs.names.Names.add.Goals as goal

pub returns-clause-ok : goal.returns-clause-ok
returns-clause-ok c = added _ c.self.inside.kinds.entries c.self.view_is c.args.name.now
    c.in_ok-key.key c.args.kind c.insert.new.self.entries c.in_ok-key.ensures.ok
    c.in_ok-insert.ensures.entries c.requires.free

pub invariant_of-self-2 : goal.invariant_of-self-2
invariant_of-self-2 c =
    let new = added _ c.self.inside.kinds.entries c.self.view_is c.args.name.now
    c.in_ok-key.key c.args.kind c.insert.new.self.entries c.in_ok-key.ensures.ok
    c.in_ok-insert.ensures.entries c.requires.free in (
      few_more c.args.self.now _ c.insert.new.self.entries new c.requires.few,
      good_more c.args.self.now _ (labels_of c.insert.new.self.entries)
          (subst AreGood c.self.view_is c.self.invariant.1) c.requires.good new,
    )
