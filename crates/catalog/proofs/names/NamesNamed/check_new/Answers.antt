use Rattle.std.proofs.Common.{refl, sym, ◌∙◌, arith}
use Rattle.catalog.proofs.Entries.{taken, free, many}
use Rattle.catalog.proofs.names.NamesNamed.check_new.Goals as goal

pub returns-then-contains_key-clause-err : goal.returns-then-contains_key-clause-err
returns-then-contains_key-clause-err c = (
  c.in_ok-check_name.ensures.ok.0 refl,
  taken _ c.self.inside.kinds.entries c.self.view_is c.args.name.now
      (sym c.contains_key.ensures ∙ c.if-contains_key.true),
)

pub returns-then-len-ge-MAX_COLLECTIONS-clause-err :
    goal.returns-then-len-ge-MAX_COLLECTIONS-clause-err
returns-then-len-ge-MAX_COLLECTIONS-clause-err c =
    let all = many _ c.self.inside.kinds.entries c.self.view_is c.args.name.now in (
      c.in_ok-check_name.ensures.ok.0 refl,
      free _ c.self.inside.kinds.entries c.self.view_is c.args.name.now
          (sym c.contains_key.ensures ∙ c.if-contains_key.false),
      omega arith,
    )

pub returns-clause-ok : goal.returns-clause-ok
returns-clause-ok c =
    let all = many _ c.self.inside.kinds.entries c.self.view_is c.args.name.now in
    record {
      good = c.in_ok-check_name.ensures.ok.0 refl;
      free = free _ c.self.inside.kinds.entries c.self.view_is c.args.name.now
          (sym c.contains_key.ensures ∙ c.if-contains_key.false);
      few = omega arith;
    }
