use Rattle.std.proofs.Common.{◌%◌, length, sym, ap, ◌∙◌}
use Rattle.catalog.specs.Laws.Numbers.{which_is, which_last}
use Rattle.desks.proofs.making.make_over.Goals as goal

pub make_on-requires : goal.make_on-requires
make_on-requires g c = record {
  twins = c.requires.twins;
  known = c.requires.known;
  turn = which_is (length (g.B.Names.Named.labels c.args.journal.now.names)) 0
      (ap (λ n. n % 4) (sym c.count-at.ensures) ∙ c.if-at-eq0.true);
}

pub make_on-requires-then-at-eq1 : goal.make_on-requires-then-at-eq1
make_on-requires-then-at-eq1 g c = record {
  twins = c.requires.twins;
  known = c.requires.known;
  turn = which_is (length (g.B.Names.Named.labels c.args.journal.now.names)) 1
      (ap (λ n. n % 4) (sym c.count-at.ensures) ∙ c.if-at-eq1.true);
}

pub make_on-requires-then-at-eq2 : goal.make_on-requires-then-at-eq2
make_on-requires-then-at-eq2 g c = record {
  twins = c.requires.twins;
  known = c.requires.known;
  turn = which_is (length (g.B.Names.Named.labels c.args.journal.now.names)) 2
      (ap (λ n. n % 4) (sym c.count-at.ensures) ∙ c.if-at-eq2.true);
}

pub make_on-requires-2 : goal.make_on-requires-2
make_on-requires-2 g c = record {
  twins = c.requires.twins;
  known = c.requires.known;
  turn = which_last (length (g.B.Names.Named.labels c.args.journal.now.names))
      (λ e. c.if-at-eq0.false (ap (λ n. n % 4) c.count-at.ensures ∙ e))
      (λ e. c.if-at-eq1.false (ap (λ n. n % 4) c.count-at.ensures ∙ e))
      (λ e. c.if-at-eq2.false (ap (λ n. n % 4) c.count-at.ensures ∙ e));
}
