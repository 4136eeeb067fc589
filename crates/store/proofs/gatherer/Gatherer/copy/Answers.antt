use Rattle.std.proofs.Common.{◌≡◌, None, sym, subst}
use Rattle.store.specs.Gatherers.{GathererState}
use Rattle.store.proofs.Copied.{repeated_known}
use Rattle.store.proofs.Gathers.{given_up}
use Rattle.store.proofs.gatherer.Gatherer.copy.Goals as goal

-- what is known is so still, behind what was repeated
pub invariant_of-self : goal.invariant_of-self
invariant_of-self g c = repeated_known g.J.Naming (record {
  gather = c.self.inside.gather;
  of_book = c.self.inside.of_book;
  of_keeper = c.self.inside.of_keeper;
}) c.catch_up.new.self c.self.invariant
    (subst (λ (s : GathererState). s.gather.frozen ≡ None) (sym c.self.view_is)
    c.copy_next.ensures.unfrozen) c.catch_up.ensures.repeats

pub invariant_of-self-in-Ok : goal.invariant_of-self-in-Ok
invariant_of-self-in-Ok g c = repeated_known g.J.Naming (record {
  gather = c.self.inside.gather;
  of_book = c.self.inside.of_book;
  of_keeper = c.self.inside.of_keeper;
}) c.catch_up.new.self c.self.invariant
    (subst (λ (s : GathererState). s.gather.frozen ≡ None) (sym c.self.view_is)
    c.copy_next.ensures.unfrozen) c.catch_up.ensures.repeats

-- what is outrun is given up
pub invariant_of-self-in-Err : goal.invariant_of-self-in-Err
invariant_of-self-in-Err g c = given_up g.J.Naming (record {
  gather = c.self.inside.gather;
  of_book = c.self.inside.of_book;
  of_keeper = c.self.inside.of_keeper;
}) c.in-Err.refusal c.give_up_outrun.new.gather c.self.invariant
    (subst (λ (s : GathererState). s.gather.frozen ≡ None) (sym c.self.view_is)
    c.copy_next.ensures.unfrozen) c.give_up_outrun.ensures
