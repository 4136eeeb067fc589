use Rattle.std.proofs.Common.{◌≡◌, ◌∙◌, subst}
use Rattle.std.specs.Vec.{with_items}
use Rattle.std.proofs.lemmas.List.{with_items_is}
use Rattle.abstract_locks.specs.Collections.{AreWithout}
use Rattle.abstract_locks.proofs.Collections.{all_given_up, left_in_table, rooms_stay}
use Rattle.abstract_locks.proofs.table.NeedTable.give_up.Goals as goal
use Rattle.abstract_locks.proofs.table.NeedTable.give_up.Goals.{After-give_up}

-- the collections are without what the owner held
without : (c : After-give_up) →
    AreWithout c.of.result.now c.self.inside.collections.items c.remove_each.new.collections
without c = subst (λ l. AreWithout c.of.result.now l c.remove_each.new.collections)
    c.deref_mut.ensures.value c.remove_each.ensures.without

items : (c : After-give_up) →
    (with_items c.self.inside.collections c.remove_each.new.collections).items ≡
    c.remove_each.new.collections
items c = with_items_is c.self.inside.collections c.remove_each.new.collections
    (c.remove_each.ensures.len ∙ c.deref_mut.ensures.len)

pub invariant_of-self : goal.invariant_of-self
invariant_of-self c = rw (items c)
    (left_in_table c.args.owner c.self.inside.collections.items c.remove_each.new.collections
    c.self.inside.owners.holds c.give_up.new.self.holds c.of.result.now c.self.invariant (without c)
    c.of.ensures c.give_up.ensures.holds)

pub returns-clause-holds : goal.returns-clause-holds
returns-clause-holds c = rw (items c, ← c.self.view_is)
    (all_given_up c.args.owner c.self.inside.collections.items c.remove_each.new.collections
    c.self.inside.owners.holds c.give_up.new.self.holds c.of.result.now c.self.invariant (without c)
    c.of.ensures c.give_up.ensures.holds)

pub returns-clause-rooms : goal.returns-clause-rooms
returns-clause-rooms c = rw (items c, ← c.self.view_is)
    (rooms_stay c.self.inside.collections.items c.remove_each.new.collections
    c.self.inside.owners.ready c.give_up.new.self.ready
    (λ had. c.give_up.ensures.ready ∙ had) (without c).room)
