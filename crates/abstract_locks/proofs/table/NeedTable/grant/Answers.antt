use Rattle.std.proofs.Common.{◌<◌, arith, subst, sym}
use Rattle.abstract_locks.specs.Claimed.{Claimed}
use Rattle.abstract_locks.proofs.Collections.{shown_room, found_at, added_to_all, noted_in_table}
use Rattle.abstract_locks.proofs.Collections.{known_in_table}
use Rattle.abstract_locks.proofs.table.NeedTable.grant.Goals as goal

pub index_mut-requires : goal.index_mut-requires
index_mut-requires c =
    let had = shown_room c.self.inside.collections.items c.self.inside.owners.ready c.self.view_is
    c.requires.room c.from.ensures in
    let lt = had.1 in omega arith

pub add-requires : goal.add-requires
add-requires c =
    let cs = c.self.inside.collections.items in
    let had = shown_room cs c.self.inside.owners.ready c.self.view_is c.requires.room
    c.from.ensures in
    let is = found_at cs c.from.result c.index_mut.result.now had.1 c.index_mut.ensures.value in
    subst (λ (x : Claimed). 0 < x.room) (sym is) had.0

pub add-requires-then-add : goal.add-requires-then-add
add-requires-then-add c = (shown_room c.self.inside.collections.items c.self.inside.owners.ready
    c.self.view_is c.requires.room c.from.ensures).2

pub invariant_of-self : goal.invariant_of-self
invariant_of-self c =
    noted_in_table c.self.inside.collections.items c.self.inside.owners.ready c.add.new.self
    c.self.view_is c.requires.room c.from.ensures c.index_mut.ensures.value c.add.ensures.held
    c.self.inside.owners.holds c.self.invariant c.add-then-add.new.self.holds
    c.add-then-add.ensures

pub invariant_of-self-else-add : goal.invariant_of-self-else-add
invariant_of-self-else-add c =
    known_in_table c.self.inside.collections.items c.self.inside.owners.ready c.add.new.self
    c.self.view_is c.requires.room c.from.ensures c.index_mut.ensures.value c.add.ensures.held
    c.self.inside.owners.holds c.self.invariant
    (λ none. let fresh = c.add.ensures.fresh.1 none in let known = c.if-add.false in cc)

pub returns-then-add : goal.returns-then-add
returns-then-add c = record {
  held = rw (← c.self.view_is)
      (added_to_all c.self.inside.collections.items c.self.inside.owners.ready c.add.new.self
      c.self.view_is c.requires.room c.from.ensures c.index_mut.ensures.value c.add.ensures.held);
}

pub returns-else-add : goal.returns-else-add
returns-else-add c = record {
  held = rw (← c.self.view_is)
      (added_to_all c.self.inside.collections.items c.self.inside.owners.ready c.add.new.self
      c.self.view_is c.requires.room c.from.ensures c.index_mut.ensures.value c.add.ensures.held);
}
