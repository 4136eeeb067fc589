use Rattle.std.proofs.Common.{arith, Result, Ok, Err, OnErr}
use Rattle.abstract_locks.proofs.Listing.{kept_listed, unready_listed, still_shown, still_noted}
use Rattle.abstract_locks.proofs.owners.Owners.reserve.Goals as goal

on_err : {T E P : Type 0} (r : Result T E) → P → OnErr r P
on_err (Ok x) p = tt
on_err (Err e) p = p

pub invariant_of-self : goal.invariant_of-self
invariant_of-self c = unready_listed c.self.inside.lists.items c.make_room.new.lists.items
    c.make_room.ensures.kept c.make_room.ensures.len c.if-self.false c.self.invariant
    c.self.invariant.empty

pub returns-in_err-make_room-clause-holds : goal.returns-in_err-make_room-clause-holds
returns-in_err-make_room-clause-holds c = still_noted c.self.inside.lists.items
    c.make_room.new.lists.items c.make_room.ensures.kept c.self.view_is

pub returns-in_err-make_room-clause-unchanged : goal.returns-in_err-make_room-clause-unchanged
returns-in_err-make_room-clause-unchanged c =
    on_err c.from_residual.result (still_shown c.self.inside.lists.items
    c.make_room.new.lists.items c.make_room.ensures.kept c.self.view_is)

pub invariant_of-self-in_err-make_spare : goal.invariant_of-self-in_err-make_spare
invariant_of-self-in_err-make_spare c = unready_listed c.self.inside.lists.items
    c.make_room.new.lists.items c.make_room.ensures.kept c.make_room.ensures.len c.if-self.false
    c.self.invariant c.make_spare.ensures.spare

pub returns-in_err-make_spare-clause-holds : goal.returns-in_err-make_spare-clause-holds
returns-in_err-make_spare-clause-holds c = still_noted c.self.inside.lists.items
    c.make_room.new.lists.items c.make_room.ensures.kept c.self.view_is

pub returns-in_err-make_spare-clause-unchanged : goal.returns-in_err-make_spare-clause-unchanged
returns-in_err-make_spare-clause-unchanged c = on_err c.from_residual-in_err-make_spare.result
    (still_shown c.self.inside.lists.items c.make_room.new.lists.items c.make_room.ensures.kept
    c.self.view_is)

pub invariant_of-self-2 : goal.invariant_of-self-2
invariant_of-self-2 c = kept_listed c.self.inside.lists.items c.make_room.new.lists.items
    c.make_room.ensures.kept c.make_room.ensures.len c.self.invariant c.make_spare.ensures.spare
    (λ now. record {
      room = c.in_ok-make_room.ensures.room;
      place = let place = c.in_ok-make_room.ensures.place in omega arith;
      spare = c.in_ok-make_spare.ensures.some;
    })

pub returns-clause-holds : goal.returns-clause-holds
returns-clause-holds c = still_noted c.self.inside.lists.items
    c.make_room.new.lists.items c.make_room.ensures.kept c.self.view_is
