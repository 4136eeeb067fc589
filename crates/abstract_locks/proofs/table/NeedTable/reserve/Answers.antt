use Rattle.std.proofs.Common.{◌<◌, ◌∙◌, set, subst, sym, ap, arith, Result, Ok, Err, OnOk}
use Rattle.std.proofs.Common.{OnErr, IsOk, slice_index}
use Rattle.std.proofs.lemmas.Result.{on_ok_weaker, on_err_weaker}
use Rattle.abstract_locks.specs.Collections.{rooms}
use Rattle.abstract_locks.specs.Owners.{Noted}
use Rattle.abstract_locks.proofs.Collections.{shown_room, room_set, rooms_stay, alike_shown}
use Rattle.abstract_locks.proofs.Collections.{reserved_held, reserved_room, reserved_in_table}
use Rattle.abstract_locks.proofs.Collections.{had_room, unreserved_shown, refused_shown}
use Rattle.abstract_locks.proofs.table.NeedTable.reserve.Goals as goal

on_err : {T E P : Type 0} (r : Result T E) → P → OnErr r P
on_err (Ok x) p = tt
on_err (Err e) p = p

where_ok : {T E P : Type 0} (r : Result T E) → IsOk r → OnOk r P → P
where_ok (Ok x) ok p = p
where_ok (Err e) ok p = absurd (cc)

pub returns-in_err-reach-clause-rooms : goal.returns-in_err-reach-clause-rooms
returns-in_err-reach-clause-rooms c =
    let is = c.reach.ensures.alike in
    rw (← c.self.view_is)
    (rooms_stay c.self.inside.collections.items c.reach.new.collections.items
    c.self.inside.owners.ready c.self.inside.owners.ready (λ had. had)
    (λ at. rw (is.each at) (omega arith)))

pub returns-in_err-reach-clause-succeeds : goal.returns-in_err-reach-clause-succeeds
returns-in_err-reach-clause-succeeds c had =
    let room = shown_room c.self.inside.collections.items c.self.inside.owners.ready
    c.self.view_is had c.from-place.ensures in
    let wrong = c.in_err-reach.ensures.succeeds room.1 in cc

pub returns-in_err-reach-clause-unchanged : goal.returns-in_err-reach-clause-unchanged
returns-in_err-reach-clause-unchanged c = on_err c.from_residual.result
    (alike_shown c.self.inside.collections.items c.reach.new.collections.items
    c.self.inside.owners.ready c.reach.ensures.alike
    ∙ c.self.view_is)

pub returns-in_err-reserve-clause-rooms : goal.returns-in_err-reserve-clause-rooms
returns-in_err-reserve-clause-rooms c =
    let cs = c.self.inside.collections.items in
    let ds = c.reach.new.collections.items in
    let i = c.from-place.result in
    let new = c.reserve.new.self in
    rw (← c.self.view_is)
    (rooms_stay cs (set ds i new) c.self.inside.owners.ready c.self.inside.owners.ready (λ had. had)
    (reserved_room cs ds c.reach.ensures.alike i c.in_ok-reach.ensures.reached
    c.index_mut.result.now new c.index_mut.ensures.value c.reserve.ensures.holds
    c.reserve.ensures.more))

pub returns-in_err-reserve-clause-succeeds : goal.returns-in_err-reserve-clause-succeeds
returns-in_err-reserve-clause-succeeds c had =
    let room = had_room c.self.inside.collections.items c.reach.new.collections.items
    c.reach.ensures.alike c.from-place.result c.in_ok-reach.ensures.reached c.index_mut.result.now
    c.reserve.new.self c.index_mut.ensures.value c.reserve.ensures.holds
    c.self.inside.owners.ready c.args.self.now c.args.collection c.self.view_is had
    c.from-place.ensures in
    let wrong = c.in_err-reserve.ensures.succeeds room.0 in cc

pub returns-in_err-reserve-clause-unchanged : goal.returns-in_err-reserve-clause-unchanged
returns-in_err-reserve-clause-unchanged c = on_err c.from_residual-in_err-reserve.result
    (unreserved_shown c.self.inside.collections.items c.reach.new.collections.items
    c.reach.ensures.alike c.from-place.result c.in_ok-reach.ensures.reached c.index_mut.result.now
    c.reserve.new.self c.index_mut.ensures.value c.reserve.ensures.holds
    c.self.inside.owners.ready c.in_err-reserve.ensures.unchanged
    ∙ c.self.view_is)

pub invariant_of-self-2 : goal.invariant_of-self-2
invariant_of-self-2 c =
    rw c.reserve-2.ensures.holds
    (reserved_in_table c.self.inside.collections.items c.reach.new.collections.items
    c.reach.ensures.alike c.from-place.result c.in_ok-reach.ensures.reached c.index_mut.result.now
    c.reserve.new.self c.index_mut.ensures.value c.reserve.ensures.holds
    c.self.inside.owners.holds c.self.invariant)

pub returns-clause-room : goal.returns-clause-room
returns-clause-room c =
    let fits = c.ranges.collection.fits in
    let ds = c.reach.new.collections.items in
    let i = c.from-place.result in
    let new = c.reserve.new.self in
    on_ok_weaker c.reserve-2.result
    (λ ready. subst (λ b. 0 < slice_index (rooms (set ds i new) b) c.args.collection) (sym ready)
    (room_set ds i c.args.collection new c.from-place.ensures c.in_ok-reach.ensures.reached
    (omega arith)
    c.in_ok-reserve.ensures.room))
    c.reserve-2.ensures.ready

pub returns-clause-rooms : goal.returns-clause-rooms
returns-clause-rooms c =
    let cs = c.self.inside.collections.items in
    let ds = c.reach.new.collections.items in
    let i = c.from-place.result in
    let new = c.reserve.new.self in
    rw (← c.self.view_is)
    (rooms_stay cs (set ds i new) c.self.inside.owners.ready c.reserve-2.new.self.ready
    (λ had. where_ok c.reserve-2.result (c.reserve-2.ensures.succeeds had)
    c.reserve-2.ensures.ready)
    (reserved_room cs ds c.reach.ensures.alike i c.in_ok-reach.ensures.reached
    c.index_mut.result.now new c.index_mut.ensures.value c.reserve.ensures.holds
    c.reserve.ensures.more))

pub returns-clause-holds : goal.returns-clause-holds
returns-clause-holds c = rw (← c.self.view_is)
    (reserved_held c.self.inside.collections.items c.reach.new.collections.items
    c.reach.ensures.alike c.from-place.result c.in_ok-reach.ensures.reached c.index_mut.result.now
    c.reserve.new.self c.index_mut.ensures.value c.reserve.ensures.holds)

pub returns-clause-succeeds : goal.returns-clause-succeeds
returns-clause-succeeds c had =
    let room = had_room c.self.inside.collections.items c.reach.new.collections.items
    c.reach.ensures.alike c.from-place.result c.in_ok-reach.ensures.reached c.index_mut.result.now
    c.reserve.new.self c.index_mut.ensures.value c.reserve.ensures.holds
    c.self.inside.owners.ready c.args.self.now c.args.collection c.self.view_is had
    c.from-place.ensures in
    c.reserve-2.ensures.succeeds room.1

pub returns-clause-unchanged : goal.returns-clause-unchanged
returns-clause-unchanged c =
    let cs = c.self.inside.collections.items in
    let ds = c.reach.new.collections.items in
    let i = c.from-place.result in
    let new = c.reserve.new.self in
    on_err_weaker c.reserve-2.result (λ same. same ∙ c.self.view_is)
    (refused_shown c.reserve-2.result cs (set ds i new) c.self.inside.owners.ready
    c.reserve-2.new.self.ready c.reserve-2.ensures.succeeds
    (on_err_weaker c.reserve-2.result (λ same. ap (λ (n : Noted). n.ready) same)
    c.reserve-2.ensures.unchanged)
    (reserved_held cs ds c.reach.ensures.alike i c.in_ok-reach.ensures.reached
    c.index_mut.result.now new c.index_mut.ensures.value c.reserve.ensures.holds))
