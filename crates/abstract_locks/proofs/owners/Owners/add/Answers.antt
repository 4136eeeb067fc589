use Rattle.std.proofs.Common.{◌≡◌, ◌∙◌, ℕ, ◌-◌, ◌<◌, ◌==◌, Bool, false, not, IsTrue, ap, refl}
use Rattle.std.proofs.Common.{arith, vec_len, vec_capacity}
use Rattle.abstract_locks.specs.Owners.{Listed, Noted}
use Rattle.abstract_locks.proofs.Listing.{more_listed, more_noted, put_listed, put_noted}
use Rattle.abstract_locks.proofs.owners.Owners.add.Goals as goal
use Rattle.abstract_locks.proofs.owners.Owners.add.Goals.{then-has_room, else-has_room}

-- a list that is not empty has some
is_some : (n : ℕ) (some empty : Bool) → some ≡ not empty → empty ≡ (n == 0) → IsTrue some → 0 < n
is_some n some empty is said so = grind arith

none_left : (some room : Bool) → some ≡ room → room ≡ false → IsTrue some → ⊥
none_left some room is none so = cc

pub invariant_of-self : goal.invariant_of-self
invariant_of-self c =
    let own = c.self.inside in
    let x = c.index_mut.result.now in
    let at = c.index_mut.ensures.value in
    let found = rw c.deref.ensures.value at c.in-Ok.ensures in
    more_listed own.lists.items own.spares.items (vec_capacity own.lists - vec_len own.lists)
    own.is_ready c.self.invariant c.in-Ok.place x found.0 at c.args.hold c.add-self-inside.new.self
    (ap (λ (l : Listed). l.owner) at ∙ found.1 x) c.add-self-inside.ensures.owner
    c.add-self-inside.ensures.holds (ap (λ (n : Noted). n.ready) c.self.view_is ∙ c.requires)
    c.add-self-inside.result c.add-self-inside.ensures.room

pub returns-in-Ok : goal.returns-in-Ok
returns-in-Ok c =
    let own = c.self.inside in
    let x = c.index_mut.result.now in
    let at = c.index_mut.ensures.value in
    let found = rw c.deref.ensures.value at c.in-Ok.ensures in
    rw (← c.self.view_is)
    (more_noted own.lists.items own.spares.items (vec_capacity own.lists - vec_len own.lists)
    own.is_ready c.self.invariant c.in-Ok.place x found.0 at c.args.hold c.add-self-inside.new.self
    (ap (λ (l : Listed). l.owner) at ∙ found.1 x) c.add-self-inside.ensures.owner
    c.add-self-inside.ensures.holds)

pub invariant_of-self-in-Err : goal.invariant_of-self-in-Err
invariant_of-self-in-Err c =
    let own = c.self.inside in
    let gap = rw c.deref.ensures.value at c.in-Err.ensures in
    let new = c.put_in-has_room.new.lists in
    rw c.put_in-has_room.ensures.items
    (put_listed own.lists.items own.spares.items (vec_capacity own.lists - vec_len own.lists)
    own.is_ready c.self.invariant c.args.hold.owner c.in-Err.place gap c.args.hold
    c.take_spare-list.result refl c.take_spare-list.ensures.owner c.take_spare-list.ensures.holds
    (ap (λ (n : Noted). n.ready) c.self.view_is ∙ c.requires) c.take_spare-list.new.spares.items
    (vec_capacity new - vec_len new) c.take_spare-list.ensures.left c.if-has_room.self
    (λ so. elim c.if-has_room.branch [
      | then-has_room w ↦
          let both = c.put_in-has_room.ensures.room w.if-has_room.true in
          let room = both.1 in
          let len = c.take_spare-list.new.spares.ok in
          let some = is_some (vec_len c.take_spare-list.new.spares) c.if-has_room.self
          w.is_empty.result w.self-is w.is_empty.ensures so in
          (both.0, omega arith, omega arith)
      | else-has_room w ↦ absurd (none_left c.if-has_room.self c.put_in-has_room.result w.self-is
          w.if-has_room.false so)
    ]))

pub returns-after-has_room : goal.returns-after-has_room
returns-after-has_room c =
    let own = c.self.inside in
    let gap = rw c.deref.ensures.value at c.in-Err.ensures in
    rw (← c.self.view_is, c.put_in-has_room.ensures.items)
    (put_noted own.lists.items own.spares.items (vec_capacity own.lists - vec_len own.lists)
    own.is_ready c.self.invariant c.args.hold.owner c.in-Err.place gap c.args.hold
    c.take_spare-list.result refl c.take_spare-list.ensures.owner c.take_spare-list.ensures.holds)
