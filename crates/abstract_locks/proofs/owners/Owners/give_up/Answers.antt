use Rattle.std.proofs.Common.{◌∙◌, ◌-◌, ◌≤◌, ap, arith, vec_len, vec_capacity}
use Rattle.abstract_locks.specs.Owners.{Listed, all_noted}
use Rattle.abstract_locks.proofs.Gathered.{none_to_give_up}
use Rattle.abstract_locks.proofs.Listing.{nothing_of, taken_listed, taken_given_up}
use Rattle.abstract_locks.proofs.owners.Owners.give_up.Goals as goal

pub returns-in_default-clause-holds : goal.returns-in_default-clause-holds
returns-in_default-clause-holds c =
    let own = c.self.inside in
    let gap = rw c.deref.ensures.value at c.in_default.ensures in
    rw (← c.self.view_is)
    (none_to_give_up (all_noted own.lists.items) c.args.owner
    (nothing_of own.lists.items own.spares.items _ own.is_ready c.self.invariant c.args.owner
    c.in_default.field-0 gap))

pub invariant_of-self : goal.invariant_of-self
invariant_of-self c =
    let own = c.self.inside in
    let found = rw c.deref.ensures.value at c.in-Ok.ensures in
    let new = c.remove-list.new.self in
    let left : vec_capacity own.lists - vec_len own.lists ≤ vec_capacity new - vec_len new =
    let capacity = c.remove-list.ensures.capacity in
    let len = c.remove-list.ensures.len in
    omega arith in
    rw c.remove-list.ensures.items
    (taken_listed own.lists.items own.spares.items (vec_capacity own.lists - vec_len own.lists)
    own.is_ready c.self.invariant c.in-Ok.place c.remove-list.result found.0
    c.remove-list.ensures.value c.keep.new.spares.items (vec_capacity new - vec_len new)
    c.keep.ensures.spare c.keep.ensures.more left)

pub returns-in-Ok-clause-holds : goal.returns-in-Ok-clause-holds
returns-in-Ok-clause-holds c =
    let own = c.self.inside in
    let x = c.remove-list.result in
    let at = c.remove-list.ensures.value in
    let found = rw c.deref.ensures.value at c.in-Ok.ensures in
    rw (← c.self.view_is, c.remove-list.ensures.items)
    (taken_given_up own.lists.items own.spares.items _ own.is_ready c.self.invariant c.in-Ok.place x
    found.0 at c.args.owner (ap (λ (l : Listed). l.owner) at ∙ found.1 x))
