use Rattle.std.proofs.Common.{◌∙◌, ◌≡◌, ℕ, List, refl, sym, map, ap, subst, arith, Some}
use Rattle.slab.specs.Slab.{Slab, get, with_value}
use Rattle.calls.specs.Transactions.{own, calls_of}
use Rattle.undo_log.specs.declared.live.Transaction.{Transaction}
use Rattle.undo_log.specs.declared.logged.Stamped.{Stamped}
use Rattle.undo_log.specs.Entries.{stamped_entry, event_of, IsNewestCall, IsNewestPlace}
use Rattle.undo_log.specs.Logs.{Log, HasRoom}
use Rattle.undo_log.specs.Stamps.{merged}
use Rattle.undo_log.proofs.Owns.{newest_logged, newest_asked}
use Rattle.undo_log.proofs.Slots.{same_value}
use Rattle.undo_log.proofs.Marks.{own_slot, own_none, told}
use Rattle.undo_log.proofs.Written.{written_once, written_live, written_rooms, slot_within}
use Rattle.undo_log.proofs.Written.{popped_stamped, popped_newest}
use Rattle.undo_log.proofs.Index.{written_index}
use Rattle.undo_log.proofs.live.Live.pop.Goals as goal

pub returns-in_err-key-clause-none : goal.returns-in_err-key-clause-none
returns-in_err-key-clause-none c =
    rw c.from_residual.ensures
    (ap (λ log. let l : Log = log in calls_of (own c.args.handle.number l.entries))
    (sym c.self.view_is)
    ∙ ap calls_of (own_none c.self.inside.table.slots c.args.handle.number
    c.in_err-key.ensures.none))

pub returns-in_err-place-clause-none : goal.returns-in_err-place-clause-none
returns-in_err-place-clause-none c =
    let t = c.in_ok-key.ensures.found in
    let here = c.index.ensures in
    let mine = ap (λ u. u.number) (same_value c.index.result.now t.0 (sym here ∙ t.1)) ∙ t.2 in
    rw c.from_residual-in_err-place.ensures
    (ap (λ log. let l : Log = log in calls_of (own c.args.handle.number l.entries))
    (sym c.self.view_is)
    ∙ ap calls_of (sym (own_slot c.self.inside.table.slots c.self.invariant.1.each
    c.args.handle.number
    c.in_ok-key.key c.index.result.now here mine))
    ∙ ap (λ ss. calls_of (map stamped_entry ss)) (sym c.deref.ensures.value)
    ∙ c.in_err-place.ensures.none)

-- the newest call stood in the slot that is written
place_in : (s : Slab Transaction) (key : ℕ) (t u : Transaction) (ss : List Stamped) (i : ℕ) →
    ss ≡ t.entries.items → get s key ≡ Some t → get s key ≡ Some u → IsNewestPlace ss i →
    IsNewestPlace u.entries.items i
place_in s key t u ss i items here there place =
    subst (λ l. IsNewestPlace l i)
    (items ∙ ap (λ v. v.entries.items) (same_value t u (sym here ∙ there))) place

pub overflow_sub-self : goal.overflow_sub-self
overflow_sub-self c =
    let was = c.index_mut.result.now in
    let most = slot_within c.self.inside.table.slots c.in_ok-key.key was c.index_mut.ensures.value
    c.self.inside.next c.self.inside.count c.self.invariant.1 in
    let fewer = c.remove-entry.ensures.len in
    let many = was.entries.ok in
    omega arith

place : (c : goal.In-Asked) → IsNewestPlace c.index_mut.result.now.entries.items c.in_ok-place.place
place c = place_in c.self.inside.table.slots c.in_ok-key.key c.index.result.now
    c.index_mut.result.now
    c.deref.result.now c.in_ok-place.place c.deref.ensures.value c.index.ensures
    c.index_mut.ensures.value c.in_ok-place.ensures.found

pub invariant_of-self : goal.invariant_of-self
invariant_of-self c = (
  written_once c.self.inside.table.slots c.self.invariant.0 c.in_ok-key.key c.index_mut.result.now _
      c.index_mut.ensures.value refl,
  popped_stamped c.self.inside.table.slots c.self.invariant.0 c.in_ok-key.key c.index_mut.result.now
      _
      c.index_mut.ensures.value refl c.self.inside.next c.self.inside.count c.self.invariant.1
      c.in_ok-place.place (place c) c.remove-entry.ensures.items,
  written_index c.self.inside.table.slots c.self.inside.table.index.items c.self.invariant.2
      c.in_ok-key.key c.index_mut.result.now _ c.index_mut.ensures.value refl,
)

pub returns-clause-found : goal.returns-clause-found
returns-clause-found c =
    let old = c.self.inside.table.slots in
    let was = c.index_mut.result.now in
    let now : Transaction = record was { entries = c.remove-entry.new.self } in
    let there = c.index_mut.ensures.value in
    let found = c.in_ok-key.ensures.found in
    let mine = ap (λ v. v.number) (same_value was found.0 (sym there ∙ found.1)) ∙ found.2 in
    let es = told (merged (with_value old c.in_ok-key.key now).slots) in
    let newest = popped_newest old c.self.invariant.0 c.in_ok-key.key was now there refl
    c.self.inside.next c.self.inside.count c.self.invariant.1 c.in_ok-place.place (place c)
    c.remove-entry.ensures.items in
    let logged = newest_logged was.entries.items c.in_ok-place.place c.remove-entry.result
    c.remove-entry.ensures.value (place c) c.in-Asked.logged c.in-Asked.is in
    subst (λ log. let l : Log = log in
    IsNewestCall c.args.handle.number l.entries (event_of c.in-Asked.logged) es) c.self.view_is
    (subst (λ n. IsNewestCall n (told (merged old.slots)) (event_of c.in-Asked.logged) es) mine
    (subst (λ l. IsNewestCall was.number (told (merged old.slots)) (event_of l) es) logged newest))

pub returns-clause-live : goal.returns-clause-live
returns-clause-live c =
    written_live c.self.inside.table.slots c.self.invariant.0 c.in_ok-key.key c.index_mut.result.now
    _
    c.index_mut.ensures.value refl refl
    ∙ ap (λ log. let l : Log = log in l.live) c.self.view_is

pub returns-clause-rooms : goal.returns-clause-rooms
returns-clause-rooms c n live had =
    let fewer = c.remove-entry.ensures.len in
    let same = c.remove-entry.ensures.capacity in
    written_rooms c.self.inside.table.slots c.self.invariant.0 c.in_ok-key.key
    c.index_mut.result.now
    (record c.index_mut.result.now { entries = c.remove-entry.new.self })
    c.index_mut.ensures.value refl c.self.inside.next (λ fits. omega arith) n live
    (subst (λ log. HasRoom log n) (sym c.self.view_is) had)

pub unreachable-requires : goal.unreachable-requires
unreachable-requires c =
    let was = c.index_mut.result.now in
    let place = place_in c.self.inside.table.slots c.in_ok-key.key c.index.result.now was
    c.deref.result.now c.in_ok-place.place c.deref.ensures.value c.index.ensures
    c.index_mut.ensures.value c.in_ok-place.ensures.found in
    newest_asked was.entries.items c.in_ok-place.place c.remove-entry.result
    c.remove-entry.ensures.value place c.in-Deferred.field-0 c.in-Deferred.is
