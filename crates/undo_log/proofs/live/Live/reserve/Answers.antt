use Rattle.std.proofs.Common.{◌∙◌, ◌≡◌, ℕ, List, refl, sym, ap, subst, is_some, arith, Some}
use Rattle.std.specs.List.{Contains}
use Rattle.std.proofs.lemmas.Result.{err_from_is_err_and}
use Rattle.slab.specs.Slab.{Slab, get, with_value}
use Rattle.slab.proofs.SlabLemmas.{Updates-with_value}
use Rattle.undo_log.specs.declared.live.Transaction.{Transaction}
use Rattle.undo_log.specs.Logs.{Log, HasRoom, IsLive, Lives, EachOnce, live_of, rooms_of}
use Rattle.undo_log.specs.Stamps.{merged, AreStamped}
use Rattle.undo_log.specs.declared.live.Handle.{Handle}
use Rattle.undo_log.specs.Index.{IsIndex}
use Rattle.undo_log.proofs.Slots.{Fits, same_value, same_rooms, room_given, room_taken}
use Rattle.undo_log.proofs.Slots.{room_here, absent_live}
use Rattle.undo_log.proofs.Marks.{told}
use Rattle.undo_log.proofs.Written.{written_once, written_live, written_rooms, same_merged}
use Rattle.undo_log.proofs.Written.{same_stamped}
use Rattle.undo_log.proofs.Index.{written_index}
use Rattle.undo_log.proofs.live.Live.reserve.Goals as goal

pub returns-then-self-clause-succeeds : goal.returns-then-self-clause-succeeds
returns-then-self-clause-succeeds c had =
    let room = room_taken c.self.inside.next c.self.inside.table.slots c.args.handle.number
    (subst (λ log. HasRoom log c.args.handle.number) (sym c.self.view_is) had) in
    let below = room.0 in
    let full = c.if-self.true in
    absurd (omega arith)

-- a slot with the same entries in it
module _ (old : Slab Transaction) (once : EachOnce old) (next count : ℕ)
    (stamped : AreStamped old next count) (key : ℕ) (was now : Transaction)
    (there : get old key ≡ Some was) (number : now.number ≡ was.number)
    (falling : now.falling ≡ was.falling) (items : now.entries.items ≡ was.entries.items) where
  abbrev new : Slab Transaction
  new = with_value old key now

  invariant : (index : List Handle) → IsIndex old index →
      EachOnce new × AreStamped new next count × IsIndex new index
  invariant index is = (
    written_once old once key was now there number,
    same_stamped old once key was now there number next count stamped items,
    written_index old index is key was now there number,
  )

  live : live_of new.slots ≡ live_of old.slots
  live = written_live old once key was now there number falling

  entries : told (merged new.slots) ≡ told (merged old.slots)
  entries = ap told (same_merged old once key was now there number next count stamped items)

  rooms : (Fits was → Fits now) → (n : ℕ) → Lives (live_of new.slots) n →
      Contains (rooms_of next old.slots) n → Contains (rooms_of next new.slots) n
  rooms more n lives had = written_rooms old once key was now there number next more n lives had

pub invariant_of-self : goal.invariant_of-self
invariant_of-self c = invariant c.self.inside.table.slots c.self.invariant.0 c.self.inside.next
    c.self.inside.count c.self.invariant.1 c.in-Some.key c.index_mut.result.now
    (record c.index_mut.result.now { entries = c.reserve.new.self }) c.index_mut.ensures.value refl
    refl c.reserve.ensures.items c.self.inside.table.index.items
    c.self.invariant.2

pub invariant_of-self-in_err-reserve : goal.invariant_of-self-in_err-reserve
invariant_of-self-in_err-reserve c = invariant c.self.inside.table.slots c.self.invariant.0
    c.self.inside.next c.self.inside.count c.self.invariant.1 c.in-Some.key c.index_mut.result.now
    (record c.index_mut.result.now { entries = c.reserve.new.self }) c.index_mut.ensures.value refl
    refl c.reserve.ensures.items c.self.inside.table.index.items
    c.self.invariant.2

pub returns-in_err-reserve-clause-rooms : goal.returns-in_err-reserve-clause-rooms
returns-in_err-reserve-clause-rooms c n live had =
    let len = c.reserve.ensures.len in
    let more = c.reserve.ensures.capacity in
    rooms c.self.inside.table.slots c.self.invariant.0
    c.self.inside.next c.self.inside.count c.self.invariant.1 c.in-Some.key c.index_mut.result.now
    (record c.index_mut.result.now { entries = c.reserve.new.self }) c.index_mut.ensures.value refl
    refl c.reserve.ensures.items (λ fits. omega arith) n live
    (subst (λ log. HasRoom log n) (sym c.self.view_is) had)

pub returns-in_err-reserve-clause-live : goal.returns-in_err-reserve-clause-live
returns-in_err-reserve-clause-live c =
    live c.self.inside.table.slots c.self.invariant.0
    c.self.inside.next c.self.inside.count c.self.invariant.1 c.in-Some.key c.index_mut.result.now
    (record c.index_mut.result.now { entries = c.reserve.new.self }) c.index_mut.ensures.value refl
    refl c.reserve.ensures.items
    ∙ ap (λ log. let l : Log = log in l.live) c.self.view_is

pub returns-in_err-reserve-clause-entries : goal.returns-in_err-reserve-clause-entries
returns-in_err-reserve-clause-entries c =
    entries c.self.inside.table.slots c.self.invariant.0
    c.self.inside.next c.self.inside.count c.self.invariant.1 c.in-Some.key c.index_mut.result.now
    (record c.index_mut.result.now { entries = c.reserve.new.self }) c.index_mut.ensures.value refl
    refl c.reserve.ensures.items
    ∙ ap (λ log. let l : Log = log in l.entries) c.self.view_is

pub returns-in_err-reserve-clause-succeeds : goal.returns-in_err-reserve-clause-succeeds
returns-in_err-reserve-clause-succeeds c had =
    let found = c.in-Some.ensures.found in
    let mine = ap (λ v. v.number) (same_value c.index_mut.result.now found.0
    (sym c.index_mut.ensures.value ∙ found.1)) ∙ found.2 in
    let room = room_here c.self.inside.next c.self.inside.table.slots c.self.invariant.0
    c.args.handle.number
    c.in-Some.key c.index_mut.result.now c.index_mut.ensures.value mine
    (subst (λ log. HasRoom log c.args.handle.number) (sym c.self.view_is) had) in
    let fits = room.1 in
    let full = c.in_err-reserve.ensures.full in
    absurd (omega arith)

pub returns-in_err-reserve-clause-unchanged : goal.returns-in_err-reserve-clause-unchanged
returns-in_err-reserve-clause-unchanged c =
    let was = c.index_mut.result.now in
    let now : Transaction = record was { entries = c.reserve.new.self } in
    let live_is = live c.self.inside.table.slots c.self.invariant.0 c.self.inside.next
    c.self.inside.count c.self.invariant.1 c.in-Some.key was now c.index_mut.ensures.value refl refl
    c.reserve.ensures.items in
    let entries_is = entries c.self.inside.table.slots c.self.invariant.0 c.self.inside.next
    c.self.inside.count c.self.invariant.1 c.in-Some.key was now c.index_mut.ensures.value refl refl
    c.reserve.ensures.items in
    let rooms_is = same_rooms c.self.inside.next c.self.inside.table.slots c.in-Some.key was now
    c.index_mut.ensures.value refl c.reserve.ensures.len c.in_err-reserve.ensures.err in
    let p = err_from_is_err_and c.from_residual.result c.from_residual.ensures.1 in
    rw p.1
    ((λ i. record { live = live_is i; entries = entries_is i; rooms = rooms_is i })
    ∙ c.self.view_is)

pub returns-in_ok-reserve-clause-room : goal.returns-in_ok-reserve-clause-room
returns-in_ok-reserve-clause-room c lives =
    let found = c.in-Some.ensures.found in
    let mine = ap (λ v. v.number) (same_value c.index_mut.result.now found.0
    (sym c.index_mut.ensures.value ∙ found.1)) ∙ found.2 in
    let now : Transaction = record c.index_mut.result.now { entries = c.reserve.new.self } in
    let put = Updates-with_value c.self.inside.table.slots c.in-Some.key now
    (ap is_some c.index_mut.ensures.value) in
    let fits = c.in_ok-reserve.ensures.ok in
    let stamp = c.if-self.false in
    let range = c.self.ranges in
    room_given c.self.inside.next (with_value c.self.inside.table.slots c.in-Some.key now)
    c.args.handle.number
    c.in-Some.key now (omega arith) put.changed mine (omega arith)

pub returns-in_ok-reserve-clause-rooms : goal.returns-in_ok-reserve-clause-rooms
returns-in_ok-reserve-clause-rooms c n live had =
    let len = c.reserve.ensures.len in
    let more = c.reserve.ensures.capacity in
    rooms c.self.inside.table.slots c.self.invariant.0
    c.self.inside.next c.self.inside.count c.self.invariant.1 c.in-Some.key c.index_mut.result.now
    (record c.index_mut.result.now { entries = c.reserve.new.self }) c.index_mut.ensures.value refl
    refl c.reserve.ensures.items (λ fits. omega arith) n live
    (subst (λ log. HasRoom log n) (sym c.self.view_is) had)

pub returns-in_ok-reserve-clause-live : goal.returns-in_ok-reserve-clause-live
returns-in_ok-reserve-clause-live c =
    live c.self.inside.table.slots c.self.invariant.0
    c.self.inside.next c.self.inside.count c.self.invariant.1 c.in-Some.key c.index_mut.result.now
    (record c.index_mut.result.now { entries = c.reserve.new.self }) c.index_mut.ensures.value refl
    refl c.reserve.ensures.items
    ∙ ap (λ log. let l : Log = log in l.live) c.self.view_is

pub returns-in_ok-reserve-clause-entries : goal.returns-in_ok-reserve-clause-entries
returns-in_ok-reserve-clause-entries c =
    entries c.self.inside.table.slots c.self.invariant.0
    c.self.inside.next c.self.inside.count c.self.invariant.1 c.in-Some.key c.index_mut.result.now
    (record c.index_mut.result.now { entries = c.reserve.new.self }) c.index_mut.ensures.value refl
    refl c.reserve.ensures.items
    ∙ ap (λ log. let l : Log = log in l.entries) c.self.view_is

pub returns-in_default-clause-room : goal.returns-in_default-clause-room
returns-in_default-clause-room c lives =
    let absent = absent_live c.self.inside.table.slots c.args.handle.number
    c.in_default.ensures.none in
    let no = sym (ap is_some absent) ∙
    subst (λ log. IsLive log c.args.handle.number) (sym c.self.view_is) lives in
    cc
