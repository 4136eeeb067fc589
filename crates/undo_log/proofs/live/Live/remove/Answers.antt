use Rattle.std.proofs.Common.{◌∙◌, ◌≡◌, ◌-◌, ◌<◌, length, sym, ap, subst, arith, None, is_some}
use Rattle.std.specs.FinMap as maps
use Rattle.calls.specs.Transactions.{others}
use Rattle.undo_log.specs.Logs.{Log, HasRoom, live_of}
use Rattle.undo_log.specs.Stamps.{merged, AreStamped}
use Rattle.undo_log.proofs.Slots.{gone_once, gone_live, room_stays, remove_absent, absent_live}
use Rattle.undo_log.proofs.Slots.{same_value}
use Rattle.undo_log.proofs.Marks.{told, others_told, cleared_merged, rest_free, rest_of}
use Rattle.undo_log.proofs.Written.{slot_within, cleared_stamped}
use Rattle.undo_log.proofs.Index.{gone_index, its, none_in_gap, number_of}
use Rattle.undo_log.proofs.live.Live.remove.Goals as goal
use Rattle.undo_log.proofs.live.Live.remove.Goals.{After-drop-gone}

-- the handle is one of the index, and its slot has its number
within : (c : After-drop-gone) → c.in-Ok.place < length c.self.inside.table.index.items
within c = let found = rw c.deref.ensures.value at c.in-Ok.ensures.found in found.0

mine : (c : After-drop-gone) → c.remove-gone.result.number ≡ c.remove-handle.result.number
mine c =
    let t = its c.self.inside.table.slots c.self.inside.table.index.items c.self.invariant.2
    c.in-Ok.place (within c) c.remove-handle.result c.remove-handle.ensures.value in
    ap (λ v. v.number) (same_value c.remove-gone.result t.0
    (sym c.remove-gone.ensures.value ∙ t.1)) ∙ t.2

pub remove-gone-requires : goal.remove-gone-requires
remove-gone-requires c =
    let found = rw c.deref.ensures.value at c.in-Ok.ensures.found in
    ap is_some (its c.self.inside.table.slots c.self.inside.table.index.items c.self.invariant.2
    c.in-Ok.place found.0 c.remove-handle.result c.remove-handle.ensures.value).1

pub overflow_sub-self : goal.overflow_sub-self
overflow_sub-self c =
    let most = slot_within c.self.inside.table.slots c.remove-handle.result.slot
    c.remove-gone.result
    c.remove-gone.ensures.value c.self.inside.next c.self.inside.count c.self.invariant.1 in
    let many = c.remove-gone.result.entries.ok in
    let len = c.len.ensures in
    omega arith

pub invariant_of-self : goal.invariant_of-self
invariant_of-self c = (
  gone_once c.self.inside.table.slots c.remove-gone.new.self c.self.invariant.0
      c.remove-handle.result.slot
      c.remove-gone.result c.remove-gone.ensures.value c.remove-gone.ensures.updates,
  let many = c.remove-gone.result.entries.ok in
      let len = c.len.ensures in
      let size : length c.remove-gone.result.entries.items ≡ c.len.result = omega arith in
      subst (λ k. AreStamped c.remove-gone.new.self c.self.inside.next (c.self.inside.count - k))
      size (cleared_stamped c.self.inside.table.slots c.remove-gone.new.self c.self.invariant.0
      c.remove-handle.result.slot c.remove-gone.result c.remove-gone.ensures.value
      c.remove-gone.ensures.updates
      c.self.inside.next c.self.inside.count c.self.invariant.1),
  rw c.remove-handle.ensures.items
      (gone_index c.self.inside.table.slots c.remove-gone.new.self c.self.inside.table.index.items
      c.self.invariant.2 c.in-Ok.place (within c) c.remove-handle.result
      c.remove-handle.ensures.value
      c.remove-gone.ensures.updates),
)

pub returns-in-Ok-clause-live : goal.returns-in-Ok-clause-live
returns-in-Ok-clause-live c =
    let found = rw c.deref.ensures.value at c.in-Ok.ensures.found in
    let number = mine c ∙ ap number_of c.remove-handle.ensures.value ∙
    found.1 c.remove-handle.result in
    gone_live c.self.inside.table.slots c.remove-gone.new.self c.self.invariant.0
    c.remove-handle.result.slot
    c.remove-gone.result c.remove-gone.ensures.value c.remove-gone.ensures.updates
    ∙ ap (maps.remove (live_of c.self.inside.table.slots.slots)) number
    ∙ ap (λ log. let l : Log = log in maps.remove l.live c.args.number) c.self.view_is

pub returns-in-Ok-clause-entries : goal.returns-in-Ok-clause-entries
returns-in-Ok-clause-entries c =
    let found = rw c.deref.ensures.value at c.in-Ok.ensures.found in
    let number = mine c ∙ ap number_of c.remove-handle.ensures.value ∙
    found.1 c.remove-handle.result in
    let all = merged c.self.inside.table.slots.slots in
    ap told (cleared_merged c.self.inside.table.slots c.remove-gone.new.self c.self.invariant.0
    c.remove-handle.result.slot c.remove-gone.result c.remove-gone.ensures.value
    c.remove-gone.ensures.updates
    c.self.invariant.1.each ∙ ap (λ n. rest_of n all) number)
    ∙ sym (others_told c.args.number all)
    ∙ ap (λ log. let l : Log = log in others c.args.number l.entries) c.self.view_is

pub returns-in-Ok-clause-rooms : goal.returns-in-Ok-clause-rooms
returns-in-Ok-clause-rooms c n live had =
    room_stays c.self.inside.next c.self.inside.table.slots c.remove-gone.new.self
    c.self.invariant.0
    c.remove-handle.result.slot None c.remove-gone.ensures.updates (λ t u k is h number fits. cc) n
    live
    (subst (λ log. HasRoom log n) (sym c.self.view_is) had)

pub returns-in_default-clause-live : goal.returns-in_default-clause-live
returns-in_default-clause-live c =
    let gap = rw c.deref.ensures.value at c.in_default.ensures.absent in
    remove_absent c.args.self.now.live c.args.number
    (ap (λ log. let l : Log = log in maps.get l.live c.args.number) (sym c.self.view_is) ∙
    absent_live c.self.inside.table.slots c.args.number
    (none_in_gap c.self.inside.table.slots c.self.inside.table.index.items c.self.invariant.2
    c.args.number c.in_default.field-0 gap))

pub returns-in_default-clause-entries : goal.returns-in_default-clause-entries
returns-in_default-clause-entries c =
    let gap = rw c.deref.ensures.value at c.in_default.ensures.absent in
    let told_is = ap (λ log. let l : Log = log in l.entries) c.self.view_is in
    sym told_is ∙ sym (rest_free c.self.inside.table.slots c.args.number
    (none_in_gap c.self.inside.table.slots c.self.inside.table.index.items c.self.invariant.2
    c.args.number c.in_default.field-0 gap))
    ∙ ap (others c.args.number) told_is
