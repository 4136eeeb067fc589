use Rattle.std.proofs.Common.{◌∙◌, refl, sym, ap, subst, true}
use Rattle.std.specs.FinMap as maps
use Rattle.undo_log.specs.Logs.{Log, HasRoom, live_of, fallen}
use Rattle.undo_log.proofs.Slots.{slot_live, absent_live, fallen_there, fallen_absent, same_value}
use Rattle.undo_log.proofs.Marks.{told}
use Rattle.undo_log.proofs.Written.{written_once, written_status, written_rooms, same_merged}
use Rattle.undo_log.proofs.Written.{same_stamped}
use Rattle.undo_log.proofs.Index.{written_index}
use Rattle.undo_log.proofs.live.Live.fall.Goals as goal

pub invariant_of-self : goal.invariant_of-self
invariant_of-self c = (
  written_once c.self.inside.table.slots c.self.invariant.0 c.in-Some.key c.index_mut.result.now _
      c.index_mut.ensures.value refl,
  same_stamped c.self.inside.table.slots c.self.invariant.0 c.in-Some.key c.index_mut.result.now _
      c.index_mut.ensures.value refl c.self.inside.next c.self.inside.count c.self.invariant.1 refl,
  written_index c.self.inside.table.slots c.self.inside.table.index.items c.self.invariant.2
      c.in-Some.key c.index_mut.result.now _ c.index_mut.ensures.value refl,
)

pub returns-in-Some-clause-live : goal.returns-in-Some-clause-live
returns-in-Some-clause-live c =
    let slots = c.self.inside.table.slots in
    let was = c.index_mut.result.now in
    let here = c.index_mut.ensures.value in
    let found = c.in-Some.ensures.found in
    let mine = ap (λ t. t.number) (same_value was found.0 (sym here ∙ found.1)) ∙ found.2 in
    written_status slots c.self.invariant.0 c.in-Some.key was (record was { falling = true }) here
    refl
    ∙ ap (λ n. maps.insert (live_of slots.slots) n true) mine
    ∙ sym (fallen_there (live_of slots.slots) c.args.handle.number was.falling
    (slot_live slots c.self.invariant.0 c.args.handle.number c.in-Some.key was here mine))
    ∙ ap (λ log. let l : Log = log in fallen l.live c.args.handle.number) c.self.view_is

pub returns-in-Some-clause-entries : goal.returns-in-Some-clause-entries
returns-in-Some-clause-entries c =
    ap told (same_merged c.self.inside.table.slots c.self.invariant.0 c.in-Some.key
    c.index_mut.result.now _ c.index_mut.ensures.value refl c.self.inside.next c.self.inside.count
    c.self.invariant.1 refl)
    ∙ ap (λ log. let l : Log = log in l.entries) c.self.view_is

pub returns-in-Some-clause-rooms : goal.returns-in-Some-clause-rooms
returns-in-Some-clause-rooms c n live had =
    written_rooms c.self.inside.table.slots c.self.invariant.0 c.in-Some.key c.index_mut.result.now
    _
    c.index_mut.ensures.value refl c.self.inside.next (λ fits. fits) n live
    (subst (λ log. HasRoom log n) (sym c.self.view_is) had)

pub returns-in_default-clause-live : goal.returns-in_default-clause-live
returns-in_default-clause-live c =
    let none = absent_live c.self.inside.table.slots c.args.handle.number
    c.in_default.ensures.none in
    sym (fallen_absent c.args.self.now.live c.args.handle.number
    (ap (λ log. let l : Log = log in maps.get l.live c.args.handle.number) (sym c.self.view_is) ∙
    none))
