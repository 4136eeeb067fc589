use Rattle.std.proofs.Common.{◌∙◌, ◌≡◌, ℕ, ◌<◌, ◌-◌, ◌^◌, ◌∷◌, ◌++◌, [], refl, sym, ap, subst}
use Rattle.std.proofs.Common.{is_some, arith, Some}
use Rattle.std.specs.List.{Contains}
use Rattle.std.proofs.lemmas.List.{map-append}
use Rattle.slab.specs.Slab.{Slab, get}
use Rattle.undo_log.specs.declared.live.Transaction.{Transaction}
use Rattle.undo_log.specs.Entries.{entry_of}
use Rattle.undo_log.specs.Logs.{Log, EachOnce, IsLive, rooms_of}
use Rattle.undo_log.specs.Stamps.{merged}
use Rattle.undo_log.proofs.Slots.{Fits, room_here, same_value, absent_live}
use Rattle.undo_log.proofs.Marks.{told}
use Rattle.undo_log.proofs.Written.{written_once, written_live, pushed_merged, pushed_stamped}
use Rattle.undo_log.proofs.Index.{written_index}
use Rattle.undo_log.proofs.live.Live.push.Goals as goal

pub unreachable-requires : goal.unreachable-requires
unreachable-requires c =
    let absent = absent_live c.self.inside.table.slots c.args.handle.number
    c.in_default.ensures.none in
    let no = sym (ap is_some absent) ∙
    subst (λ log. IsLive log c.args.handle.number) (sym c.self.view_is) c.requires.live in
    cc

-- the slot of a transaction with room has it, and there is a stamp
room_of : (log : Log) (s : Slab Transaction) (next n key : ℕ) (t u : Transaction) → EachOnce s →
    get s key ≡ Some t → get s key ≡ Some u → u.number ≡ n → Contains log.rooms n →
    rooms_of next s.slots ≡ log.rooms → (next < 2 ^ 64 - 1) × Fits t
room_of log s next n key t u once there found number had rooms =
    room_here next s once n key t there
    (ap (λ v. v.number) (same_value t u (sym there ∙ found)) ∙ number)
    (subst (λ l. Contains l n) (sym rooms) had)

pub push_reserved-requires : goal.push_reserved-requires
push_reserved-requires c =
    let found = c.in-Some.ensures.found in
    (room_of c.args.self.now c.self.inside.table.slots c.self.inside.next c.args.handle.number
    c.in-Some.key
    c.index_mut.result.now found.0 c.self.invariant.0 c.index_mut.ensures.value found.1 found.2
    c.requires.room (ap (λ log. let l : Log = log in l.rooms) c.self.view_is)).1

pub overflow_add-self : goal.overflow_add-self
overflow_add-self c =
    let found = c.in-Some.ensures.found in
    let below = (room_of c.args.self.now c.self.inside.table.slots c.self.inside.next
    c.args.handle.number
    c.in-Some.key c.index_mut.result.now found.0 c.self.invariant.0 c.index_mut.ensures.value
    found.1 found.2 c.requires.room (ap (λ log. let l : Log = log in l.rooms) c.self.view_is)).0 in
    omega arith

pub overflow_add-self-2 : goal.overflow_add-self-2
overflow_add-self-2 c =
    let found = c.in-Some.ensures.found in
    let below = (room_of c.args.self.now c.self.inside.table.slots c.self.inside.next
    c.args.handle.number
    c.in-Some.key c.index_mut.result.now found.0 c.self.invariant.0 c.index_mut.ensures.value
    found.1 found.2 c.requires.room (ap (λ log. let l : Log = log in l.rooms) c.self.view_is)).0 in
    let few = c.self.invariant.1.few in
    omega arith

pub invariant_of-self : goal.invariant_of-self
invariant_of-self c = (
  written_once c.self.inside.table.slots c.self.invariant.0 c.in-Some.key c.index_mut.result.now _
      c.index_mut.ensures.value refl,
  pushed_stamped c.self.inside.table.slots c.self.invariant.0 c.in-Some.key c.index_mut.result.now _
      c.index_mut.ensures.value refl c.self.inside.next c.self.inside.count c.self.invariant.1
      c.args.entry c.push_reserved.ensures.items,
  written_index c.self.inside.table.slots c.self.inside.table.index.items c.self.invariant.2
      c.in-Some.key c.index_mut.result.now _ c.index_mut.ensures.value refl,
)

pub returns-clause-entries : goal.returns-clause-entries
returns-clause-entries c =
    let all = merged c.self.inside.table.slots.slots in
    let was = c.index_mut.result.now in
    let there = c.index_mut.ensures.value in
    let found = c.in-Some.ensures.found in
    let mine = ap (λ v. v.number) (same_value was found.0 (sym there ∙ found.1)) ∙ found.2 in
    let e = entry_of c.args.entry in
    let next = c.self.inside.next in
    ap told (pushed_merged c.self.inside.table.slots c.self.invariant.0 c.in-Some.key was _ there
    refl
    next c.self.inside.count c.self.invariant.1 c.args.entry c.push_reserved.ensures.items)
    ∙ map-append (λ m. m.1) all ((next, (was.number, e)) ∷ [])
    ∙ ap (λ n. told all ++ (n, e) ∷ []) mine
    ∙ ap (λ log. let l : Log = log in l.entries ++ (c.args.handle.number, e) ∷ []) c.self.view_is

pub returns-clause-live : goal.returns-clause-live
returns-clause-live c =
    written_live c.self.inside.table.slots c.self.invariant.0 c.in-Some.key c.index_mut.result.now _
    c.index_mut.ensures.value refl refl
    ∙ ap (λ log. let l : Log = log in l.live) c.self.view_is
