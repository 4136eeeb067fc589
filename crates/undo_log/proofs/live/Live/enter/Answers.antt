use Rattle.std.proofs.Common.{◌∙◌, ◌≡◌, ◌≢◌, ℕ, List, sym, ap, subst, false, Some, None}
use Rattle.std.specs.FinMap as maps
use Rattle.slab.specs.Slab.{Slab, get}
use Rattle.undo_log.specs.declared.live.Transaction.{Transaction}
use Rattle.undo_log.specs.declared.live.Handle.{Handle}
use Rattle.undo_log.specs.Logs.{Log, HasRoom, IsLive, EachOnce}
use Rattle.undo_log.specs.Stamps.{AreStamped}
use Rattle.undo_log.specs.Index.{IsIndex}
use Rattle.undo_log.proofs.Slots.{put_once, put_live, not_live_alone, room_stays, same_value}
use Rattle.undo_log.proofs.Marks.{told}
use Rattle.undo_log.proofs.Written.{entered_merged, entered_stamped}
use Rattle.undo_log.proofs.Index.{put_index, all_others}
use Rattle.undo_log.proofs.live.Live.enter.Goals as goal
use Rattle.undo_log.proofs.live.Live.enter.Goals.{After-list}

-- nobody has its number
fresh : (c : After-list) (k : ℕ) (u : Transaction) → get c.self.inside.table.slots k ≡ Some u →
    u.number ≢ c.args.number
fresh c = not_live_alone c.self.inside.table.slots c.self.invariant.0 c.args.number
    (λ live. c.requires (subst (λ log. IsLive log c.args.number) c.self.view_is live))

-- and nothing was in its slot
empty : (c : After-list) (u : Transaction) →
    get c.self.inside.table.slots c.in_ok-slot.slot ≡ Some u → u.number ≡ c.args.number
empty c u h =
    let no : None ≡ Some u = sym c.in_ok-slot.ensures.was_vacant ∙ h in
    cc

-- room in the index is no change
reserved : (s : Slab Transaction) (old new : List Handle) → new ≡ old → IsIndex s old →
    IsIndex s new
reserved s old new same is = subst (IsIndex s) (sym same) is

pub list-requires-clause-fresh : goal.list-requires-clause-fresh
list-requires-clause-fresh c = all_others c.self.inside.table.slots c.reserve.new.self.items
    (reserved c.self.inside.table.slots c.self.inside.table.index.items c.reserve.new.self.items
    c.in_ok-reserve.ensures.items c.self.invariant.2) c.args.number
    (not_live_alone c.self.inside.table.slots c.self.invariant.0 c.args.number
    (λ live. c.requires (subst (λ log. IsLive log c.args.number) c.self.view_is live)))

pub invariant_of-self-in_err-slot : goal.invariant_of-self-in_err-slot
invariant_of-self-in_err-slot c =
    let stamped = c.self.invariant.1 in
    let index = reserved c.self.inside.table.slots c.self.inside.table.index.items
    c.reserve.new.self.items c.in_ok-reserve.ensures.items c.self.invariant.2 in
    subst (λ s. EachOnce s × AreStamped s c.self.inside.next c.self.inside.count ×
    IsIndex s c.reserve.new.self.items) (sym c.in_err-slot.ensures.err) (
      c.self.invariant.0,
      record {
        each = stamped.each;
        below = stamped.below;
        counted = stamped.counted;
        few = stamped.few;
      },
      record { rising = index.rising; handles = index.handles },
    )

pub invariant_of-self-2 : goal.invariant_of-self-2
invariant_of-self-2 c = (
  put_once c.self.inside.table.slots c.insert.new.self c.self.invariant.0 c.in_ok-slot.slot
      _ c.in_ok-slot.ensures.updates (empty c) (λ k u _ h. fresh c k u h),
  entered_stamped c.self.inside.table.slots c.insert.new.self c.self.invariant.0 c.in_ok-slot.slot
      _ c.in_ok-slot.ensures.was_vacant c.in_ok-slot.ensures.updates (fresh c)
      c.new.ensures.items c.self.inside.next c.self.inside.count c.self.invariant.1,
  put_index c.self.inside.table.slots c.insert.new.self c.reserve.new.self.items _
      (reserved c.self.inside.table.slots c.self.inside.table.index.items c.reserve.new.self.items
      c.in_ok-reserve.ensures.items c.self.invariant.2) c.in_ok-slot.slot _
      c.in_ok-slot.ensures.was_vacant
      c.in_ok-slot.ensures.updates c.list.ensures.rising c.list.ensures.listed,
)

pub returns-clause-live : goal.returns-clause-live
returns-clause-live c =
    put_live c.self.inside.table.slots c.insert.new.self c.self.invariant.0 c.in_ok-slot.slot
    _ c.in_ok-slot.ensures.updates (empty c) (λ k u _ h. fresh c k u h)
    ∙ ap (λ log. let l : Log = log in maps.insert l.live c.args.number false) c.self.view_is

pub returns-clause-entries : goal.returns-clause-entries
returns-clause-entries c =
    ap told (entered_merged c.self.inside.table.slots c.insert.new.self c.self.invariant.0
    c.in_ok-slot.slot _ c.in_ok-slot.ensures.was_vacant
    c.in_ok-slot.ensures.updates (fresh c) c.new.ensures.items c.self.inside.next
    c.self.inside.count c.self.invariant.1)
    ∙ ap (λ log. let l : Log = log in l.entries) c.self.view_is

pub returns-clause-rooms : goal.returns-clause-rooms
returns-clause-rooms c n live had =
    room_stays c.self.inside.next c.self.inside.table.slots c.insert.new.self c.self.invariant.0
    c.in_ok-slot.slot _ c.in_ok-slot.ensures.updates
    (λ t u k is h number fits.
    let same = ap (λ v. v.number) (same_value _ t is) in
    absurd (fresh c k u h (number ∙ sym same))) n live
    (subst (λ log. HasRoom log n) (sym c.self.view_is) had)
