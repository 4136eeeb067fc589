use Rattle.std.proofs.Common.{◌∙◌, map, ap, sym}
use Rattle.calls.specs.Transactions.{own}
use Rattle.undo_log.specs.Entries.{stamped_entry}
use Rattle.undo_log.specs.Logs.{Log}
use Rattle.undo_log.proofs.Slots.{same_value}
use Rattle.undo_log.proofs.Marks.{own_slot, own_none}
use Rattle.undo_log.proofs.live.Live.entries_of.Goals as goal

pub returns-in-Some : goal.returns-in-Some
returns-in-Some c =
    let t = c.in-Some.ensures.found in
    let here = c.index.ensures in
    let mine = ap (λ u. u.number) (same_value c.index.result.now t.0 (sym here ∙ t.1)) ∙ t.2 in
    ap (map stamped_entry) c.deref.ensures.value
    ∙ own_slot c.self.inside.table.slots c.self.invariant.1.each c.args.handle.number c.in-Some.key
    c.index.result.now here mine
    ∙ ap (λ log. let l : Log = log in own c.args.handle.number l.entries) c.self.view_is

pub returns-in-None : goal.returns-in-None
returns-in-None c =
    sym (own_none c.self.inside.table.slots c.args.handle.number c.in-None.ensures.none)
    ∙ ap (λ log. let l : Log = log in own c.args.handle.number l.entries) c.self.view_is
