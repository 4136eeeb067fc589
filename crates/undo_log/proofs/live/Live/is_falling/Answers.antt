use Rattle.std.proofs.Common.{◌∙◌, sym, ap, Some, true}
use Rattle.std.specs.FinMap as maps
use Rattle.undo_log.specs.Logs.{Log}
use Rattle.undo_log.proofs.Slots.{slot_live, absent_live, same_value}
use Rattle.undo_log.proofs.live.Live.is_falling.Goals as goal

pub returns-in-Some : goal.returns-in-Some
returns-in-Some c =
    let t = c.in-Some.ensures.found in
    let here = c.index.ensures in
    let mine = ap (λ u. u.number) (same_value c.index.result.now t.0 (sym here ∙ t.1)) ∙ t.2 in
    let status = ap (λ log. let l : Log = log in maps.get l.live c.args.handle.number)
    (sym c.self.view_is)
    ∙ slot_live c.self.inside.table.slots c.self.invariant.0 c.args.handle.number c.in-Some.key
    c.index.result.now here mine in (
      λ falls. status ∙ ap Some falls,
      λ falls. same_value c.index.result.now.falling true (sym status ∙ falls),
    )

pub returns-in-None : goal.returns-in-None
returns-in-None c =
    let none = ap (λ log. let l : Log = log in maps.get l.live c.args.handle.number)
    (sym c.self.view_is)
    ∙ absent_live c.self.inside.table.slots c.args.handle.number c.in-None.ensures.none in
    (λ false_is. cc, λ falls. cc)
