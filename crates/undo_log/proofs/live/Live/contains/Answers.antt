use Rattle.std.proofs.Common.{◌∙◌, sym, ap, refl, is_some}
use Rattle.std.specs.FinMap as maps
use Rattle.undo_log.specs.Logs.{Log}
use Rattle.undo_log.proofs.Slots.{slot_live, absent_live}
use Rattle.undo_log.proofs.live.Live.contains.Goals as goal

pub returns-in-Some : goal.returns-in-Some
returns-in-Some c =
    let t = c.in-Some.ensures.found in (
      λ _. ap (λ log. let l : Log = log in maps.contains_key l.live c.args.number)
          (sym c.self.view_is)
          ∙ ap is_some (slot_live c.self.inside.table.slots c.self.invariant.0 c.args.number
          c.in-Some.field-0 t.0 t.1 t.2),
      λ _. refl,
    )

pub returns-in_default : goal.returns-in_default
returns-in_default c =
    let none = absent_live c.self.inside.table.slots c.args.number c.in_default.ensures.none in (
      λ no. cc,
      λ live. sym (ap is_some none) ∙
          ap (λ log. let l : Log = log in maps.contains_key l.live c.args.number) c.self.view_is ∙
          live,
    )
