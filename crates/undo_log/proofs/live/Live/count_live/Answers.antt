use Rattle.std.proofs.Common.{◌∙◌, sym, ap}
use Rattle.std.specs.FinMap as maps
use Rattle.undo_log.specs.Logs.{Log}
use Rattle.undo_log.proofs.Slots.{len_live}
use Rattle.undo_log.proofs.live.Live.count_live.Goals as goal

pub returns : goal.returns
returns c = c.len.ensures ∙ sym (len_live c.self.inside.table.slots c.self.invariant.0) ∙
    ap (λ log. let l : Log = log in maps.len l.live) c.self.view_is
