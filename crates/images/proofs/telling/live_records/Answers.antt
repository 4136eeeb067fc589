use Rattle.std.proofs.Common.{subst}
use Rattle.records.specs.Packings.{Writes}
use Rattle.images.specs.Images.{TellsLive}
use Rattle.images.proofs.ImageRecords.{live_told, live_good}
use Rattle.images.proofs.telling.live_records.Goals as goal

pub returns-clause-told : goal.returns-clause-told
returns-clause-told c =
    let l = c.args.live.now in
    live_told l.live l.entries c.tell_begins.new.told.items c.tell_entries.new.told.items
    (subst (λ rs. Writes rs c.tell_begins.new.told.items (TellsLive l.live))
    c.new-told.ensures.items
    c.in_ok-tell_begins.ensures.told) c.in_ok-tell_entries.ensures.told

pub returns-clause-good : goal.returns-clause-good
returns-clause-good c =
    let l = c.args.live.now in
    live_good l.live l.entries c.tell_begins.new.told.items c.tell_entries.new.told.items
    (subst (λ rs. Writes rs c.tell_begins.new.told.items (TellsLive l.live))
    c.new-told.ensures.items
    c.in_ok-tell_begins.ensures.told) c.in_ok-tell_entries.ensures.told
