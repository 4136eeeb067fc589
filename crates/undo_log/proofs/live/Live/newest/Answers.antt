use Rattle.std.proofs.Common.{subst, ◌∙◌, ap}
use Rattle.undo_log.specs.Entries.{event_of, HasNewestCall}
use Rattle.undo_log.proofs.Owns.{newest_of_all, newest_logged, newest_asked}
use Rattle.undo_log.proofs.live.Live.newest.Goals as goal

pub returns-clause-found : goal.returns-clause-found
returns-clause-found c =
    let ss = c.entries_of-entries.result.now in
    let i = c.in_ok-place.place in
    let s = c.index-entries-place.result in
    let place = c.in_ok-place.ensures.found in
    let asked = ap (λ v. v.entry) c.index-entries-place.is ∙ c.in-Asked.is in
    let es = c.args.self.now.entries in
    subst (λ l. HasNewestCall c.args.handle.number es (event_of l))
    (newest_logged ss i s c.index-entries-place.is place c.in-Asked.logged asked)
    (newest_of_all c.args.handle.number es ss i place c.entries_of-entries.ensures)

pub unreachable-requires : goal.unreachable-requires
unreachable-requires c =
    let deferred = ap (λ v. v.entry) c.index-entries-place.is ∙ c.in-Deferred.is in
    newest_asked c.entries_of-entries.result.now c.in_ok-place.place c.index-entries-place.result
    c.index-entries-place.is c.in_ok-place.ensures.found c.in-Deferred.field-0 deferred
