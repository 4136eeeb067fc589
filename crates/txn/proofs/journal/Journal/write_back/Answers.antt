use Rattle.std.proofs.Common.{◌+◌, ◌∙◌, length, refl, sym, ap, subst, ◌<◌, arith, List, ℕ}
use Rattle.boosted.specs.Meaning.{Undoes}
use Rattle.calls.specs.Transactions.{Entry}
use Rattle.undo_log.specs.Entries.{event_of, HasNewestCall, HasNoCall}
use Rattle.catalog.specs.Fours.{which_of}
use Rattle.records.specs.Waits.{HasRoomFor}
use Rattle.images.specs.Gatherings.{noted, TakesBack}
use Rattle.images.proofs.Running.{note_kept}
use Rattle.steps.specs.Machine.{HasNewestRead}
use Rattle.txn.specs.Shelved.{JournalState, IsOfBook, HasNewestAt, journal_lsn}
use Rattle.txn.proofs.BookLemmas.{mark_length}
use Rattle.txn.proofs.JournalLemmas.{written}
use Rattle.txn.proofs.JournalEnds.{newest_there, newest_at, undo_here, reply_short, reach_here}
use Rattle.txn.proofs.JournalEnds.{back_on}
use Rattle.txn.proofs.journal.Journal.write_back.Goals as goal

pub unreachable-requires : goal.unreachable-requires
unreachable-requires g c =
    let on = c.requires.newest in
    newest_there c.args.handle.number c.args.self.now.transactions.entries on.0 on.1
    (subst (HasNoCall c.args.handle.number)
    (c.live.ensures.entries ∙ ap (λ (j : JournalState _). j.transactions.entries) c.self.view_is)
    c.in_default.ensures.none)

pub push-requires-clause-room : goal.push-requires-clause-room
push-requires-clause-room g c =
    subst (HasRoomFor c.reserve.new.self) (mark_length c.args.handle.number)
    c.in_ok-reserve.ensures.room

pub effect_of_undoing-requires-clause-askable : goal.effect_of_undoing-requires-clause-askable
effect_of_undoing-requires-clause-askable g c =
    let i = c.self.inside in
    let x = event_of c.in-Some.newest.now in
    let book = subst (λ j. IsOfBook g.B.Boosted.meaning g.B.Parts.making g.B.Parts.collections
    g.B.Parts.whole g.B.Parts.fits (which_of c.args.at) j c.args.shelf.now) (sym c.self.view_is)
    c.requires.kept in
    let new = subst (λ (es : List (ℕ × Entry)). HasNewestCall c.args.handle.number es x)
    c.live.ensures.entries c.in-Some.ensures.found in
    let on = subst (λ (j : JournalState _). HasNewestAt c.args.handle.number j.transactions.entries
    c.args.at)
    (sym c.self.view_is) c.requires.newest in
    (undo_here g.met.B.Boosted.laws g.met.B.Parts.laws g.met.B.Coded.told
    g.met.B.Parts.shelf_laws _ c.args.shelf.now c.args.handle.number c.args.at book x new on x
    new).0

pub effect_of_undoing-requires-clause-told : goal.effect_of_undoing-requires-clause-told
effect_of_undoing-requires-clause-told g c =
    let i = c.self.inside in
    let x = event_of c.in-Some.newest.now in
    let book = subst (λ j. IsOfBook g.B.Boosted.meaning g.B.Parts.making g.B.Parts.collections
    g.B.Parts.whole g.B.Parts.fits (which_of c.args.at) j c.args.shelf.now) (sym c.self.view_is)
    c.requires.kept in
    let new = subst (λ (es : List (ℕ × Entry)). HasNewestCall c.args.handle.number es x)
    c.live.ensures.entries c.in-Some.ensures.found in
    let on = subst (λ (j : JournalState _). HasNewestAt c.args.handle.number j.transactions.entries
    c.args.at)
    (sym c.self.view_is) c.requires.newest in
    reply_short g.met.B.Boosted.laws g.met.B.Parts.laws g.met.B.Coded.told
    g.met.B.Parts.shelf_laws _ c.args.shelf.now c.args.handle.number c.args.at book x new on

pub effect_of_undoing-requires-clause-undoes : goal.effect_of_undoing-requires-clause-undoes
effect_of_undoing-requires-clause-undoes g c =
    let i = c.self.inside in
    let x = event_of c.in-Some.newest.now in
    let book = subst (λ j. IsOfBook g.B.Boosted.meaning g.B.Parts.making g.B.Parts.collections
    g.B.Parts.whole g.B.Parts.fits (which_of c.args.at) j c.args.shelf.now) (sym c.self.view_is)
    c.requires.kept in
    let new = subst (λ (es : List (ℕ × Entry)). HasNewestCall c.args.handle.number es x)
    c.live.ensures.entries c.in-Some.ensures.found in
    let on = subst (λ (j : JournalState _). HasNewestAt c.args.handle.number j.transactions.entries
    c.args.at)
    (sym c.self.view_is) c.requires.newest in
    let can = (undo_here g.met.B.Boosted.laws g.met.B.Parts.laws g.met.B.Coded.told
    g.met.B.Parts.shelf_laws _ c.args.shelf.now c.args.handle.number c.args.at book x new on x
    new).1 in (
      can.0,
      subst (λ v. Undoes g.B.Shelf.Boosted.meaning v x.at x.call x.reply can.0)
          (sym c.collections.ensures) can.1,
    )

pub back-requires-clause-call : goal.back-requires-clause-call
back-requires-clause-call g c =
    let x = event_of c.in-Some.newest.now in
    newest_there c.args.handle.number c.self.inside.transactions.entries x
    (subst (λ (es : List (ℕ × Entry)). HasNewestCall c.args.handle.number es x)
    c.live.ensures.entries
    c.in-Some.ensures.found)

pub back-requires-clause-undoes : goal.back-requires-clause-undoes
back-requires-clause-undoes g c =
    let i = c.self.inside in
    let x = event_of c.in-Some.newest.now in
    let book = subst (λ j. IsOfBook g.B.Boosted.meaning g.B.Parts.making g.B.Parts.collections
    g.B.Parts.whole g.B.Parts.fits (which_of c.args.at) j c.args.shelf.now) (sym c.self.view_is)
    c.requires.kept in
    let new = subst (λ (es : List (ℕ × Entry)). HasNewestCall c.args.handle.number es x)
    c.live.ensures.entries c.in-Some.ensures.found in
    let on = subst (λ (j : JournalState _). HasNewestAt c.args.handle.number j.transactions.entries
    c.args.at)
    (sym c.self.view_is) c.requires.newest in
    undo_here g.met.B.Boosted.laws g.met.B.Parts.laws g.met.B.Coded.told
    g.met.B.Parts.shelf_laws _ c.args.shelf.now c.args.handle.number c.args.at book x new on

pub back-requires-clause-reach : goal.back-requires-clause-reach
back-requires-clause-reach g c =
    let i = c.self.inside in
    let x = event_of c.in-Some.newest.now in
    let book = subst (λ j. IsOfBook g.B.Boosted.meaning g.B.Parts.making g.B.Parts.collections
    g.B.Parts.whole g.B.Parts.fits (which_of c.args.at) j c.args.shelf.now) (sym c.self.view_is)
    c.requires.kept in
    let new = subst (λ (es : List (ℕ × Entry)). HasNewestCall c.args.handle.number es x)
    c.live.ensures.entries c.in-Some.ensures.found in
    let on = subst (λ (j : JournalState _). HasNewestAt c.args.handle.number j.transactions.entries
    c.args.at)
    (sym c.self.view_is) c.requires.newest in
    reach_here g.met.B.Boosted.laws g.met.B.Parts.laws g.met.B.Coded.told
    g.met.B.Parts.shelf_laws _ c.args.shelf.now c.args.handle.number c.args.at book x new on

pub returns-clause-ok : goal.returns-clause-ok
returns-clause-ok g c =
    let i = c.self.inside in
    let x = event_of c.in-Some.newest.now in
    let book = subst (λ j. IsOfBook g.B.Boosted.meaning g.B.Parts.making g.B.Parts.collections
    g.B.Parts.whole g.B.Parts.fits (which_of c.args.at) j c.args.shelf.now) (sym c.self.view_is)
    c.requires.kept in
    let new = subst (λ (es : List (ℕ × Entry)). HasNewestCall c.args.handle.number es x)
    c.live.ensures.entries c.in-Some.ensures.found in
    let on = subst (λ (j : JournalState _). HasNewestAt c.args.handle.number j.transactions.entries
    c.args.at)
    (sym c.self.view_is) c.requires.newest in
    let meaning = g.B.Shelf.Boosted.meaning in
    let room = subst (λ (j : JournalState _). length j.pending < 16384) (sym c.self.view_is)
    c.requires.room in
    let unread = subst (λ (j : JournalState _). HasNewestRead c.args.handle.number
    j.transactions.entries → ⊥)
    (sym c.self.view_is) c.requires.written in
    let next = c.next_lsn-lsn.ensures ∙
    ap (λ (j : JournalState _). journal_lsn j + 1) (sym c.self.view_is) in
    let undoing = c.in_ok-effect.ensures.ok in
    let before = undoing.0 in
    let es = undoing.1 in
    let takes = subst (λ p. TakesBack meaning p x es c.args.shelf.now.now before) next
    (subst (λ v. TakesBack meaning c.next_lsn-lsn.result x es v before)
    c.collections.ensures undoing.2) in
    let notes = c.note.ensures ∙ ap (noted i.gathering) undoing.3 ∙ note_kept i.gathering es in
    let reserved = c.in_ok-reserve.ensures in
    rw (← c.self.view_is) (back_on g.met.B.Boosted.laws g.met.B.Parts.laws g.met.B.Coded.told
    g.met.B.Parts.shelf_laws _ _ c.args.handle.number c.args.shelf.now c.back.new.shelf x es
    before c.args.at (newest_at g.met.B.Boosted.laws g.met.B.Parts.laws g.met.B.Coded.told
    g.met.B.Parts.shelf_laws _ c.args.shelf.now c.args.handle.number c.args.at book x new on) new
    unread
    c.in_ok-back.ensures.ok
    (written i.pending c.reserve.new.self c.push.new.self room reserved.records reserved.freezes
    reserved.handed c.push.ensures.records c.push.ensures.freezes c.push.ensures.handed
    (omega arith)
    refl) refl takes notes)
