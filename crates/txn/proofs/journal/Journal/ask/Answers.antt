use Rattle.std.proofs.Common.{◌≡◌, subst}
use Rattle.std.specs.Prelude.{OnOk, IfErr}
use Rattle.std.proofs.lemmas.Result.{err_from_is_err_and}
use Rattle.calls.specs.declared.when.When.{When}
use Rattle.abstract_locks.specs.Holds.{IsClear, IsBusyRefusal}
use Rattle.undo_log.specs.LeftCalls.{GoesTwice}
use Rattle.steps.specs.Looks.{IsLooked, CanTake, CanTell}
use Rattle.txn.proofs.JournalSteps.{misplaced, unopened, starved, twice, busy, hungry, can_get}
use Rattle.txn.proofs.journal.Journal.ask.Goals as goal

pub returns-in-Refused-clause-step :
    goal.returns-in-Refused-clause-step
returns-in-Refused-clause-step g c =
    misplaced g.met.B.Boosted.laws g.met.B.Parts.laws g.met.B.Coded.told
    g.met.B.Parts.shelf_laws c.args.self.now c.args.shelf.now c.args.handle.number c.args.at
    c.args.call.now c.args.when c.in-Refused.refusal c.in_ok-check_running.ensures.ok
    (subst (IsLooked g.B.Shelf.Boosted.meaning c.args.when c.args.self.now.transactions.format
    c.args.shelf.now c.args.handle.number c.args.at c.args.call.now) c.in-Refused.is
    c.requires.looked)

pub returns-in_err-check_room-in-Starved-clause-step :
    goal.returns-in_err-check_room-in-Starved-clause-step
returns-in_err-check_room-in-Starved-clause-step g c =
    let r = c.from_residual-in_err-check_room-in-Starved in
    let p = err_from_is_err_and r.result r.ensures.1 in
    let seen = subst (IsLooked g.B.Shelf.Boosted.meaning c.args.when
    c.args.self.now.transactions.format c.args.shelf.now c.args.handle.number c.args.at
    c.args.call.now)
    c.in-Starved.is c.requires.looked in
    rw (p.1, p.2) (unopened g.met.B.Boosted.laws g.met.B.Parts.laws g.met.B.Coded.told
    g.met.B.Parts.shelf_laws c.args.self.now c.args.shelf.now c.args.handle.number c.args.at
    c.args.call.now c.args.when _ c.in_err-check_room-in-Starved.ensures.err seen.0)

pub returns-in_ok-check_room-in-Starved-clause-step :
    goal.returns-in_ok-check_room-in-Starved-clause-step
returns-in_ok-check_room-in-Starved-clause-step g c =
    let seen = subst (IsLooked g.B.Shelf.Boosted.meaning c.args.when
    c.args.self.now.transactions.format c.args.shelf.now c.args.handle.number c.args.at
    c.args.call.now)
    c.in-Starved.is c.requires.looked in
    starved g.met.B.Boosted.laws g.met.B.Parts.laws g.met.B.Coded.told
    g.met.B.Parts.shelf_laws c.args.self.now c.args.shelf.now c.args.handle.number c.args.at
    c.args.call.now c.args.when c.in_ok-check_room-in-Starved.ensures.ok seen.0 seen.1

pub returns-in_err-check_room-in-Answered-clause-step :
    goal.returns-in_err-check_room-in-Answered-clause-step
returns-in_err-check_room-in-Answered-clause-step g c =
    let r = c.from_residual-in_err-check_room-in-Answered in
    let p = err_from_is_err_and r.result r.ensures.1 in
    let seen = subst (IsLooked g.B.Shelf.Boosted.meaning c.args.when
    c.args.self.now.transactions.format c.args.shelf.now c.args.handle.number c.args.at
    c.args.call.now)
    c.in-Answered.is c.requires.looked in
    rw (p.1, p.2) (unopened g.met.B.Boosted.laws g.met.B.Parts.laws g.met.B.Coded.told
    g.met.B.Parts.shelf_laws c.args.self.now c.args.shelf.now c.args.handle.number c.args.at
    c.args.call.now c.args.when _ c.in_err-check_room-in-Answered.ensures.err seen.0)

pub returns-then-goes_twice-clause-step :
    goal.returns-then-goes_twice-clause-step
returns-then-goes_twice-clause-step g c =
    let seen = subst (IsLooked g.B.Shelf.Boosted.meaning c.args.when
    c.args.self.now.transactions.format c.args.shelf.now c.args.handle.number c.args.at
    c.args.call.now)
    c.in-Answered.is c.requires.looked in
    let goes = c.goes_twice.ensures.0 c.if-goes_twice.true in
    rw goes.0 (twice g.met.B.Boosted.laws g.met.B.Parts.laws g.met.B.Coded.told
    g.met.B.Parts.shelf_laws c.args.self.now c.args.shelf.now c.args.handle.number c.args.at
    c.args.call.now c.in-Answered.reply c.in_ok-check_room-in-Answered.ensures.ok
    (subst (λ w. CanTake g.B.Shelf.Boosted.meaning w c.args.self.now.transactions.format
    c.args.shelf.now.now c.args.at c.args.call.now) goes.0 seen.0)
    (subst (λ w. CanTell g.B.Shelf.Boosted.meaning w c.args.shelf.now.now c.args.at
    c.args.call.now c.in-Answered.reply) goes.0 seen.1) goes.1)

pub returns-in_err-clear-in-Answered-clause-step :
    goal.returns-in_err-clear-in-Answered-clause-step
returns-in_err-clear-in-Answered-clause-step g c =
    let r = c.from_residual-in_err-clear-in-Answered in
    let p = err_from_is_err_and r.result r.ensures.1 in
    let seen = subst (IsLooked g.B.Shelf.Boosted.meaning c.args.when
    c.args.self.now.transactions.format c.args.shelf.now c.args.handle.number c.args.at
    c.args.call.now)
    c.in-Answered.is c.requires.looked in
    let why = subst (λ r. IfErr r (IsBusyRefusal c.args.shelf.now.holds c.args.handle.number
    c.args.at
    c.in-Answered.need)) c.in_err-clear-in-Answered.was seen.2.busy in
    let once : (c.args.when ≡ When.Now) →
    GoesTwice c.args.self.now.transactions.entries c.args.handle.number
    (record { at = c.args.at; call = c.args.call.now; reply = c.in-Answered.reply }) → ⊥ =
    λ now goes. let yes = c.goes_twice.ensures.1 (now, goes) in
    let no' = c.if-goes_twice.false in cc in
    rw (p.1, p.2) (busy g.met.B.Boosted.laws g.met.B.Parts.laws g.met.B.Coded.told
    g.met.B.Parts.shelf_laws c.args.self.now c.args.shelf.now c.args.handle.number c.args.at
    c.args.call.now c.in-Answered.reply c.args.when c.in_ok-check_room-in-Answered.ensures.ok
    seen.0 seen.1 once _
    (subst (λ k. IsBusyRefusal c.args.shelf.now.holds c.args.handle.number c.args.at k
    c.in_err-clear-in-Answered.field-0.0) seen.2.needed why))

pub take-requires-clause-can : goal.take-requires-clause-can
take-requires-clause-can g c =
    let seen = subst (IsLooked g.B.Shelf.Boosted.meaning c.args.when
    c.args.self.now.transactions.format c.args.shelf.now c.args.handle.number c.args.at
    c.args.call.now)
    c.in-Answered.is c.requires.looked in
    let free = subst (λ r. OnOk r (IsClear c.args.shelf.now.holds c.args.handle.number c.args.at
    c.in-Answered.need)) c.in_ok-clear-in-Answered.was seen.2.free in
    let once : (c.args.when ≡ When.Now) →
    GoesTwice c.args.self.now.transactions.entries c.args.handle.number
    (record { at = c.args.at; call = c.args.call.now; reply = c.in-Answered.reply }) → ⊥ =
    λ now goes. let yes = c.goes_twice.ensures.1 (now, goes) in
    let no' = c.if-goes_twice.false in cc in
    can_get g.met.B.Boosted.laws g.met.B.Parts.laws g.met.B.Coded.told
    g.met.B.Parts.shelf_laws c.args.self.now c.args.shelf.now c.args.handle.number c.args.at
    c.args.call.now c.in-Answered.reply c.args.when c.in_ok-check_room-in-Answered.ensures.ok
    seen.0 seen.1 once
    (subst (IsClear c.args.shelf.now.holds c.args.handle.number c.args.at) seen.2.needed free)
    c.requires.kept.0 c.requires.kept.1

pub returns-in_err-take-in-Answered-clause-step :
    goal.returns-in_err-take-in-Answered-clause-step
returns-in_err-take-in-Answered-clause-step g c =
    let r = c.from_residual-in_err-take-in-Answered in
    let p = err_from_is_err_and r.result r.ensures.1 in
    let kept = c.in_err-take-in-Answered.ensures in
    let seen = subst (IsLooked g.B.Shelf.Boosted.meaning c.args.when
    c.args.self.now.transactions.format c.args.shelf.now c.args.handle.number c.args.at
    c.args.call.now)
    c.in-Answered.is c.requires.looked in
    let free = subst (λ r. OnOk r (IsClear c.args.shelf.now.holds c.args.handle.number c.args.at
    c.in-Answered.need)) c.in_ok-clear-in-Answered.was seen.2.free in
    let once : (c.args.when ≡ When.Now) →
    GoesTwice c.args.self.now.transactions.entries c.args.handle.number
    (record { at = c.args.at; call = c.args.call.now; reply = c.in-Answered.reply }) → ⊥ =
    λ now goes. let yes = c.goes_twice.ensures.1 (now, goes) in
    let no' = c.if-goes_twice.false in cc in
    rw (p.1, p.2, kept.refusal, kept.same.0, kept.same.1)
    (hungry g.met.B.Boosted.laws g.met.B.Parts.laws g.met.B.Coded.told
    g.met.B.Parts.shelf_laws c.args.self.now c.args.shelf.now c.args.handle.number c.args.at
    c.args.call.now
    c.in-Answered.reply c.args.when c.in_ok-check_room-in-Answered.ensures.ok seen.0 seen.1 once
    (subst (IsClear c.args.shelf.now.holds c.args.handle.number c.args.at) seen.2.needed free))
