use Rattle.std.proofs.Common.{◌∙◌, ap}
use Rattle.std.proofs.lemmas.Result.{err_from_is_err_and}
use Rattle.calls.specs.Names.{IsName}
use Rattle.catalog.specs.Making.{names_of, IsPlaceOf, FindRefused}
use Rattle.talks.specs.Clients.{AskedFor, kind_at}
use Rattle.world.specs.declared.step.Step.{Step}
use Rattle.world.specs.declared.step.Answer.{Answer}
use Rattle.talks.proofs.Stepping.{asked}
use Rattle.talks.proofs.ClientLemmas.{not_entered, not_found, asked_at}
use Rattle.talks.proofs.client.Client.ask.Goals as goal

pub returns-in_err-number : goal.returns-in_err-number
returns-in_err-number g c =
    let p = err_from_is_err_and c.from_residual.result c.from_residual.ensures.1 in
    rw (p.1, p.2) (not_entered g.D.Disk c.args.self.now c.args.world.now c.args.name.now
    c.args.operation c.args.when c.enter.new.self c.enter.new.world c.in_err-number.field-0.0
    c.in_err-number.ensures)

pub returns-in_err-collection : goal.returns-in_err-collection
returns-in_err-collection g c =
    let p = err_from_is_err_and c.from_residual-in_err-collection.result
    c.from_residual-in_err-collection.ensures.1 in
    let refused : FindRefused (names_of c.enter.new.world.book.state.now) c.args.name.now
    c.in_err-collection.field-0.0 =
    rw (c.as_str.ensures, c.book.ensures) at c.in_err-collection.ensures.err in
    rw (p.1, p.2) (not_found g.D.Disk c.args.self.now c.args.world.now c.args.name.now
    c.args.operation c.args.when c.enter.new.self c.enter.new.world c.in_ok-number.number
    c.in_err-collection.field-0.0 c.in_ok-number.ensures refused)

pub returns : goal.returns
returns g c =
    let found : IsName c.args.name.now ×
    IsPlaceOf (names_of c.enter.new.world.book.state.now) c.args.name.now
    c.in_ok-collection.collection =
    rw (c.as_str.ensures, c.book.ensures) at c.in_ok-collection.ensures.ok in
    let is_asked : AskedFor c.enter.new.world.book.state.now c.in_ok-collection.collection
    c.args.operation c.call_of-call.result =
    c.call_of-call.ensures c.enter.new.world.book.state.now c.in_ok-collection.collection
    (c.kind.ensures ∙ ap (λ b. kind_at b.state.now c.in_ok-collection.collection)
    c.book-2.ensures) in
    let ran = asked g.D.Disk c.enter.new.world c.ask.new.self
    (Step.Ask c.in_ok-number.number c.in_ok-collection.collection c.call_of-call.result c.args.when)
    Answer.Replied c.ask.result c.ask.ensures in
    asked_at g.D.Disk c.args.self.now c.args.world.now c.args.name.now c.args.operation c.args.when
    c.enter.new.self c.enter.new.world c.in_ok-number.number c.in_ok-collection.collection
    c.ask.result c.ask.new.self c.in_ok-number.ensures found
    (ran.0, (c.call_of-call.result, is_asked, ran.1), ran.2)
