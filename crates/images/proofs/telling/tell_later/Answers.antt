use Rattle.std.proofs.Common.{◌≡◌, ◌<◌, ◌++◌, ◌∷◌, [], refl, ◌∙◌, ap, arith}
use Rattle.std.proofs.lemmas.Result.{on_ok_weaker}
use Rattle.calls.specs.declared.call.Call.{Call}
use Rattle.records.specs.declared.record.Record.{Record}
use Rattle.images.proofs.ImageRecords.{live_later_good, writes_one}
use Rattle.images.proofs.telling.tell_later.Goals as goal

pub returns-clause-told : goal.returns-clause-told
returns-clause-told c =
    let l = c.args.later.now in
    let few : l.at < 256 = omega (arith, c.if-prove.false) in
    let told : Call → Record = λ v. Record.LiveLater
    (record { number = c.args.number; collection = l.at; call = v }) in
    on_ok_weaker c.tell.result
    (λ written. writes_one (λ rs. rs ≡ told l.call ∷ []) c.args.told.now.items c.tell.new.told.items
    (told l.call) (written ∙ ap (λ v. c.args.told.now.items ++ told v ∷ [])
    c.in_ok-copy.ensures)
    (λ last. live_later_good c.args.number l.at l.call last c.requires.number few
    c.requires.deferred) refl)
    c.tell.ensures.told
