use Rattle.std.proofs.Common.{◌≡◌, ◌<◌, ◌++◌, ◌∷◌, [], refl, ◌∙◌, ap, arith}
use Rattle.std.proofs.lemmas.Result.{on_ok_weaker}
use Rattle.records.specs.declared.record.Record.{Record}
use Rattle.records.specs.Records.{call_record}
use Rattle.images.proofs.ImageRecords.{live_call_good, live_call_same, writes_one}
use Rattle.images.proofs.telling.tell_call.Goals as goal
use Rattle.calls.specs.Rules.{inverse_of}

pub returns-clause-told : goal.returns-clause-told
returns-clause-told c =
    let l = c.args.logged.now in
    let few : l.at < 256 = omega (arith, c.if-prove.false) in
    let same = live_call_same c.args.number l.at l.call _ l.reply _ (inverse_of l.call l.reply) _
    c.in_ok-copy.ensures c.in_ok-copy-2.ensures c.in_ok-back.ensures.ok in
    let told : Record = Record.LiveCall
    (call_record c.args.number l.at l.call l.reply (inverse_of l.call l.reply)) in
    on_ok_weaker c.tell.result
    (λ written. writes_one (λ rs. rs ≡ told ∷ []) c.args.told.now.items c.tell.new.told.items told
    (written ∙ ap (λ r. c.args.told.now.items ++ r ∷ []) same)
    (λ last. live_call_good c.args.number l.at l.call l.reply last c.requires.number few
    c.requires.asked (c.fits_call.ensures.fits.0 c.if-prove-2.false)
    (c.fits_reply.ensures.fits.0 c.if-prove-3.false)) refl)
    c.tell.ensures.told
