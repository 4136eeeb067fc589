use Rattle.std.proofs.Common.{◌++◌, ◌∷◌, [], List, ◌∙◌, ap, subst, sym, arith}
use Rattle.std.proofs.lemmas.List.{append-nil}
use Rattle.std.proofs.lemmas.Result.{on_ok_weaker}
use Rattle.calls.specs.Contents.{Collection}
use Rattle.records.specs.declared.record.Record.{Record}
use Rattle.records.specs.Images.{IsImage, TellOf}
use Rattle.records.specs.Packings.{joined, Writes}
use Rattle.images.specs.Images.{TellsGathered}
use Rattle.images.proofs.ImageRecords.{whole_writes, writes_as}
use Rattle.recovery.specs.Kept.{AreKept}
use Rattle.recovery.proofs.EditLemmas.{can_stand, settled_is}
use Rattle.recovery.proofs.settling.push_settled.Goals as goal

pub returns-clause-told : goal.returns-clause-told
returns-clause-told c =
    let s = c.args.machine.now in
    let next = c.args.next in
    let a = joined c.args.packer.now in
    let b = joined c.push.new.self in
    let d = joined c.push_kept.new.packer in
    let e = joined c.push-2.new.self in
    let unworn = c.upheld.ensures.unworn in
    let marks = c.in_ok-push.ensures.written ∙
    ap (λ f. a ++ Record.Marks f next c.wear.result ∷ []) c.format.ensures ∙
    ap (λ w. a ++ Record.Marks s.format next w ∷ []) c.wear.ensures in
    let told = subst (λ (v : List Collection). (xs : List Collection) →
    AreKept v c.args.kept.now xs → Writes b d (TellOf xs)) c.parts.ensures
    c.in_ok-push_kept.ensures.told in
    on_ok_weaker c.push-2.result
    (λ end xs are. writes_as (TellsGathered s.format next s.wear xs [])
    (IsImage s.format next s.wear xs [] []) a e
    (whole_writes s.format next s.wear xs [] a b d d e
    (can_stand next s.wear c.requires.next (omega (arith, unworn))) marks (told xs are)
    (sym (append-nil d)) end)
    (λ rs tells. settled_is s.format next s.wear xs rs tells))
    c.push-2.ensures.written
