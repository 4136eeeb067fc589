use Rattle.std.proofs.Common.{sym, ◌∙◌, subst}
use Rattle.disk_model.specs.Disk.{LeavesOnly}
use Rattle.recovery.specs.Formatting.{IsRoomFor, IsFormatting}
use Rattle.recovery.proofs.FormatLemmas.{one_number, answer_as}
use Rattle.recovery.proofs.formatting.format_as.Goals as goal

pub returns-in-Some-clause-answer : goal.returns-in-Some-clause-answer
returns-in-Some-clause-answer g c =
    answer_as _ _ _ c.make_store.result
    (λ room. record { version = c.in-Some.version; numbered = c.in-Some.ensures; room = room })
    (λ there. subst (λ v. IsRoomFor v c.args.area _)
    (one_number there.version c.in-Some.version (sym there.numbered ∙ c.in-Some.ensures))
    there.room) c.make_store.ensures.answer

pub returns-in-Some-clause-stop : goal.returns-in-Some-clause-stop
returns-in-Some-clause-stop g c = λ f is rest.
    subst (λ v. LeavesOnly g.D.Disk.moment g.D.Disk.left_since c.args.disk.now
    c.make_store.new.disk (IsFormatting v (g.D.Disk.seen c.args.disk.now)))
    (one_number c.in-Some.version f (sym c.in-Some.ensures ∙ is)) (c.make_store.ensures.stop rest)
