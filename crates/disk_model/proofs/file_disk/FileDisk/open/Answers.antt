use Rattle.std.proofs.Common.{◌++◌, ℕ, List, false, replicate, length, refl, sym, ap, ◌∙◌, arith}
use Rattle.std.proofs.Common.{length-append, subst, rules}
use Rattle.std.proofs.lemmas.List.{length-take-le, length-replicate}
use Rattle.disk_model.specs.Marks.{Leaves}
use Rattle.disk_model.specs.Events.{Event, padded, seen_of, marks_of}
use Rattle.disk_model.proofs.Stops.{leaves_only}
use Rattle.disk_model.proofs.file_disk.FileDisk.open.Goals as goal

pub returns-clause-content : goal.returns-clause-content
returns-clause-content g c =
    let n = c.in_ok-size.size in
    let content = g.S.Content.content in
    let opened = ap (λ (es : List Event). seen_of (padded content n) es) c.new-2.ensures in
    opened ∙ ap (λ (k : ℕ). padded content k)
    (sym (ap length opened ∙ length-take-le n (content ++ replicate n 0)
    (omega (arith, length-append content (replicate n 0), length-replicate {A = ℕ} n 0))))

pub returns-clause-at_rest : goal.returns-clause-at_rest
returns-clause-at_rest g c = λ d left.
    let n = c.in_ok-size.size in
    let content = g.S.Content.content in
    let now : Leaves (padded content n) (replicate n false) d =
    subst (λ (es : List Event). Leaves (seen_of (padded content n) es) (marks_of n es) d)
    c.new-2.ensures left in
    leaves_only (padded content n) d (replicate n false) n refl
    (sym (length-take-le n (content ++ replicate n 0)
    (omega (arith, length-append content (replicate n 0), length-replicate {A = ℕ} n 0)))) now
    ∙ sym (ap (λ (es : List Event). seen_of (padded content n) es) c.new-2.ensures)

pub returns-clause-faults : goal.returns-clause-faults
returns-clause-faults g c = search rules
