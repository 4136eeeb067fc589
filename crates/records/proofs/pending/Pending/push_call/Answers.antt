use Rattle.std.proofs.lemmas.Grind.{common_steps}
use Rattle.std.proofs.Common.{[], ◌∷◌, ◌++◌, length, refl, arith, ap, ◌∙◌}
use Rattle.records.specs.declared.record.Record.{Record}
use Rattle.records.specs.Records.{record_of_call, spelling}
use Rattle.records.proofs.PendingLemmas.{counted_more, counted_next, filled_ends}
use Rattle.records.proofs.pending.Pending.push_call.Goals as goal

pub invariant_of-self : goal.invariant_of-self
invariant_of-self c =
    let a = c.args in
    let fits = c.fits-fits.ensures.0 c.if-fits.true in
    let len = c.call_len.ensures.len a.number a.at in
    counted_more _ c.push_call.new.self (record_of_call a.number a.at a.asked.now a.answer.now)
    c.self.inside.count c.self.invariant c.push_call.ensures
    (omega (arith, fits, ap (λ w. length (spelling w.last.records)) c.self.view_is, len))

pub invariant_of-self-2 : goal.invariant_of-self-2
invariant_of-self-2 c =
    let a = c.args in
    let entry : Record = record_of_call a.number a.at a.asked.now a.answer.now in
    let len = c.call_len.ensures.len a.number a.at in
    let bound = c.call_len.ensures.bound in
    let seen = ap (λ w. length (spelling w.last.records)) c.self.view_is in
    let one = ap (λ d. d.records) c.replace-draft.ensures.after ∙
    ap (λ d. d.records) c.replace-next.ensures.value ∙ c.push_call-2.ensures ∙
    ap (λ l. l ++ entry ∷ []) c.self.invariant.unused in
    counted_next _ _ _ c.replace-draft.new.dest c.replace-next.new.dest _
    c.push_back_reserved.ensures.items (ap (λ d. d.records) c.replace-draft.ensures.value) entry
    c.self.inside.count c.self.invariant one
    (ap (λ d. d.records) c.replace-next.ensures.after ∙ c.new.ensures)
    (omega (arith, len, bound))
    (λ suits. let yes = c.fits-fits.ensures.1 (omega (arith, suits, seen, len)) in
    let no' = c.if-fits.false in cc)

pub returns-clause-freezes : goal.returns-clause-freezes
returns-clause-freezes c =
    filled_ends _ _ _ c.replace-draft.new.dest c.replace-next.new.dest 0
    c.push_back_reserved.ensures.items (ap (λ d. d.records) c.replace-draft.ensures.value)
    _ c.self.view_is refl

pub returns-then-fits-clause-records : goal.returns-then-fits-clause-records
returns-then-fits-clause-records c = grind (arith, common_steps)
