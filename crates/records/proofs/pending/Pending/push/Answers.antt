use Rattle.std.proofs.lemmas.Grind.{common_steps}
use Rattle.std.proofs.Common.{[], ◌∷◌, ◌++◌, length, refl, arith, ap, ◌∙◌}
use Rattle.records.specs.Records.{spelling}
use Rattle.records.proofs.PendingLemmas.{counted_more, counted_next, filled_ends}
use Rattle.records.proofs.pending.Pending.push.Goals as goal

pub invariant_of-self : goal.invariant_of-self
invariant_of-self c =
    let fits = c.fits-fits.ensures.0 c.if-fits.true in
    counted_more _ c.push.new.self c.args.entry c.self.inside.count c.self.invariant c.push.ensures
    (omega (
      arith,
      fits,
      ap (λ w. length (spelling w.last.records)) c.self.view_is,
      c.encoded_len.ensures.len,
    ))

pub invariant_of-self-2 : goal.invariant_of-self-2
invariant_of-self-2 c =
    let entry = c.args.entry in
    let len = c.encoded_len.ensures.len in
    let bound = c.encoded_len.ensures.bound in
    let seen = ap (λ w. length (spelling w.last.records)) c.self.view_is in
    let one = ap (λ d. d.records) c.replace-draft.ensures.after ∙
    ap (λ d. d.records) c.replace-next.ensures.value ∙ c.push-2.ensures ∙
    ap (λ l. l ++ entry ∷ []) c.self.invariant.unused in
    counted_next _ _ _ c.replace-draft.new.dest c.replace-next.new.dest _
    c.push_back_reserved.ensures.items (ap (λ d. d.records) c.replace-draft.ensures.value) entry
    c.self.inside.count c.self.invariant one
    (ap (λ d. d.records) c.replace-next.ensures.after ∙ c.new.ensures)
    (omega (arith, len, bound))
    (λ suits. let yes = c.fits-fits.ensures.1 (omega (arith, suits, seen, len)) in
    let no' = c.if-fits.false in cc)

pub returns-clause-freezes : goal.returns-clause-freezes
returns-clause-freezes c =
    filled_ends _ _ _ c.replace-draft.new.dest c.replace-next.new.dest 0
    c.push_back_reserved.ensures.items (ap (λ d. d.records) c.replace-draft.ensures.value)
    _ c.self.view_is refl

pub returns-clause-records : goal.returns-clause-records
returns-clause-records c = grind (arith, common_steps)
