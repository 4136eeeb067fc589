use Rattle.std.proofs.Common.{ap, subst, ◌∙◌}
use Rattle.std.proofs.lemmas.Result.{err_from_is_err_and}
use Rattle.catalog.specs.Shelving.{CopyRefused}
use Rattle.txn.proofs.Copying.{only_memory, below_named}
use Rattle.txn.proofs.parts.next_part.Goals as goal

pub returns-in_err-part-clause-refusal : goal.returns-in_err-part-clause-refusal
returns-in_err-part-clause-refusal g c =
    let r = c.from_residual in
    let p = err_from_is_err_and r.result r.ensures.1 in
    let at = c.in-Some.at in
    let below = below_named (g.B.Names.Named.labels c.args.journal.now.names) at _
    c.in-Some.ensures.name.1 in
    rw (p.1, p.2) (only_memory g.B.Part.Part.collection g.met.B.Parts.shelf_laws
    c.args.journal.now.names c.args.shelves.now at _ c.requires.joined.fit below
    (subst (λ s. CopyRefused (g.B.Shelf.Shelved.holds s at) c.in_err-part.field-0.0)
    (c.collections.ensures ∙ ap (λ s. s.now) c.of.ensures) c.in_err-part.ensures.err))
