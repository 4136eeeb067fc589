use Rattle.std.proofs.Common.{string_bytes, IfErr, sym, ap, subst, ◌∙◌}
use Rattle.std.proofs.lemmas.Result.{IfOk-weaker}
use Rattle.catalog.specs.Holdings.{Measures}
use Rattle.catalog.specs.Shelving.{CopyRefused}
use Rattle.txn.proofs.Copying.{there_too, only_hungry}
use Rattle.txn.proofs.journal.Journal.measured.Goals as goal

pub returns-clause-ok : goal.returns-clause-ok
returns-clause-ok g c f book is =
    let at = c.args.at in
    let here = c.collections.ensures ∙ ap (λ s. s.now) is in
    IfOk-weaker c.measured.result _ _ (λ measured m. there_too g.B.Part.Part.collection
    g.met.B.Parts.shelf_laws (λ x. Measures x measured) c.args.self.now.names f at
    (string_bytes c.in-Some.name.now) m.0 book.joined.fit (sym c.in-Some.ensures.there)
    (subst (λ s. g.B.Shelf.Shelved.holds s at m.0) here m.1) m.2) c.measured.ensures.ok

pub returns-clause-refusal : goal.returns-clause-refusal
returns-clause-refusal g c f book is =
    let at = c.args.at in
    let here = c.collections.ensures ∙ ap (λ s. s.now) is in
    only_hungry g.B.Part.Part.collection g.met.B.Parts.shelf_laws c.args.self.now.names f at
    c.measured.result book.joined.fit c.requires
    (subst (λ s. IfErr c.measured.result (CopyRefused (g.B.Shelf.Shelved.holds s at))) here
    c.measured.ensures.err)
