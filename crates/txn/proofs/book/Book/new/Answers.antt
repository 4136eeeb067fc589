use Rattle.std.proofs.Common.{sym, subst, ap, ◌∙◌, ◌≤◌, length}
use Rattle.calls.specs.Limits.{max_collections}
use Rattle.records.specs.Short.{AreShort}
use Rattle.txn.specs.Books.{opened}
use Rattle.txn.specs.Shelved.{book_state, opened_journal}
use Rattle.txn.proofs.Opened.{opened_book}
use Rattle.txn.proofs.book.Book.new.Goals as goal

pub invariant_of-result : goal.invariant_of-result
invariant_of-result g c =
    let names = c.apart-names.result.0 in
    let f = c.apart-names.result.1 in
    let is = c.apart-names.ensures.whole in
    rw (c.new.ensures, c.shelved.ensures) (opened_book g.met.B.Boosted.laws g.met.B.Parts.laws
    g.met.B.Coded.told g.met.B.Parts.shelf_laws c.args.format names f c.args.next c.args.wear
    c.apart-names.ensures.fit
    (subst (λ s. g.B.Boosted.meaning.within s c.args.wear) is c.requires.within) c.requires.worn
    c.requires.next (subst (λ s. AreShort c.args.format (g.B.Parts.collections s)) is
    c.requires.short)
    (subst (λ s. length (g.B.Parts.making.names s) ≤ max_collections) is c.requires.few))

pub returns : goal.returns
returns g c = ap (λ j. book_state g.B.Parts.whole j c.shelved.result) c.new.ensures ∙
    ap (book_state g.B.Parts.whole (opened_journal c.args.format c.apart-names.result.0 c.args.next
    c.args.wear)) c.shelved.ensures ∙
    ap (λ s. opened c.args.format s c.args.next c.args.wear) (sym c.apart-names.ensures.whole)
