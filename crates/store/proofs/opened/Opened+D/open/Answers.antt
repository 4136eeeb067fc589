use Rattle.std.proofs.Common.{inl, inr, sym, subst, ◌∙◌}
use Rattle.std.proofs.lemmas.Result.{err_from_is_err_and}
use Rattle.gate_block.specs.Area.{size_of}
use Rattle.recovery.proofs.RefusalLemmas.{IsFault, only_opened}
use Rattle.store.proofs.opened.Opened+D.open.Goals as goal

pub returns-in_err-book-clause-kept_in_refusal : goal.returns-in_err-book-clause-kept_in_refusal
returns-in_err-book-clause-kept_in_refusal g c =
    let p = err_from_is_err_and c.from_residual.result c.from_residual.ensures.1 in
    rw (p.1, p.2) c.in_err-book.ensures.kept_in_refusal

pub returns-in-Ok-clause-opened : goal.returns-in-Ok-clause-opened
returns-in-Ok-clause-opened g c =
    rw (c.in-Ok.ensures.book, c.in-Ok.ensures.keeper) c.in_ok-book.ensures.opened

pub returns-in-Ok-clause-content : goal.returns-in-Ok-clause-content
returns-in-Ok-clause-content g c content stands =
    rw (c.in-Ok.ensures.book, c.in-Ok.ensures.keeper) (c.in_ok-book.ensures.content content stands)

pub returns-in-Ok-clause-kept : goal.returns-in-Ok-clause-kept
returns-in-Ok-clause-kept g c = rw c.in-Ok.ensures.keeper c.in_ok-book.ensures.kept

pub returns-in-Err-clause-kept_in_refusal : goal.returns-in-Err-clause-kept_in_refusal
returns-in-Err-clause-kept_in_refusal g c =
    rw (c.into_disk.ensures, c.in-Err.ensures.refused.2) c.in_ok-book.ensures.kept

pub returns-in_err-book-clause-starved : goal.returns-in_err-book-clause-starved
returns-in_err-book-clause-starved g c =
    let p = err_from_is_err_and c.from_residual.result c.from_residual.ensures.1 in
    rw (p.1, p.2) c.in_err-book.ensures.starved

pub returns-in_err-book-clause-unchanged : goal.returns-in_err-book-clause-unchanged
returns-in_err-book-clause-unchanged g c =
    let p = err_from_is_err_and c.from_residual.result c.from_residual.ensures.1 in
    rw (p.1, p.2) (λ no_fault fed. c.in_err-book.ensures.unchanged no_fault)

pub returns-in_err-book-clause-opened_at_most : goal.returns-in_err-book-clause-opened_at_most
returns-in_err-book-clause-opened_at_most g c =
    let p = err_from_is_err_and c.from_residual.result c.from_residual.ensures.1 in
    rw (p.1, p.2) (λ starved. inl (c.in_err-book.ensures.unchanged
    (λ fault. subst IsFault (sym fault ∙ starved) tt)))

pub returns-in-Err-clause-starved : goal.returns-in-Err-clause-starved
returns-in-Err-clause-starved g c =
    rw (c.into_disk.ensures, c.in-Err.ensures.refused.2) (λ starved true_read.
    let o = c.in_ok-book.ensures.opened true_read in
    (o.version, size_of c.in_ok-book.keeper.area, o.header))

pub returns-in-Err-clause-unchanged : goal.returns-in-Err-clause-unchanged
returns-in-Err-clause-unchanged g c = λ no_fault fed. absurd (fed c.in-Err.ensures.refused.0)

pub returns-in-Err-clause-opened_at_most : goal.returns-in-Err-clause-opened_at_most
returns-in-Err-clause-opened_at_most g c =
    rw (c.into_disk.ensures, c.in-Err.ensures.refused.2) (λ starved. inr (only_opened g.D.Disk
    c.args.disk c.in_ok-book.keeper.disk c.in_ok-book.book c.in_ok-book.keeper.area
    c.in_ok-book.ensures.opened c.in_ok-book.ensures.ready))
