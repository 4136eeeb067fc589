use Rattle.std.proofs.Common.{sym, subst}
use Rattle.clients.specs.Known.{all_left}
use Rattle.desks.specs.Told.{told_book}
use Rattle.group_commit.specs.Histories.{AreCounted}
use Rattle.store.proofs.Freezes.{closes}
use Rattle.store.proofs.closing.close.Goals as goal

pub returns : goal.returns
returns g c =
    let left = all_left c.args.last in
    closes g.J.Naming g.D.Disk (told_book g.B.Parts.collections c.book_of-book.result.0)
    c.book_of-book.result.1
    c.book_of-book.result.2 c.book_of-book.ensures.desk.0 c.book_of-book.ensures.desk.1
    c.vault.inside.keeper c.vault.inside.receiver c.vault.inside.mark c.vault.inside.near
    c.vault.invariant.0 c.compare.ensures.order.0 c.compare.ensures.order.1 c.compare.ensures.noted
    left c.book_of-book.result.3
    (subst (λ n. AreCounted left.clients n c.book_of-book.result.1.all)
    (sym c.book_of-book.ensures.clients) c.look_back.ensures.counted)
    c.look_back.ensures.noted
