use Rattle.std.proofs.Common.{◌≢◌, ◌≤◌, ◌∙◌, [], take, length, sym, ap, subst}
use Rattle.std.proofs.Common.{arith}
use Rattle.std.proofs.Common.{take_all, length-take-le}
use Rattle.std.proofs.lemmas.List.{append-nil}
use Rattle.std.proofs.lemmas.List.Elements.{All-nil}
use Rattle.std.specs.Io.BufRead.{FillKeeps}
use Rattle.std.specs.Io.KnownBytes.{Consumes}
use Rattle.std.proofs.KnownBytes.{Consumes-nil, Consumes-kept}
use Rattle.std.proofs.BufReadLemmas.{Consumes_shown}
use Rattle.talks.specs.Lines.{IsPiece}
use Rattle.talks.proofs.LineLemmas.{shown_parts, last_piece, takes_nothing}
use Rattle.talks.proofs.lines.take_piece.Goals as goal

pub returns-in-Some : goal.returns-in-Some
returns-in-Some g c =
    let line = c.args.line.now.items in (
      [],
      All-nil (λ x. x ≢ 10),
      sym (ap (take 4096) (append-nil line) ∙ take_all 4096 line c.requires),
      takes_nothing _ _ c.in-Some.piece (rw c.in-Some.is at c.without_bytes.ensures.empty)
          (Consumes-kept _ _ _ [] (Consumes-nil _) c.fill_buf.follows.holds-at-none.0),
    )

pub returns : goal.returns
returns g c =
    let shown = c.in-Ok.available.now in
    let front = c.len_of_front-front in
    let taken = c.min.result in
    let within : taken ≤ length shown = omega (arith, c.min.ensures) in
    let rested = c.fill_buf.follows.lender-at-none in
    let filled = subst (FillKeeps _ (g.B.Read.remaining rested) (g.B.BufRead.consumable_len rested))
    c.in-Ok.is c.fill_buf.follows.holds-at-none in
    let moved = Consumes_shown _ _ _ _ shown taken within c.in-Ok.ensures.front c.in-Ok.ensures.end
    filled.0 filled.1 c.consume.ensures.bytes in
    let piece = c.piece_of.result in
    let long = length-take-le front.result shown front.ensures.within in (
      take front.result shown,
      front.ensures.front,
      c.in_ok-keep.ensures,
      (
        subst (Consumes _ _) (shown_parts shown front.result taken piece c.min.ensures
            front.ensures.within front.ensures.feed c.piece_of.ensures) moved.0,
        last_piece _ _ shown (take front.result shown) piece
            (subst (λ n. IsPiece n (length shown) piece) (sym long) c.piece_of.ensures)
            (omega (arith, long, front.ensures.within)) moved.1,
      ),
    )
