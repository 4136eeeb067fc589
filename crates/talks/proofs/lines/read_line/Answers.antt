use Rattle.std.proofs.Common.{◌≡◌, ◌≢◌, ◌∙◌, List, ℕ, ◌++◌, take, ap, subst, rules}
use Rattle.std.proofs.Common.{arith, append_assoc}
use Rattle.std.proofs.Common.{length, length-take}
use Rattle.std.proofs.lemmas.List.{append-nil}
use Rattle.std.specs.Io.KnownBytes.{Consumes}
use Rattle.std.proofs.lemmas.List.Elements.{All-append}
use Rattle.std.proofs.KnownBytes.{Consumes-trans}
use Rattle.talks.specs.declared.lines.Piece.{Piece}
use Rattle.talks.specs.Lines.{Takes}
use Rattle.talks.proofs.LineLemmas.{take_twice, finds}
use Rattle.talks.proofs.lines.read_line.Goals as goal

-- what is kept of a line with bytes more
kept_more : (old line done bs new : List ℕ) → line ≡ take 4096 (old ++ done) →
    new ≡ take 4096 (line ++ bs) → new ≡ take 4096 (old ++ (done ++ bs))
kept_more old line done bs new was is =
    is ∙ ap (λ l. take 4096 (l ++ bs)) was ∙ take_twice 4096 (old ++ done) bs
    ∙ ap (take 4096) (append_assoc old done bs)

pub take_piece-requires : goal.take_piece-requires
take_piece-requires g c =
    let kept = c.loop.invariant in
    omega (arith, ap length kept.2, length-take 4096 (c.args.line.now.items ++ kept.0))

pub returns-in-Some : goal.returns-in-Some
returns-in-Some g c begun begins =
    let kept = c.loop.invariant in
    let old = c.args.line.now.items in
    let piece = c.in_ok-take_piece.ensures in
    finds 4095 _ _ _ begun kept.0 piece.0 c.take_piece.new.line.items c.in_ok-take_piece.field-0
    c.in-Some.found c.found_behind.new.line.items begins.0 kept.1 piece.1
    (kept_more old c.loop.line.items kept.0 piece.0 _ kept.2 piece.2
    ∙ ap (λ l. take 4096 (l ++ (kept.0 ++ piece.0))) begins.1
    ∙ take_twice 4096 begun (kept.0 ++ piece.0)) kept.3
    piece.3 c.in-Some.ensures.some

pub loop-preserved : goal.loop-preserved
loop-preserved g c =
    let kept = c.loop.invariant in
    let old = c.args.line.now.items in
    let piece = c.in_ok-take_piece.ensures in
    let none : (c.in_ok-take_piece.field-0 ≡ Piece.Part) ×
    (c.found_behind.new.line ≡ c.take_piece.new.line) = search rules in
    let took = subst (Takes _ _ piece.0) none.0 piece.3 in (
      kept.0 ++ piece.0,
      All-append (λ x. x ≢ 10) kept.0 piece.0 kept.1 piece.1,
      ap (λ v. v.items) none.1
          ∙ kept_more old c.loop.line.items kept.0 piece.0 _ kept.2 piece.2,
      Consumes-trans _ _ _ kept.0 piece.0 kept.3 (subst (Consumes _ _) (append-nil piece.0) took.0),
    )
