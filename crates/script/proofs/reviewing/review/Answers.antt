use Rattle.std.proofs.Common.{◌∷◌, arith, length, length-append, ap, rules}
use Rattle.script.specs.Scripts.{lines_of}
use Rattle.script.proofs.ReviewLemmas.{reviews_more, reviews_last}
use Rattle.script.proofs.reviewing.review.Goals as goal

pub loop-line-preserved : goal.loop-line-preserved
loop-line-preserved c =
    record {
      reviews = reviews_more c.loop-line.number c.loop-line.rest.now c.in-Some.line.now
          c.in-Some.behind.now _ _ _ _ (lines_of c.args.script.now) c.in-Some.ensures.some
          c.in-Some.ensures.first c.in_ok-review_line.ensures.reviews
          c.loop-line.invariant.reviews;
      count = omega (
        arith,
        ap length c.in-Some.ensures.some,
        length-append c.in-Some.line.now (10 ∷ c.in-Some.behind.now),
      );
      fewer = omega (arith, c.in_ok-review_line.ensures.fewer);
    }

pub returns : goal.returns
returns c = reviews_last c.loop-line.number c.loop-line.rest.now _ _ _ _
    (lines_of c.args.script.now) c.in_default.ensures.none c.in_ok-review_line-2.ensures.reviews
    c.loop-line.invariant.reviews

pub loop-line-init : goal.loop-line-init
loop-line-init c = search rules
