use Rattle.std.proofs.Common.{sym, true≢false}
use Rattle.calls.specs.Contents.{Answers}
use Rattle.catalog.specs.Holdings.{content_of}
use Rattle.catalog.proofs.Places.{of_it, on_it, nothing_on}
use Rattle.catalog.proofs.shelf.CatalogShelfBoosted.fits.Goals as goal

pub returns-in-Some : goal.returns-in-Some
returns-in-Some c = (
  λ is. on_it c.args.self.now c.args.at (content_of c.in-Some.holding.now) c.in-Some.ensures
      (λ x. Answers x c.args.call.now c.args.reply.now) (c.fits.ensures.0 is),
  λ h. c.fits.ensures.1 (of_it c.args.self.now c.args.at (content_of c.in-Some.holding.now)
      c.in-Some.ensures (λ x. Answers x c.args.call.now c.args.reply.now) h),
)

pub returns-in-None : goal.returns-in-None
returns-in-None c = (
  λ is. absurd (true≢false (sym is)),
  λ h. absurd (nothing_on (λ x. Answers x c.args.call.now c.args.reply.now) c.args.self.now
      c.args.at c.in-None.ensures h),
)
