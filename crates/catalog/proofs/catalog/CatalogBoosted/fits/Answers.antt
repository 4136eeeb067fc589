use Rattle.catalog.proofs.Whole.{answers_shelf, answers_whole}
use Rattle.catalog.proofs.catalog.CatalogBoosted.fits.Goals as goal

pub returns : goal.returns
returns c = (
  λ is. answers_whole c.self.inside.names c.self.inside.shelves c.self.invariant c.args.self.now
      c.self.view_is c.args.at c.of.result.now c.of.ensures c.args.call.now c.args.reply.now
      (c.fits.ensures.0 is),
  λ h. c.fits.ensures.1 (answers_shelf c.self.inside.names c.self.inside.shelves c.self.invariant
      c.args.self.now c.self.view_is c.args.at c.of.result.now c.of.ensures c.args.call.now
      c.args.reply.now h),
)
