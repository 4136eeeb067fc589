use Rattle.std.proofs.Common.{rules}
use Rattle.records.proofs.fitting.fits_reply.Goals as goal

pub returns-in-Entry-clause-fits : goal.returns-in-Entry-clause-fits
returns-in-Entry-clause-fits c = search rules

pub returns-in-Entry-clause-short : goal.returns-in-Entry-clause-short
returns-in-Entry-clause-short c = search rules
