use Rattle.std.proofs.Common.{rules}
use Rattle.records.proofs.fitting.fits_call.Goals as goal

pub returns-in-Put-clause-fits : goal.returns-in-Put-clause-fits
returns-in-Put-clause-fits c = search rules

pub returns-in-Put-clause-short : goal.returns-in-Put-clause-short
returns-in-Put-clause-short c = search rules
