use Rattle.std.proofs.Common.{arith}
use Rattle.calls.proofs.QuotaLaws.{quota_within}
use Rattle.boosted.proofs.quotas.QuotasColBoosted.run.Goals as goal

pub run-requires-clause-fits : goal.run-requires-clause-fits
run-requires-clause-fits c =
    let room = c.requires.room in
    λ k. let reached = quota_within c.args.self.now room.0 c.args.call.now c.args.reply.now room.1
    c.requires.can k in
    let few = room.2 in omega arith
