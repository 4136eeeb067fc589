use Rattle.std.proofs.Common.{rules}
use Rattle.std.proofs.lemmas.List.Sorted.{IsPartitionPoint-from_clause}
use Rattle.abstract_locks.specs.Segments.{begins_to}
use Rattle.abstract_locks.proofs.Reaching.{parted}
use Rattle.abstract_locks.proofs.needs.count_to.Goals as goal

pub returns-clause-parted : goal.returns-clause-parted
returns-clause-parted c =
    IsPartitionPoint-from_clause (begins_to c.args.key) c.args.segments.now
    c.partition_point.result c.partition_point.ensures.partitioned
    (parted c.args.key c.args.segments.now c.requires) (λ a r f' k. search rules)
