use Rattle.std.proofs.Common.{rules}
use Rattle.std.proofs.lemmas.List.Sorted.{IsPartitionPoint-from_clause}
use Rattle.abstract_locks.specs.Segments.{begins_by}
use Rattle.abstract_locks.proofs.Placing.{parted}
use Rattle.abstract_locks.proofs.needs.count_before.Goals as goal

pub returns-clause-parted : goal.returns-clause-parted
returns-clause-parted c =
    IsPartitionPoint-from_clause (begins_by c.args.hold.now) c.args.segments.now
    c.partition_point.result c.partition_point.ensures.partitioned
    (parted c.args.segments.now c.args.hold.now c.requires) (λ a r f' k. search rules)
