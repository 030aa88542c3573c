use Rattle.std.proofs.Common.{rules}
use Rattle.std.proofs.lemmas.List.Sorted.{IsPartitionPoint-from_clause}
use Rattle.fdb_keys.proofs.PlaceLemmas.{begins_by, begins_rise, count_from_point}
use Rattle.fdb_keys.proofs.insertion.count_reached.Goals as goal

pub returns-clause-count : goal.returns-clause-count
returns-clause-count c =
    let parted = begins_rise c.args.point.now c.args.ranges.now c.requires in
    count_from_point (begins_by c.args.point.now) c.args.ranges.now c.partition_point.result
    c.partition_point.ensures.bound
    (IsPartitionPoint-from_clause (begins_by c.args.point.now) _ _ c.partition_point.ensures.partitioned parted
    (λ a r q k. search rules))
