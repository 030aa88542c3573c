use Rattle.std.proofs.Common.{[], rules}
use Rattle.std.proofs.lemmas.List.Sorted.{IsPartitionPoint-from_clause}
use Rattle.fdb_owners.proofs.ChangesLemmas.{count_from}
use Rattle.fdb_owners.proofs.PartsLemmas.{below, rising-parted}
use Rattle.fdb_owners.proofs.parts.count_below.Goals as goal

pub returns-clause-count : goal.returns-clause-count
returns-clause-count c =
    let parted = rising-parted c.args.resolver c.args.parts.now c.requires in
    count_from (record { resolver = 0; ranges = [] }) (below c.args.resolver) c.args.parts.now c.partition_point.result
    c.partition_point.ensures.bound
    (IsPartitionPoint-from_clause (below c.args.resolver) _ _ c.partition_point.ensures.partitioned parted
    (λ a r q k. search rules))
