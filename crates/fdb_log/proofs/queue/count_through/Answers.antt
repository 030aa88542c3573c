use Rattle.std.proofs.Common.{◌≤◌, length, rules}
use Rattle.std.proofs.lemmas.List.Sorted.{IsPartitionPoint-from_clause}
use Rattle.fdb_log.proofs.NextLemmas.{is_through, parted-by_version, through-counted}
use Rattle.fdb_log.proofs.queue.count_through.Goals as goal

pub returns-clause-count : goal.returns-clause-count
returns-clause-count c low rising =
    let within : c.partition_point.result ≤ length c.args.messages.now.items = search rules in
    through-counted c.args.version c.partition_point.result c.args.messages.now.items within
    (IsPartitionPoint-from_clause (is_through c.args.version) _ _ c.partition_point.ensures.partitioned
    (parted-by_version low c.args.version c.args.messages.now.items rising) (λ a r q k. search rules))
