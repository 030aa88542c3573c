use Rattle.std.proofs.Common.{[], rules}
use Rattle.std.proofs.lemmas.List.Sorted.{IsPartitionPoint-from_clause}
use Rattle.fdb_txn.proofs.rules.SplitsLemmas.{reaches, reached-first, first_owner-reached}
use Rattle.fdb_txn.proofs.splits.first_owner.Goals as goal

pub returns-clause-number : goal.returns-clause-number
returns-clause-number c =
    first_owner-reached c.args.text.now c.args.splits.now c.partition_point.result c.partition_point.ensures.bound
    (IsPartitionPoint-from_clause (reaches c.args.text.now) _ _ c.partition_point.ensures.partitioned
    (reached-first c.args.text.now [] c.args.splits.now c.requires) (λ a r q k. search rules))
