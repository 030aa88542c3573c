use Rattle.std.proofs.Common.{nat_le, rules, arith}
use Rattle.std.proofs.lemmas.List.Sorted.{IsPartitionPoint-from_clause, IsPartitionedBy-leb}
use Rattle.fdb_txn.specs.declared.entry.Entry.{Entry}
use Rattle.fdb_check.proofs.SpotLemmas.{versions-rise, counted}
use Rattle.fdb_check.proofs.visits.entries_through.Goals as goal

pub returns-clause-value : goal.returns-clause-value
returns-clause-value c resolvers entries =
    let book = c.args.book.now in
    let parted = IsPartitionedBy-leb (λ (entry : Entry). entry.version) book c.args.version
    (versions-rise resolvers 0 book entries) in
    let point = IsPartitionPoint-from_clause (λ (entry : Entry). nat_le entry.version c.args.version) _ _
    c.partition_point.ensures.partitioned parted (λ a r q k. search rules) in
    counted (λ (entry : Entry). nat_le entry.version c.args.version) book c.partition_point.result
    c.partition_point.ensures.bound (λ k d before. point.0 k d (omega arith) before) point.1
