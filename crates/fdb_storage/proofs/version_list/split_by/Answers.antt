use Rattle.std.proofs.Common.{sym, subst, rules, List}
use Rattle.std.proofs.lemmas.List.Sorted.{IsPartitionPoint-from_clause}
use Rattle.fdb_storage.specs.declared.version_list.VersionedValue.{VersionedValue}
use Rattle.fdb_storage.specs.VersionLists.{AreAbove, AreUpTo}
use Rattle.fdb_storage.proofs.VersionSearchLemmas.{is_up_to, parted-by_version, parted}
use Rattle.fdb_storage.proofs.version_list.split_by.Goals as goal

pub returns-clause-through : goal.returns-clause-through
returns-clause-through c =
    subst (λ (older : List VersionedValue). AreUpTo c.args.version older) (sym c.split_at.ensures.front)
    (parted c.args.version c.args.values.now c.partition_point-count.result c.partition_point-count.ensures.bound
    (IsPartitionPoint-from_clause (is_up_to c.args.version) _ _ c.partition_point-count.ensures.partitioned
    (parted-by_version c.args.version c.args.values.now c.requires) (λ a r q k. search rules))).0

pub returns-clause-above : goal.returns-clause-above
returns-clause-above c =
    subst (λ (newer : List VersionedValue). AreAbove c.args.version newer) (sym c.split_at.ensures.back)
    (parted c.args.version c.args.values.now c.partition_point-count.result c.partition_point-count.ensures.bound
    (IsPartitionPoint-from_clause (is_up_to c.args.version) _ _ c.partition_point-count.ensures.partitioned
    (parted-by_version c.args.version c.args.values.now c.requires) (λ a r q k. search rules))).1
