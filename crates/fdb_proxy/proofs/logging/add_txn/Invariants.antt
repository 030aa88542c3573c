use Rattle.std.proofs.Common.{◌≡◌, ◌++◌, map, take}
use Rattle.fdb_txn.specs.rules.Messages.{at_place}
use Rattle.fdb_txn.specs.rules.Stamped.{stamped_by}
use Rattle.fdb_storage.specs.LogMessages.{tagged}
use Rattle.fdb_proxy.proofs.logging.add_txn.Given as goal

abbrev pub invariant-loop-mutation : goal.invariant-loop-mutation
invariant-loop-mutation l =
    l.body ≡ l.initial.body ++ map (tagged l.shards)
    (at_place l.place (stamped_by l.stamp.version l.stamp.place (take l.mutation-index l.txn.mutations)))
