use Rattle.std.proofs.Common.{◌≡◌, take}
use Rattle.fdb_mutations.specs.Mutations.{effects}
use Rattle.fdb_txn.specs.rules.Stamped.{stamped_by}
use Rattle.fdb_check.proofs.run.apply.Given as goal

abbrev pub invariant-loop-mutation : goal.invariant-loop-mutation
invariant-loop-mutation l =
    l.map ≡ effects l.initial.map (stamped_by l.stamp.version l.stamp.place (take l.mutation-index l.mutations))
