use Rattle.std.proofs.Common.{◌≡◌, drop, map}
use Rattle.fdb_mutations.specs.Mutations.{effects}
use Rattle.fdb_mutations.specs.Stamping.{stamped}
use Rattle.fdb_mutations.specs.Stamps.{stamp_bytes}
use Rattle.fdb_load.proofs.run.run.Given as goal

abbrev pub invariant-loop-mutation : goal.invariant-loop-mutation
invariant-loop-mutation l =
    effects l.map (map (stamped (stamp_bytes l.stamp.version l.stamp.place)) (drop l.mutation-index l.mutations))
    ≡ effects l.initial.map (map (stamped (stamp_bytes l.stamp.version l.stamp.place)) l.mutations)
