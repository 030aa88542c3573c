use Rattle.std.proofs.Common.{◌≡◌, length}
use Rattle.fdb_mutations.specs.Maps.{Map}
use Rattle.fdb_check.specs.Running.{map_after}
use Rattle.fdb_check.proofs.run.run_places.Given as goal

abbrev pub invariant-loop-place : goal.invariant-loop-place
invariant-loop-place l = (base : Map) → length l.batch ≡ length l.outcomes
    → l.initial.map ≡ map_after base l.batch l.outcomes l.from → l.map ≡ map_after base l.batch l.outcomes l.place
