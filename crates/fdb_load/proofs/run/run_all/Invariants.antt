use Rattle.std.proofs.Common.{◌≡◌, drop}
use Rattle.fdb_load.specs.Runs.{run_from}
use Rattle.fdb_load.proofs.run.run_all.Given as goal

abbrev pub invariant-loop-place : goal.invariant-loop-place
invariant-loop-place l = run_from l.map l.entries (drop l.place-index l.places) ≡ run_from l.initial.map l.entries
    l.places
