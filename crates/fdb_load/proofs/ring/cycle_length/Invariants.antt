use Rattle.std.proofs.Common.{◌≡◌, ◌≢◌, ◌-◌, ◌<◌, ℕ, Some}
use Rattle.fdb_load.specs.Rings.{first_name, name_after}
use Rattle.fdb_load.proofs.ring.cycle_length.Given as goal

abbrev pub invariant-loop-steps : goal.invariant-loop-steps
invariant-loop-steps l = record {
  at : name_after l.pairs (l.steps - 1) ≡ Some l.at;
  away : (fewer : ℕ) → 0 < fewer → fewer < l.steps → name_after l.pairs fewer ≢ Some first_name;
}
