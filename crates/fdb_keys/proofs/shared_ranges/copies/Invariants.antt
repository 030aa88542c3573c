use Rattle.std.proofs.Common.{◌≡◌, take}
use Rattle.fdb_keys.proofs.shared_ranges.copies.Given as goal

abbrev pub invariant-loop-range : goal.invariant-loop-range
invariant-loop-range l = l.made ≡ take l.range-index l.ranges
