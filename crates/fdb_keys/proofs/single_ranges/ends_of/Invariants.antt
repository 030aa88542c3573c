use Rattle.std.proofs.Common.{◌≡◌, take}
use Rattle.fdb_keys.specs.Singles.{ends_of}
use Rattle.fdb_keys.proofs.single_ranges.ends_of.Given as goal

abbrev pub invariant-loop-key : goal.invariant-loop-key
invariant-loop-key l = l.ends.items ≡ ends_of (take l.key-index l.keys)
