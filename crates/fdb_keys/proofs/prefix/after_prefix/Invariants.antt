use Rattle.std.proofs.Common.{◌≡◌, false, length}
use Rattle.fdb_keys.specs.Prefixes.{after_prefix}
use Rattle.fdb_keys.specs.Texts.{begins_with_ff}
use Rattle.fdb_keys.proofs.prefix.after_prefix.Given as goal

abbrev pub invariant-loop-kept : goal.invariant-loop-kept
invariant-loop-kept l = (begins_with_ff l.kept ≡ false) × (after_prefix l.kept ≡ after_prefix l.prefix)

abbrev pub decreases-loop-kept : goal.decreases-loop-kept
decreases-loop-kept l = length l.kept
