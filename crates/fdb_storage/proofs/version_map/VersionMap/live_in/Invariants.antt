use Rattle.std.proofs.Common.{◌≡◌, ◌++◌}
use Rattle.fdb_storage.proofs.version_map.VersionMap.live_in.Given as goal

abbrev pub invariant-loop-key : goal.invariant-loop-key
invariant-loop-key l = l.keys.items ++ l.key-iterator ≡ l.initial.key-iterator
