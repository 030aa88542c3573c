use Rattle.std.proofs.Common.{◌≡◌}
use Rattle.fdb_storage.specs.VersionMaps.{found}
use Rattle.fdb_storage.proofs.version_map.VersionMap.look_through.Given as goal

abbrev pub invariant-loop-point : goal.invariant-loop-point
invariant-loop-point l = found l.point-iterator l.key ≡ found l.self.keys.entries l.key
