use Rattle.std.proofs.Common.{◌≡◌}
use Rattle.fdb_storage.specs.VersionMaps.{HaveForgotten}
use Rattle.fdb_storage.proofs.version_map.VersionMap.forget.Given as goal

abbrev pub invariant-loop-count : goal.invariant-loop-count
invariant-loop-count l =
    record {
      forgotten : HaveForgotten l.floor l.initial.self.keys.entries l.self.keys.entries;
      live : l.self.live ≡ l.initial.self.live;
    }
