use Rattle.std.proofs.Common.{◌≡◌}
use Rattle.fdb_storage.specs.VersionMaps.{HaveForgotten}
use Rattle.fdb_storage.proofs.version_map.VersionMap.trim_all.Given as goal

abbrev pub invariant-loop-key : goal.invariant-loop-key
invariant-loop-key l =
    record {
      forgotten : HaveForgotten l.floor l.initial.self.keys.entries l.self.keys.entries;
      live : l.self.live ≡ l.initial.self.live;
    }
