use Rattle.std.proofs.Common.{take}
use Rattle.fdb_storage.specs.Changes.{HaveChanged, cleared_at}
use Rattle.fdb_storage.specs.VersionMaps.{HaveLive}
use Rattle.fdb_storage.proofs.applying.clear_range.Given as goal

abbrev pub invariant-loop-key : goal.invariant-loop-key
invariant-loop-key l =
    record {
      changed : HaveChanged l.version (cleared_at (take l.key-index l.key-items)) l.initial.map.keys.entries
          l.map.keys.entries;
      live : HaveLive l.map.keys.entries l.map.live.keys;
    }
