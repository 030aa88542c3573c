use Rattle.std.proofs.Common.{◌≡◌, ◌+◌, ◌-◌, ◌^◌, ◌≤◌, min, length, List}
use Rattle.std.specs.List.{sum_by}
use Rattle.fdb_storage.specs.declared.version_list.VersionedValue.{VersionedValue}
use Rattle.fdb_storage.specs.VersionMaps.{versions_of}
use Rattle.fdb_storage.proofs.version_map.VersionMap.versions.Given as goal

abbrev pub invariant-loop-versions : goal.invariant-loop-versions
invariant-loop-versions l =
    (l.count ≤ 2 ^ 64 - 1)
    × (min (2 ^ 64 - 1)
    (l.count + sum_by (λ (versions : List VersionedValue). length versions) l.versions-iterator)
    ≡ min (2 ^ 64 - 1) (versions_of l.self.keys.entries))
