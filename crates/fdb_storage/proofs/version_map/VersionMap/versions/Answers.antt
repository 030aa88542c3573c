use Rattle.std.proofs.Common.{◌≡◌, ap, length, List, arith}
use Rattle.std.specs.List.{sum_by}
use Rattle.fdb_storage.specs.declared.version_list.VersionedValue.{VersionedValue}
use Rattle.fdb_storage.proofs.version_map.VersionMap.versions.Goals as goal

pub returns : goal.returns
returns c =
    let none : sum_by (λ (versions : List VersionedValue). length versions) c.loop-versions.versions-iterator ≡ 0 =
    ap (sum_by (λ (versions : List VersionedValue). length versions)) c.in-None.ensures.steps.0 in
    let few = c.loop-versions.invariant.0 in
    let all = c.loop-versions.invariant.1 in
    omega (arith, none, few, all)
