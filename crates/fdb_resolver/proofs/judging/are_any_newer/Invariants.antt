use Rattle.std.proofs.Common.{◌↔◌}
use Rattle.std.specs.Slice.Iter.{iter_rest}
use Rattle.fdb_interval.specs.Versions.{version_at}
use Rattle.fdb_resolver.specs.Rule.{HasNewer}
use Rattle.fdb_resolver.proofs.judging.are_any_newer.Given as goal

-- what is left of the set decides as the whole
abbrev pub invariant-loop-range : goal.invariant-loop-range
invariant-loop-range l =
    HasNewer (version_at l.versions) (iter_rest l.range-iterator) l.version ↔ HasNewer (version_at l.versions) l.reads
    l.version
