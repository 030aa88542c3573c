use Rattle.std.proofs.Common.{◌≡◌, ◌+◌, ◌≤◌, length, nat_lt}
use Rattle.std.specs.List.{filter}
use Rattle.fdb_interval.proofs.breakpoints.count_above.Given as goal

abbrev pub invariant-loop-version : goal.invariant-loop-version
invariant-loop-version l = record {
  bound : l.count + length l.version-iterator ≤ length l.initial.version-iterator;
  counted : l.count + length (filter (λ version. nat_lt l.floor version) l.version-iterator)
      ≡ length (filter (λ version. nat_lt l.floor version) l.initial.version-iterator);
}
