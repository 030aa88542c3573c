use Rattle.std.proofs.Common.{◌≡◌, ◌+◌, ◌≤◌, length}
use Rattle.fdb_mutations.specs.Pairs.{pairs_within, pairs_beside}
use Rattle.fdb_mutations.proofs.pairs.take_each.Given as goal

abbrev pub invariant-loop-count : goal.invariant-loop-count
invariant-loop-count l =
    (pairs_beside l.range l.pairs.entries ≡ pairs_beside l.range l.initial.pairs.entries)
    × (length (pairs_within l.range l.pairs.entries) + l._count ≤ l._count-end)
