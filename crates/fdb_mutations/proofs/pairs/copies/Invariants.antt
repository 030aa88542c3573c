use Rattle.std.proofs.Common.{◌≡◌, take}
use Rattle.fdb_mutations.specs.Lent.{lent_pairs}
use Rattle.fdb_mutations.proofs.pairs.copies.Given as goal

abbrev pub invariant-loop-key : goal.invariant-loop-key
invariant-loop-key l = l.items ≡ lent_pairs (take l.key-index l.pairs)
