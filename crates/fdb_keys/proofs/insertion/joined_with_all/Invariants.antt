use Rattle.std.proofs.Common.{◌≡◌, drop}
use Rattle.std.specs.List.{fold}
use Rattle.fdb_keys.specs.Insertion.{joined_range}
use Rattle.fdb_keys.proofs.insertion.joined_with_all.Given as goal

abbrev pub invariant-loop-other : goal.invariant-loop-other
invariant-loop-other l = fold joined_range l.joined (drop l.other-index l.others) ≡ fold joined_range l.range l.others
