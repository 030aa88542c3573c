use Rattle.std.proofs.Common.{◌≡◌, ◌++◌, drop}
use Rattle.fdb_owners.specs.Learning.{fresh_of}
use Rattle.fdb_owners.proofs.learning.list_fresh.Given as goal

abbrev pub invariant-loop-one_move : goal.invariant-loop-one_move
invariant-loop-one_move l =
    l.fresh ++ fresh_of l.version (drop l.one_move-index l.moves) l.breaks.entries
    ≡ fresh_of l.version l.moves l.breaks.entries
