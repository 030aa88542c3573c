use Rattle.std.proofs.Common.{◌≡◌, take}
use Rattle.fdb_sequencer.proofs.moves.shares_of.Given as goal

abbrev pub invariant-loop-one : goal.invariant-loop-one
invariant-loop-one l = l.shares ≡ take l.one-index l.dated
