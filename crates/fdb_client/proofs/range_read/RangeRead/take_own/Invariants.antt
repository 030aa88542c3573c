use Rattle.std.proofs.Common.{◌≡◌, length}
use Rattle.std.specs.Option.{option_copied}
use Rattle.fdb_client.specs.OwnWalk.{IsAt, left_of, to_come}
use Rattle.fdb_client.proofs.MergingLemmas.{OwnSoFar}
use Rattle.fdb_client.proofs.range_read.RangeRead.take_own.Given as goal

abbrev pub invariant-loop-walk : goal.invariant-loop-walk
invariant-loop-walk l =
    OwnSoFar l.self.own.now l.self.reverse l.self.limit (option_copied l.next) l.initial.given
    (left_of l.self.reverse l.initial.walk) l.given (left_of l.self.reverse l.walk)
    × IsAt l.self.own.now l.self.reverse l.walk
    × (l.walk.range.now ≡ l.initial.walk.range.now)

abbrev pub decreases-loop-walk : goal.decreases-loop-walk
decreases-loop-walk l = length (to_come l.self.reverse l.walk)
