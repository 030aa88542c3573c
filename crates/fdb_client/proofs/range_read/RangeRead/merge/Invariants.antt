use Rattle.std.proofs.Common.{◌≡◌}
use Rattle.fdb_client.specs.OwnWalk.{IsAt, left_of}
use Rattle.fdb_client.proofs.PagesLemmas.{PagesSoFar}
use Rattle.fdb_client.proofs.range_read.RangeRead.merge.Given as goal

abbrev pub invariant-loop-key : goal.invariant-loop-key
invariant-loop-key l =
    PagesSoFar l.self.own.now l.page l.self.reverse l.self.limit l.key-index l.initial.given
    (left_of l.self.reverse l.initial.walk) l.given (left_of l.self.reverse l.walk)
    × IsAt l.self.own.now l.self.reverse l.walk
    × (l.walk.range.now ≡ l.initial.walk.range.now)
