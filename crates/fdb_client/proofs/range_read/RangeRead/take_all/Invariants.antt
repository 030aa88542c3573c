use Rattle.std.proofs.Common.{length}
use Rattle.fdb_mutations.specs.Pairs.{pairs_in}
use Rattle.fdb_client.specs.LeftAt.{left_at}
use Rattle.fdb_client.proofs.PagesLemmas.{ReadIs, left_over}
use Rattle.fdb_client.proofs.range_read.RangeRead.take_all.Given as goal

abbrev pub invariant-loop-more : goal.invariant-loop-more
invariant-loop-more g l =
    ReadIs (left_at l.self.own.now) (g.S.Snapshot.map l.snapshot) l.fn.progress.left l.self.reverse l.self.limit
    l.progress.given l.progress.left l.more

abbrev pub decreases-loop-more : goal.decreases-loop-more
decreases-loop-more g l =
    left_over l.more (length (pairs_in (g.S.Snapshot.map l.snapshot) l.progress.left l.self.reverse))
