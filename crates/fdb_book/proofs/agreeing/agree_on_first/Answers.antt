use Rattle.std.proofs.Common.{arith}
use Rattle.fdb_book.proofs.FactLemmas.{known-of, same-shown}
use Rattle.fdb_book.proofs.agreeing.agree_on_first.Goals as goal

pub agree_at-requires-clause-own : goal.agree_at-requires-clause-own
agree_at-requires-clause-own g c =
    known-of _ _ _ _ _ _ _ c.front.invariant.same c.front.invariant.same c.front.invariant.first c.front.view_is
    (search (arith, c.loop-index-test.true, c.requires.within.0)) (rw c.deref.ensures at c.index.ensures)

pub agree_at-requires-clause-others : goal.agree_at-requires-clause-others
agree_at-requires-clause-others g c =
    known-of _ _ _ _ _ _ _ c.other.invariant.same c.front.invariant.same c.other.invariant.first c.other.view_is
    (search (arith, c.loop-index-test.true, c.requires.within.1)) (rw c.deref.ensures at c.index.ensures)

pub loop-index-preserved : goal.loop-index-preserved
loop-index-preserved g c =
    same-shown _ _ _ _ _ c.front.view_is c.other.view_is
    (search (arith, c.loop-index-test.true, c.requires.within.0))
    c.agree_at.ensures c.loop-index.invariant
