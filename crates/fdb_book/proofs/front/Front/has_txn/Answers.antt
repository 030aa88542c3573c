use Rattle.std.proofs.Common.{◌∙◌, sym}
use Rattle.fdb_book.proofs.IdLemmas.{named-here, named-past}
use Rattle.fdb_book.proofs.front.Front.has_txn.Goals as goal

pub returns-then-has_id : goal.returns-then-has_id
returns-then-has_id g c =
    sym (named-here c.args.id c.args.self.now c.loop-index.index c.entry_at.result.now c.entry_at.ensures
    c.loop-index.invariant (rw c.as_slice.ensures.places at (sym c.has_id.ensures ∙ c.if-has_id.true)))

pub loop-index-preserved : goal.loop-index-preserved
loop-index-preserved g c =
    named-past c.args.id c.args.self.now c.loop-index.index c.entry_at.result.now c.entry_at.ensures
    c.loop-index.invariant (rw c.as_slice.ensures.places at (sym c.has_id.ensures ∙ c.if-has_id.false))
