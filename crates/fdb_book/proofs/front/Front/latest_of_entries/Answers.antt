use Rattle.std.proofs.Common.{sym, subst, List, take}
use Rattle.fdb_txn.specs.book.Transactions.{Transaction}
use Rattle.fdb_book.specs.Ids.{AreTaken, Covers}
use Rattle.fdb_book.proofs.FactLemmas.{take-found}
use Rattle.fdb_book.proofs.IdLemmas.{covers-more}
use Rattle.fdb_book.proofs.front.Front.latest_of_entries.Goals as goal

pub loop-index-preserved : goal.loop-index-preserved
loop-index-preserved g c =
    let book = c.args.self.now in
    let i = c.loop-index.index in
    let entry = c.entry_at.result.now in
    let after = c.in_ok-latest.field-0.0 in
    subst (Covers after) (sym (take-found book i entry c.entry_at.ensures))
    (covers-more c.loop-index.latest after (take i book) entry c.loop-index.invariant
    (subst (λ (batch : List Transaction). AreTaken c.loop-index.latest batch after) c.as_slice-batch.ensures.places
    c.in_ok-latest.ensures.taken))
