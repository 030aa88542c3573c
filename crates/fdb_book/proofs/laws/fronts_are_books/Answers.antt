use Rattle.fdb_txn.specs.book.History.{IsBook}
use Rattle.fdb_book.proofs.laws.fronts_are_books.Goals as goal

pub returns : goal.returns
returns c = λ resolvers book linked moves.
    let is : IsBook resolvers book =
    record {
      linked = linked.linked;
      horizons = linked.horizons;
      below = linked.below;
      reads = linked.reads;
      moves = moves;
      ids = linked.ids;
    } in
    (is, ((c.books_are_entries.ensures resolvers book).0 (is, linked.each_sealed)).0)
