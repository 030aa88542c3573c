use Rattle.fdb_layers.proofs.QueueBooksLemmas.{queue_books_keep_their_items}
use Rattle.fdb_layers.proofs.laws.queue_books_keep_their_items.Goals as goal

pub returns : goal.returns
returns c = queue_books_keep_their_items
