-- What a sound world lends is fit for a check.
use Rattle.std.proofs.Common.{suc, length}
use Rattle.std.specs.List.{AllByRecursion}
use Rattle.fdb_txn.specs.book.History.{IsBook, IsSealed}
use Rattle.fdb_txn.proofs.Exports.{books_are_entries}
use Rattle.fdb_machine.specs.invariant.Invariant.{Invariant}
use Rattle.fdb_machine.specs.machine.Machine.{Machine}
use Rattle.fdb_machine.proofs.invariant.OnceLaws.{ids-once}

-- the entries are a book of sealed transactions
pub book-is : (m : Machine) → Invariant m
    → IsBook (suc (length m.config.resolver_splits)) m.book × AllByRecursion IsSealed m.book
book-is m sound = (books_are_entries (suc (length m.config.resolver_splits)) m.book).1
    (sound.entries, ids-once m sound.once, sound.horizons)
