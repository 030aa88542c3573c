use Rattle.fdb_owners.proofs.BookLemmas.{new_goes_on, learning_goes_on, expiring_goes_on, owned_by_the_book}
use Rattle.fdb_owners.proofs.laws.owners_are_by_the_book.Goals as goal

pub returns : goal.returns
returns c = record
    { new = new_goes_on; learning = learning_goes_on; expiring = expiring_goes_on; owned = owned_by_the_book }
