use Rattle.fdb_machine.proofs.readings.TraceReadings.{traces_tell_books, entries_answered_once}
use Rattle.fdb_machine.proofs.laws.entries_of_traces_are_books.Goals as goal

pub returns : goal.returns
returns c = record { books = traces_tell_books; answered = entries_answered_once }
