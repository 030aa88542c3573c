use Rattle.fdb_sequencer.proofs.TicketLemmas.{indices_count_up}
use Rattle.fdb_sequencer.proofs.BookLemmas.{tickets_make_a_book, first_tickets_are_a_book}
use Rattle.fdb_sequencer.proofs.laws.accepted_tickets_make_a_book.Goals as goal

pub returns-clause-indices : goal.returns-clause-indices
returns-clause-indices c = indices_count_up

pub returns-clause-entries : goal.returns-clause-entries
returns-clause-entries c = tickets_make_a_book

pub returns-clause-book : goal.returns-clause-book
returns-clause-book c = first_tickets_are_a_book
