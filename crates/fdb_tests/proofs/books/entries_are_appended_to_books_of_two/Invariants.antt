use Rattle.fdb_tests.proofs.books.entries_are_appended_to_books_of_two.Given as goal

abbrev pub ghosts-fill_book : goal.ghosts-fill_book
ghosts-fill_book g a = record { cells = a.blank }
