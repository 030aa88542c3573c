use Rattle.fdb_tests.proofs.books.a_front_goes_on_by_itself.Given as goal

abbrev pub ghosts-fill_by_one_front : goal.ghosts-fill_by_one_front
ghosts-fill_by_one_front g a = record { cells = a.blank }
