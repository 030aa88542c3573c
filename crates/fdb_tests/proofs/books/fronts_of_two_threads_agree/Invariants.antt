use Rattle.fdb_tests.proofs.books.fronts_of_two_threads_agree.Given as goal

abbrev pub ghosts-race_for_cells : goal.ghosts-race_for_cells
ghosts-race_for_cells g a = record { cells = a.blank }
