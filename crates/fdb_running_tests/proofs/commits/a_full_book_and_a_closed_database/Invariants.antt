use Rattle.fdb_running_tests.proofs.commits.a_full_book_and_a_closed_database.Given as goal

abbrev pub ghosts-fill_book-B-BookName : goal.ghosts-fill_book-B-BookName
ghosts-fill_book-B-BookName g a = record { cells = a.blank }

abbrev pub ghosts-fill_book-B-ClusterName : goal.ghosts-fill_book-B-ClusterName
ghosts-fill_book-B-ClusterName g a = record { config = a.config.now }
