use Rattle.fdb_concurrent_tests.proofs.moves.moves_stand_in_the_book_with_the_next_entry.Given as goal

abbrev pub ghosts-run_moves-B-BookName : goal.ghosts-run_moves-B-BookName
ghosts-run_moves-B-BookName g a = record { cells = a.blank }

abbrev pub ghosts-run_moves-B-ClusterName : goal.ghosts-run_moves-B-ClusterName
ghosts-run_moves-B-ClusterName g a = record { config = a.config.now }
