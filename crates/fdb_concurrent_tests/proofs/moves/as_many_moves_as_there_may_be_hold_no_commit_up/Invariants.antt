use Rattle.fdb_concurrent_tests.proofs.moves.as_many_moves_as_there_may_be_hold_no_commit_up.Given as goal

abbrev pub ghosts-fill_moves-B-BookName : goal.ghosts-fill_moves-B-BookName
ghosts-fill_moves-B-BookName g a = record { cells = a.blank }

abbrev pub ghosts-fill_moves-B-ClusterName : goal.ghosts-fill_moves-B-ClusterName
ghosts-fill_moves-B-ClusterName g a = record { config = a.config.now }
