use Rattle.fdb_concurrent_tests.proofs.closings.a_database_is_closed_while_it_commits.Given as goal

abbrev pub ghosts-close_in_the_middle-B-BookName : goal.ghosts-close_in_the_middle-B-BookName
ghosts-close_in_the_middle-B-BookName g a = record { cells = a.blank }

abbrev pub ghosts-close_in_the_middle-B-ClusterName : goal.ghosts-close_in_the_middle-B-ClusterName
ghosts-close_in_the_middle-B-ClusterName g a = record { config = a.config.now }
