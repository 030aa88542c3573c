use Rattle.fdb_running_tests.proofs.commits.start_on.Given as goal

abbrev pub ghosts-start_code-B-BookName : goal.ghosts-start_code-B-BookName
ghosts-start_code-B-BookName g a = record { cells = a.blank }

abbrev pub ghosts-start_code-B-ClusterName : goal.ghosts-start_code-B-ClusterName
ghosts-start_code-B-ClusterName g a = record { config = a.config.now }
