use Rattle.fdb_running_tests.proofs.sessions.two_sessions_of_one_of_each_role.Given as goal

abbrev pub ghosts-run_two-B-BookName : goal.ghosts-run_two-B-BookName
ghosts-run_two-B-BookName g a = record { cells = a.blank }

abbrev pub ghosts-run_two-B-ClusterName : goal.ghosts-run_two-B-ClusterName
ghosts-run_two-B-ClusterName g a = record { config = a.config.now }
