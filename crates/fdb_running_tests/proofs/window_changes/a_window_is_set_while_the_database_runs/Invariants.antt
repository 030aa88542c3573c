use Rattle.fdb_running_tests.proofs.window_changes.a_window_is_set_while_the_database_runs.Given as goal

abbrev pub ghosts-use_windows-B-BookName : goal.ghosts-use_windows-B-BookName
ghosts-use_windows-B-BookName g a = record { cells = a.blank }

abbrev pub ghosts-use_windows-B-ClusterName : goal.ghosts-use_windows-B-ClusterName
ghosts-use_windows-B-ClusterName g a = record { config = a.config.now }
