use Rattle.fdb_running_tests.proofs.windows.commits_of_what_was_read_too_long_ago.Given as goal

abbrev pub ghosts-use_latenesses-B-BookName : goal.ghosts-use_latenesses-B-BookName
ghosts-use_latenesses-B-BookName g a = record { cells = a.blank }

abbrev pub ghosts-use_latenesses-B-ClusterName : goal.ghosts-use_latenesses-B-ClusterName
ghosts-use_latenesses-B-ClusterName g a = record { config = a.config.now }
