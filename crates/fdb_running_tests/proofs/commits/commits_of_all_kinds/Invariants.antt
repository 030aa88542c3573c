use Rattle.fdb_running_tests.proofs.commits.commits_of_all_kinds.Given as goal

abbrev pub ghosts-use_kinds-B-BookName : goal.ghosts-use_kinds-B-BookName
ghosts-use_kinds-B-BookName g a = record { cells = a.blank }

abbrev pub ghosts-use_kinds-B-ClusterName : goal.ghosts-use_kinds-B-ClusterName
ghosts-use_kinds-B-ClusterName g a = record { config = a.config.now }
