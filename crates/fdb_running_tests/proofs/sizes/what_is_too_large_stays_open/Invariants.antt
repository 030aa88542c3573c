use Rattle.fdb_running_tests.proofs.sizes.what_is_too_large_stays_open.Given as goal

abbrev pub ghosts-use_sizes-B-BookName : goal.ghosts-use_sizes-B-BookName
ghosts-use_sizes-B-BookName g a = record { cells = a.blank }

abbrev pub ghosts-use_sizes-B-ClusterName : goal.ghosts-use_sizes-B-ClusterName
ghosts-use_sizes-B-ClusterName g a = record { config = a.config.now }
