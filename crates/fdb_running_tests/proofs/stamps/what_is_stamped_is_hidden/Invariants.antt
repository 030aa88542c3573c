use Rattle.fdb_running_tests.proofs.stamps.what_is_stamped_is_hidden.Given as goal

abbrev pub ghosts-use_own-B-BookName : goal.ghosts-use_own-B-BookName
ghosts-use_own-B-BookName g a = record { cells = a.blank }

abbrev pub ghosts-use_own-B-ClusterName : goal.ghosts-use_own-B-ClusterName
ghosts-use_own-B-ClusterName g a = record { config = a.config.now }
