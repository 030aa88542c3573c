use Rattle.fdb_running_tests.proofs.windows.use_old_version_once.Given as goal

abbrev pub ghosts-use_old_version-B-BookName : goal.ghosts-use_old_version-B-BookName
ghosts-use_old_version-B-BookName g a = record { cells = a.blank }

abbrev pub ghosts-use_old_version-B-ClusterName : goal.ghosts-use_old_version-B-ClusterName
ghosts-use_old_version-B-ClusterName g a = record { config = a.config.now }
