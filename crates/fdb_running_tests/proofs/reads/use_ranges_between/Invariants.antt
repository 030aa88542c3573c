use Rattle.fdb_running_tests.proofs.reads.use_ranges_between.Given as goal

abbrev pub ghosts-use_ranges-B-BookName : goal.ghosts-use_ranges-B-BookName
ghosts-use_ranges-B-BookName g a = record { cells = a.blank }

abbrev pub ghosts-use_ranges-B-ClusterName : goal.ghosts-use_ranges-B-ClusterName
ghosts-use_ranges-B-ClusterName g a = record { config = a.config.now }
