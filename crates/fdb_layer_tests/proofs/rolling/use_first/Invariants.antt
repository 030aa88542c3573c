use Rattle.fdb_layer_tests.proofs.rolling.use_first.Given as goal

abbrev pub ghosts-use_second-B-BookName : goal.ghosts-use_second-B-BookName
ghosts-use_second-B-BookName g a = record { cells = a.blank }

abbrev pub ghosts-use_second-B-ClusterName : goal.ghosts-use_second-B-ClusterName
ghosts-use_second-B-ClusterName g a = record { config = a.config.now }
