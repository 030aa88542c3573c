use Rattle.fdb_layer_tests.proofs.rolling.use_second.Given as goal

abbrev pub ghosts-use_third-B-BookName : goal.ghosts-use_third-B-BookName
ghosts-use_third-B-BookName g a = record { cells = a.blank }

abbrev pub ghosts-use_third-B-ClusterName : goal.ghosts-use_third-B-ClusterName
ghosts-use_third-B-ClusterName g a = record { config = a.config.now }
