use Rattle.fdb_layer_tests.proofs.rolling.carry.Given as goal

abbrev pub ghosts-use_next-B-BookName : goal.ghosts-use_next-B-BookName
ghosts-use_next-B-BookName g a = record { cells = a.blank }

abbrev pub ghosts-use_next-B-ClusterName : goal.ghosts-use_next-B-ClusterName
ghosts-use_next-B-ClusterName g a = record { config = a.config.now }
