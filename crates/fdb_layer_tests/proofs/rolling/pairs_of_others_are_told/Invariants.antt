use Rattle.fdb_layer_tests.proofs.rolling.pairs_of_others_are_told.Given as goal

abbrev pub ghosts-carry-B-BookName : goal.ghosts-carry-B-BookName
ghosts-carry-B-BookName g a = record { cells = a.blank }

abbrev pub ghosts-carry-B-ClusterName : goal.ghosts-carry-B-ClusterName
ghosts-carry-B-ClusterName g a = record { config = a.config.now }
