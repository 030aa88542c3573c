use Rattle.fdb_layer_tests.proofs.rolling.no_receipt_is_lost_over_three_databases.Given as goal

abbrev pub ghosts-use_first-B-BookName : goal.ghosts-use_first-B-BookName
ghosts-use_first-B-BookName g a = record { cells = a.blank }

abbrev pub ghosts-use_first-B-ClusterName : goal.ghosts-use_first-B-ClusterName
ghosts-use_first-B-ClusterName g a = record { config = a.config.now }
