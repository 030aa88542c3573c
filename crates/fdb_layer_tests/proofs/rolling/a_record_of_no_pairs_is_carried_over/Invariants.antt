use Rattle.fdb_layer_tests.proofs.rolling.a_record_of_no_pairs_is_carried_over.Given as goal

abbrev pub ghosts-carry-B-BookName : goal.ghosts-carry-B-BookName
ghosts-carry-B-BookName g a = record { cells = a.blank }

abbrev pub ghosts-carry-B-ClusterName : goal.ghosts-carry-B-ClusterName
ghosts-carry-B-ClusterName g a = record { config = a.config.now }
