use Rattle.fdb_layer_tests.proofs.layered.both_counters_are_equal_whoever_counts.Given as goal

abbrev pub ghosts-use_layer-B-BookName : goal.ghosts-use_layer-B-BookName
ghosts-use_layer-B-BookName g a = record { cells = a.blank }

abbrev pub ghosts-use_layer-B-ClusterName : goal.ghosts-use_layer-B-ClusterName
ghosts-use_layer-B-ClusterName g a = record { config = a.config.now }
