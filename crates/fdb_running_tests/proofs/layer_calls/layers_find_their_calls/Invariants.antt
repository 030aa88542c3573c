use Rattle.fdb_running_tests.proofs.layer_calls.layers_find_their_calls.Given as goal

abbrev pub ghosts-use_calls-B-BookName : goal.ghosts-use_calls-B-BookName
ghosts-use_calls-B-BookName g a = record { cells = a.blank }

abbrev pub ghosts-use_calls-B-ClusterName : goal.ghosts-use_calls-B-ClusterName
ghosts-use_calls-B-ClusterName g a = record { config = a.config.now }
