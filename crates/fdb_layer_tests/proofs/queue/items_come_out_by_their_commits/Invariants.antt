use Rattle.fdb_layer_tests.proofs.queue.items_come_out_by_their_commits.Given as goal

abbrev pub ghosts-use_queue-B-BookName : goal.ghosts-use_queue-B-BookName
ghosts-use_queue-B-BookName g a = record { cells = a.blank }

abbrev pub ghosts-use_queue-B-ClusterName : goal.ghosts-use_queue-B-ClusterName
ghosts-use_queue-B-ClusterName g a = record { config = a.config.now }
