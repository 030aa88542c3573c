use Rattle.fdb_running_tests.proofs.stamps.a_whole_batch_is_stamped.Given as goal

abbrev pub ghosts-use_batch-B-BookName : goal.ghosts-use_batch-B-BookName
ghosts-use_batch-B-BookName g a = record { cells = a.blank }

abbrev pub ghosts-use_batch-B-ClusterName : goal.ghosts-use_batch-B-ClusterName
ghosts-use_batch-B-ClusterName g a = record { config = a.config.now }
