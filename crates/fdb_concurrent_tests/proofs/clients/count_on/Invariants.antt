use Rattle.fdb_concurrent_tests.proofs.clients.count_on.Given as goal

abbrev pub ghosts-count-B-BookName : goal.ghosts-count-B-BookName
ghosts-count-B-BookName g a = record { cells = a.blank }

abbrev pub ghosts-count-B-ClusterName : goal.ghosts-count-B-ClusterName
ghosts-count-B-ClusterName g a = record { config = a.config.now }
