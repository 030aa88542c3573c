use Rattle.fdb_bench.proofs.layers.running.measure.Given as goal

abbrev pub ghosts-use_database-B-BookName : goal.ghosts-use_database-B-BookName
ghosts-use_database-B-BookName g a = record { cells = a.blank }

abbrev pub ghosts-use_database-B-ClusterName : goal.ghosts-use_database-B-ClusterName
ghosts-use_database-B-ClusterName g a = record { config = a.config.now }
