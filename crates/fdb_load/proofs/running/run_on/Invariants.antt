use Rattle.fdb_load.proofs.running.run_on.Given as goal

abbrev pub ghosts-run_named-B-BookName : goal.ghosts-run_named-B-BookName
ghosts-run_named-B-BookName g a = record { cells = a.blank }

abbrev pub ghosts-run_named-B-ClusterName : goal.ghosts-run_named-B-ClusterName
ghosts-run_named-B-ClusterName g a = record { config = a.config.now }
