use Rattle.fdb_sim.proofs.tests.threads.change_runs.Given as goal

abbrev pub ghosts-change_each-B-BookName : goal.ghosts-change_each-B-BookName
ghosts-change_each-B-BookName g a = record { cells = a.blank }

abbrev pub ghosts-change_each-B-ClusterName : goal.ghosts-change_each-B-ClusterName
ghosts-change_each-B-ClusterName g a = record { config = a.config.now }
