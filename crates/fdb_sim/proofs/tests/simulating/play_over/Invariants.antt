use Rattle.fdb_sim.proofs.tests.simulating.play_over.Given as goal

abbrev pub ghosts-simulate-B-BookName : goal.ghosts-simulate-B-BookName
ghosts-simulate-B-BookName a = record { cells = a.blank }

abbrev pub ghosts-simulate-B-ClusterName : goal.ghosts-simulate-B-ClusterName
ghosts-simulate-B-ClusterName a = record { config = a.config.now }
