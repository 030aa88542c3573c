use Rattle.fdb_simulate.proofs.simulation.run.Given as goal

abbrev pub ghosts-simulate-B-BookName : goal.ghosts-simulate-B-BookName
ghosts-simulate-B-BookName a = record { cells = a.blank }

abbrev pub ghosts-simulate-B-ClusterName : goal.ghosts-simulate-B-ClusterName
ghosts-simulate-B-ClusterName a = record { config = a.config.now }
