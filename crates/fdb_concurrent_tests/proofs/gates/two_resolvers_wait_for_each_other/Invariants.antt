use Rattle.fdb_concurrent_tests.proofs.gates.two_resolvers_wait_for_each_other.Given as goal

abbrev pub ghosts-cross-B-BookName : goal.ghosts-cross-B-BookName
ghosts-cross-B-BookName g a = record { cells = a.blank }

abbrev pub ghosts-cross-B-ClusterName : goal.ghosts-cross-B-ClusterName
ghosts-cross-B-ClusterName g a = record { config = a.config.now }
