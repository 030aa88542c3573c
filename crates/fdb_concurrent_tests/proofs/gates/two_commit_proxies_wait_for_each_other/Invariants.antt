use Rattle.fdb_concurrent_tests.proofs.gates.two_commit_proxies_wait_for_each_other.Given as goal

abbrev pub ghosts-meet-B-BookName : goal.ghosts-meet-B-BookName
ghosts-meet-B-BookName g a = record { cells = a.blank }

abbrev pub ghosts-meet-B-ClusterName : goal.ghosts-meet-B-ClusterName
ghosts-meet-B-ClusterName g a = record { config = a.config.now }
