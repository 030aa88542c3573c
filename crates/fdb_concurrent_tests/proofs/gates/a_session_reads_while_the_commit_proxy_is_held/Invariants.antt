use Rattle.fdb_concurrent_tests.proofs.gates.a_session_reads_while_the_commit_proxy_is_held.Given as goal

abbrev pub ghosts-hold-B-BookName : goal.ghosts-hold-B-BookName
ghosts-hold-B-BookName g a = record { cells = a.blank }

abbrev pub ghosts-hold-B-ClusterName : goal.ghosts-hold-B-ClusterName
ghosts-hold-B-ClusterName g a = record { config = a.config.now }
