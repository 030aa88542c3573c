use Rattle.fdb_running_tests.proofs.reads.ordinary_reads_alone_are_turned_down.Given as goal

abbrev pub ghosts-use_meetings-B-BookName : goal.ghosts-use_meetings-B-BookName
ghosts-use_meetings-B-BookName g a = record { cells = a.blank }

abbrev pub ghosts-use_meetings-B-ClusterName : goal.ghosts-use_meetings-B-ClusterName
ghosts-use_meetings-B-ClusterName g a = record { config = a.config.now }
