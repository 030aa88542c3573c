use Rattle.fdb_concurrent_tests.proofs.growths.start_and_play.Given as goal

abbrev pub ghosts-play_four-B-BookName : goal.ghosts-play_four-B-BookName
ghosts-play_four-B-BookName g a = record { cells = a.blank }

abbrev pub ghosts-play_four-B-ClusterName : goal.ghosts-play_four-B-ClusterName
ghosts-play_four-B-ClusterName g a = record { config = a.config.now }
