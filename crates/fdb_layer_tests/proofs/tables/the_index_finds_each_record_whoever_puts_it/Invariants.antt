use Rattle.fdb_layer_tests.proofs.tables.the_index_finds_each_record_whoever_puts_it.Given as goal

abbrev pub ghosts-use_table-B-BookName : goal.ghosts-use_table-B-BookName
ghosts-use_table-B-BookName g a = record { cells = a.blank }

abbrev pub ghosts-use_table-B-ClusterName : goal.ghosts-use_table-B-ClusterName
ghosts-use_table-B-ClusterName g a = record { config = a.config.now }
