use Rattle.fdb_layer_tests.proofs.banks.no_audit_misses_what_is_on_its_way.Given as goal

abbrev pub ghosts-use_bank-B-BookName : goal.ghosts-use_bank-B-BookName
ghosts-use_bank-B-BookName g a = record { cells = a.blank }

abbrev pub ghosts-use_bank-B-ClusterName : goal.ghosts-use_bank-B-ClusterName
ghosts-use_bank-B-ClusterName g a = record { config = a.config.now }
