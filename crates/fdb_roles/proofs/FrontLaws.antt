-- The run of a front of a book.
use Rattle.std.proofs.Common.{◌≡◌, sym, subst, List}
use Rattle.fdb_txn.specs.declared.entry.Entry.{Entry}
use Rattle.fdb_txn.specs.book.Book.{seen_of}
use Rattle.fdb_txn.specs.book.History.{AreLinked}
use Rattle.fdb_txn.specs.rules.SerialMap.{serial_map_at}
use Rattle.fdb_roles.specs.Fronts.{FrontsHaveOneRun}
use Rattle.fdb_roles.proofs.RunLaws.{front-run}

pub fronts_have_one_run : FrontsHaveOneRun
fronts_have_one_run splits short long begins linked v reached =
    subst (λ (all : List Entry).
    serial_map_at splits v (seen_of short).places ≡ serial_map_at splits v (seen_of all).places) (sym begins.1)
    (front-run short begins.0 (subst (AreLinked 0) begins.1 linked) splits v reached)
