use Rattle.std.proofs.Common.{◌≡◌, true, List, take, drop}
use Rattle.fdb_txn.specs.declared.entry.Entry.{Entry}
use Rattle.fdb_book.specs.Ids.{AreTaken, Covers, repeated_place, repeated_after}
use Rattle.fdb_book.proofs.latest.with_ids.Given as goal

abbrev pub invariant-loop-sealed : goal.invariant-loop-sealed
invariant-loop-sealed l = record {
  taken : AreTaken l.initial.taken (take l.sealed-index l.batch) l.taken;
  new : l.are_new ≡ true → (book : List Entry) → Covers l.initial.taken book
      → repeated_place book l.batch
      ≡ repeated_after book (take l.sealed-index l.batch) (drop l.sealed-index l.batch);
}
