use Rattle.std.proofs.Common.{◌∙◌, ap, length, le_refl, None}
use Rattle.fdb_txn.specs.book.Book.{seen_before}
use Rattle.fdb_txn.specs.rules.SerialMap.{serial_map}
use Rattle.fdb_core.specs.check.Holding.{HoldsTheRun}
use Rattle.fdb_check.specs.Running.{SerialRun}
use Rattle.fdb_check.proofs.Exports.{until-end}
use Rattle.fdb_core.proofs.checking.HoldingLemmas.{stops-shards, held-last, checks-last}
use Rattle.fdb_core.proofs.check.shards.check_shards.Goals as goal

pub returns : goal.returns
returns c =
    let splits = c.args.judged.now.splits in
    let book = c.args.judged.now.book in
    let entries = c.book-book.ensures.entries in
    let shards = c.args.shards.now in
    let from = c.last_version-from.result in
    let map = c.map.result.now in
    let come = (rw c.book-book.ensures.lent at c.in_ok-run.ensures) splits entries c.new.ensures in
    let map_is = c.map.ensures
    ∙ ap (λ (run : SerialRun). serial_map run.judged.splits (seen_before run.judged.book run.entries).places) come.0 in
    let last = rw c.book-book.ensures.lent at c.last_version-from.ensures in
    checks-last c.compare_shards.result _ _ (HoldsTheRun splits book) shards c.compare_shards.ensures
    (held-last splits book entries (length book) (le_refl (length book)) shards from map last map_is come.1)
    (λ fault. stops-shards splits book entries (length book) shards from None map fault
    (until-end splits book entries (length book) (le_refl (length book))) last map_is)
