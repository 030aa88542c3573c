use Rattle.std.proofs.Common.{◌≡◌, ◌∙◌, ◌+◌, ap, refl, length, Some, slice_get}
use Rattle.std.proofs.lemmas.Option.{slice_get_read}
use Rattle.std.proofs.lemmas.Result.{err_from_is_err_and}
use Rattle.fdb_txn.specs.book.Book.{seen_before}
use Rattle.fdb_txn.specs.rules.SerialMap.{serial_map}
use Rattle.fdb_core.specs.check.Checking.{HaveHeld}
use Rattle.fdb_core.specs.check.Holding.{HoldsTheRun}
use Rattle.fdb_check.specs.Running.{SerialRun, run_of, after_next}
use Rattle.fdb_check.proofs.Exports.{until-next}
use Rattle.fdb_core.proofs.checking.HoldingLemmas.{stops-shards, held-next, next-is, goes-on}
use Rattle.fdb_core.proofs.check.shards.run_next.Goals as goal

pub returns-in_err-compare_shards : goal.returns-in_err-compare_shards
returns-in_err-compare_shards c = λ splits entries come held.
    let book = c.args.book.now in
    let index = c.args.index in
    let entry = c.index-book-index.result in
    let there : slice_get book index ≡ Some entry = slice_get_read book (length book) index entry refl c.requires.within
    c.index-book-index.is in
    let map_is = c.map.ensures
    ∙ ap (λ (run : SerialRun). serial_map run.judged.splits (seen_before run.judged.book run.entries).places) come in
    let left = err_from_is_err_and c.from_residual.result c.from_residual.ensures.1 in
    rw (left.1, left.2)
    (stops-shards splits book entries index c.args.shards.now c.last_version-from.result (Some entry.version)
    c.map.result.now c.in_err-compare_shards.field-0.0 (until-next splits book entries index entry there)
    c.last_version-from.ensures map_is c.in_err-compare_shards.ensures)

pub returns : goal.returns
returns c = λ splits entries come held.
    let book = c.args.book.now in
    let index = c.args.index in
    let shards = c.args.shards.now in
    let entry = c.index-book-index.result in
    let there : slice_get book index ≡ Some entry = slice_get_read book (length book) index entry refl c.requires.within
    c.index-book-index.is in
    let map_is = c.map.ensures
    ∙ ap (λ (run : SerialRun). serial_map run.judged.splits (seen_before run.judged.book run.entries).places) come in
    goes-on c.next_entry.result (λ run. run ≡ after_next c.args.run) (λ run. run ≡ run_of splits book (index + 1)) _
    (HaveHeld splits book shards (index + 1)) (HoldsTheRun splits book) shards c.next_entry.ensures
    (λ run next. next ∙ ap after_next come ∙ next-is splits book index c.requires.within)
    (held-next splits book entries index shards entry c.last_version-from.result c.map.result.now there
    c.last_version-from.ensures map_is held c.in_ok-compare_shards.ensures)
