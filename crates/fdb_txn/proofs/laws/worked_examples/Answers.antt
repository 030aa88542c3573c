use Rattle.std.proofs.Common.{refl}
use Rattle.fdb_txn.proofs.rules.ExamplesLemmas.{one_batch_computes, write_skew_computes, false_conflict_computes}
use Rattle.fdb_txn.proofs.rules.ExamplesLemmas.{former_owner_computes, there_and_back_computes}
use Rattle.fdb_txn.proofs.rules.ExamplesLemmas.{equal_is_not_newer_computes, window_computes, old_reading_computes}
use Rattle.fdb_txn.proofs.rules.ExamplesLemmas.{horizon_computes, horizons_compute, numbers_compute}
use Rattle.fdb_txn.proofs.rules.ExamplesLemmas.{two_moves_computes, spans_computes, at_bounds_computes}
use Rattle.fdb_txn.proofs.rules.ExamplesLemmas.{shard_messages_compute, stamps_compute, entries_are_judged}
use Rattle.fdb_txn.proofs.rules.ExamplesLemmas.{books_are_judged}
use Rattle.fdb_txn.proofs.laws.worked_examples.Goals as goal

pub returns : goal.returns
returns c = record {
  sizes = (refl, refl, refl);
  one_batch = one_batch_computes;
  write_skew = write_skew_computes;
  false_conflict = false_conflict_computes;
  former_owner = former_owner_computes;
  there_and_back = there_and_back_computes;
  equal_is_not_newer = equal_is_not_newer_computes;
  window = window_computes;
  old_reading = old_reading_computes;
  two_moves = two_moves_computes;
  spans = spans_computes;
  at_bounds = at_bounds_computes;
  shard_messages = shard_messages_compute;
  stamps = stamps_compute;
  entries = entries_are_judged;
  books = books_are_judged;
  numbers = numbers_compute;
  horizon = horizon_computes;
  horizons = horizons_compute;
}
