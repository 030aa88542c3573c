use Rattle.std.proofs.Common.{◌≡◌, ℕ, Some, slice_get, take}
use Rattle.std.specs.List.{AllByRecursion}
use Rattle.fdb_layers.proofs.QueueingLemmas.{IsNoOlder}
use Rattle.fdb_layers.proofs.queueing.oldest.Given as goal

abbrev pub invariant-loop-pair : goal.invariant-loop-pair
invariant-loop-pair l = record {
  there : (at : ℕ) × (slice_get l.pairs at ≡ Some l.oldest);
  least : AllByRecursion (IsNoOlder l.oldest) (take l.pair-index l.pairs);
}
