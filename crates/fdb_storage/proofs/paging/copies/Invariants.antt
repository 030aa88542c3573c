use Rattle.std.proofs.Common.{◌≡◌, take}
use Rattle.fdb_storage.specs.KeyPages.{lent_keys, pairs_at}
use Rattle.fdb_storage.proofs.paging.copies.Given as goal

abbrev pub invariant-loop-key : goal.invariant-loop-key
invariant-loop-key l = l.pairs ≡ pairs_at l.version (lent_keys (take l.key-index l.found))
