use Rattle.std.proofs.Common.{◌≡◌, drop}
use Rattle.fdb_storage.specs.Replays.{covered, covered_from}
use Rattle.fdb_storage.proofs.replaying.covered.Given as goal

abbrev pub invariant-loop-peek : goal.invariant-loop-peek
invariant-loop-peek l = covered_from l.through (drop l.peek-index l.peeks) ≡ covered l.peeks
