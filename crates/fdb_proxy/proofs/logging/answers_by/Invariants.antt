use Rattle.std.proofs.Common.{◌≡◌, ◌++◌, drop, length}
use Rattle.fdb_proxy.specs.Logging.{answers_by}
use Rattle.fdb_proxy.proofs.logging.answers_by.Given as goal

abbrev pub invariant-loop-txn : goal.invariant-loop-txn
invariant-loop-txn l = l.answers ++ answers_by (drop (length l.yielded) l.batch) (drop (length l.yielded) l.outcomes)
    ≡ answers_by l.batch l.outcomes
