use Rattle.std.proofs.Common.{◌≡◌}
use Rattle.fdb_bench.proofs.commit.submit_all.Given as goal

abbrev pub invariant-loop-request : goal.invariant-loop-request
invariant-loop-request l =
    record {
      can_next : (goal.iterator-loop-request).can_next l.request-iterator;
      is_finite : (goal.iterator-loop-request).is_finite l.request-iterator;
      floor : l.core.proxy.owners.floor ≡ l.initial.core.proxy.owners.floor;
    }
