use Rattle.std.proofs.Common.{◌≡◌, ◌<◌, ℕ, ◌++◌, length, filter}
use Rattle.std.specs.Vec.Iter.{into_iter_items}
use Rattle.fdb_log.specs.Places.{list_at}
use Rattle.fdb_storage.specs.LogMessages.{is_for_log}
use Rattle.fdb_proxy.proofs.bodies.spread.Given as goal

abbrev pub invariant-loop-sent : goal.invariant-loop-sent
invariant-loop-sent l =
    record {
      can_next : (goal.iterator-loop-sent).can_next l.sent-iterator;
      is_finite : (goal.iterator-loop-sent).is_finite l.sent-iterator;
      left : l.yielded ++ into_iter_items l.sent-iterator ≡ l.fn.body;
      long : length l.bodies.items ≡ l.logs;
      bodies : (log : ℕ) → log < l.logs
          → list_at l.bodies.items log ≡ filter (is_for_log l.logs log) l.yielded;
    }
