use Rattle.std.proofs.Common.{◌≡◌, ◌<◌, ◌≤◌, ℕ, length, map, filter}
use Rattle.std.specs.List.{range_with_len}
use Rattle.fdb_log.specs.Places.{list_at}
use Rattle.fdb_storage.specs.LogMessages.{is_for_log}
use Rattle.fdb_proxy.specs.Logging.{message_with}
use Rattle.fdb_proxy.proofs.logging.messages_with.Given as goal

abbrev pub invariant-loop-log : goal.invariant-loop-log
invariant-loop-log l =
    record {
      long : length l.bodies.items ≡ l.logs;
      left : (log : ℕ) → l.log ≤ log → log < l.logs
          → list_at l.bodies.items log ≡ filter (is_for_log l.logs log) l.fn.body;
      messages : l.messages ≡ map (message_with l.logs l.position l.fn.body) (range_with_len 0 l.log);
    }
