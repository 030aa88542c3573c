use Rattle.std.proofs.Common.{◌≡◌, ℕ, true, take, length}
use Rattle.fdb_log.specs.Messages.{is_kept, sent_to}
use Rattle.fdb_log.specs.Places.{list_at}
use Rattle.fdb_log.proofs.telling.bodies_of.Given as goal

abbrev pub invariant-loop-sent : goal.invariant-loop-sent
invariant-loop-sent l =
    record {
      long : length l.bodies.items ≡ l.keeper.tags;
      sent : (tag : ℕ) → is_kept l.keeper.log l.keeper.logs l.keeper.tags tag ≡ true
          → list_at l.bodies.items tag ≡ sent_to tag (take l.sent-index l.message.body);
    }
