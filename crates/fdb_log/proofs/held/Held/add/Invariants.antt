use Rattle.std.proofs.Common.{◌≡◌, ℕ, ◌≤◌, ◌++◌, take, length}
use Rattle.fdb_log.specs.Messages.{is_kept}
use Rattle.fdb_log.specs.Places.{AreListed}
use Rattle.fdb_log.specs.Waiting.{waiting_from}
use Rattle.fdb_log.proofs.held.Held.add.Given as goal

abbrev pub invariant-loop-index : goal.invariant-loop-index
invariant-loop-index l =
    let kept = is_kept l.keeper.log l.keeper.logs l.keeper.tags in
    record {
      waiting : l.self.waiting
          ≡ l.initial.self.waiting ++ waiting_from kept l.message.version 0 (take l.index l.message.body);
      placed : length l.self.places ≡ l.keeper.tags;
      listed : (popped : ℕ → ℕ) (last : ℕ) → last ≤ l.message.version → AreListed kept popped last l.initial.self
          → AreListed kept popped l.message.version l.self;
    }
