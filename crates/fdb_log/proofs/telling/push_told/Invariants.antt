use Rattle.std.proofs.Common.{◌≡◌, ℕ, ◌≤◌, length}
use Rattle.fdb_log.specs.Messages.{is_kept, tag_message}
use Rattle.fdb_log.specs.Places.{list_at}
use Rattle.fdb_log.proofs.ToldLemmas.{AreTold}
use Rattle.fdb_log.proofs.telling.push_told.Given as goal

abbrev pub invariant-loop-tag : goal.invariant-loop-tag
invariant-loop-tag l =
    record {
      told : AreTold (is_kept l.keeper.log l.keeper.logs l.keeper.tags) (λ (tag : ℕ). tag_message tag l.message) l.tag
          l.initial.queues l.queues;
      long : length l.bodies.items ≡ l.keeper.tags;
      left : (tag : ℕ) → l.tag ≤ tag → list_at l.bodies.items tag ≡ list_at l.initial.bodies.items tag;
    }
