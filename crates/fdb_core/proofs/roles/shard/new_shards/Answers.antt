use Rattle.std.proofs.Common.{◌≡◌, ◌∙◌, refl}
use Rattle.fdb_txn.specs.rules.Splits.{piece, piece_fault}
use Rattle.fdb_roles.proofs.Exports.{answers-fault}
use Rattle.fdb_core.proofs.refinement.StartLemmas.{no-shards, one-shard}
use Rattle.fdb_core.proofs.roles.shard.new_shards.Goals as goal

pub loop-tag-init : goal.loop-tag-init
loop-tag-init c = rw c.new-list.ensures.items (no-shards c.args.shard_map.now)

pub loop-tag-preserved : goal.loop-tag-preserved
loop-tag-preserved c =
    rw c.in_ok-push.ensures.items
    (one-shard c.loop-tag.tag c.args.shard_map.now c.loop-tag.list.items
    (record { state = c.new-state.result; applied = 0; popped = 0 }) c.loop-tag.invariant
    (record {
      tag = c.new-state.ensures.tag;
      range = c.new-state.ensures.range
          ∙ (answers-fault (piece_fault c.args.shard_map.now c.loop-tag.tag) c.in_ok-range.field-0
          (λ range. range ≡ piece c.args.shard_map.now c.loop-tag.tag) c.in_ok-range.ensures).1;
      version = c.new-state.ensures.version;
      floor = c.new-state.ensures.floor;
      works = c.new-state.ensures.works;
      empty = c.new-state.ensures.empty;
    }) refl refl)
