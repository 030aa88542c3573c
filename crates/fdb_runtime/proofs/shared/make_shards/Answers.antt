use Rattle.std.proofs.Common.{◌≡◌, ◌∙◌, List, ap}
use Rattle.fdb_keys.specs.Points.{Point}
use Rattle.fdb_txn.specs.rules.Splits.{piece, piece_fault}
use Rattle.fdb_roles.proofs.Exports.{answers-fault}
use Rattle.fdb_runtime.proofs.shared.make_shards.Goals as goal

pub new-requires-clause-its : goal.new-requires-clause-its
new-requires-clause-its g c =
    (answers-fault (piece_fault c.args.map.now c.loop-tag.tag) c.in_ok-range.range
    (λ range. range ≡ piece c.args.map.now c.loop-tag.tag) c.in_ok-range.ensures).1
    ∙ ap (λ (splits : List Point). piece splits c.loop-tag.tag) c.requires.map
