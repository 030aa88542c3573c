use Rattle.std.proofs.Common.{◌∙◌}
use Rattle.fdb_sections.specs.LentShards.{LentShards, lent_shards}
use Rattle.fdb_sections.proofs.LentShardLemmas.{all-pairs}
use Rattle.fdb_sections.proofs.roles.shard.lent_shards.LentShards.pairs.Goals as goal

pub returns : goal.returns
returns g c =
    let inside = c.self.inside in
    let own : LentShards =
    record { version = inside.reader.version; front = inside.reader.front.now; range = inside.range.now } in
    c.from_vec.ensures
    ∙ all-pairs g.B.DatabaseName.config own c.args.self.now (lent_shards inside.shards.now) c.self.view_is
    c.self.invariant.1 c.in_ok-pairs.pairs.items c.in_ok-pairs.ensures
