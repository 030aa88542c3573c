use Rattle.std.proofs.Common.{◌∙◌, ap}
use Rattle.fdb_storage.specs.Shards.{Shard, kept_of}
use Rattle.fdb_storage.proofs.shard.Shard.kept.Goals as goal

pub returns : goal.returns
returns c works =
    c.kept_from.ensures c.self.inside.version c.self.invariant.serves
    (c.self.invariant.within (ap (λ (shard : Shard). shard.is_failed) c.self.view_is ∙ works))
    ∙ ap (λ (shard : Shard). kept_of shard c.args.key.now) c.self.view_is
