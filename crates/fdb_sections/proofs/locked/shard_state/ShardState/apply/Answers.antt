use Rattle.fdb_sections.specs.ShardsAtFronts.{peek_fault}
use Rattle.fdb_sections.proofs.ShardLemmas.{kept-or-failed}
use Rattle.fdb_sections.proofs.locked.shard_state.ShardState.apply.Goals as goal

pub returns-clause-kept : goal.returns-clause-kept
returns-clause-kept g c =
    kept-or-failed (peek_fault c.args.self.now.at c.args.given.now) c.apply.result c.args.self.now.at c.apply.new.self
    c.apply.ensures.refused c.apply.ensures.failed
