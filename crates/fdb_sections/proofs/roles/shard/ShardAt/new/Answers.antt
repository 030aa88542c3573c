use Rattle.std.proofs.Common.{sym, subst, ◌≡◌, List}
use Rattle.fdb_txn.specs.declared.entry.Entry.{Entry}
use Rattle.fdb_sections.specs.ShardsAtFronts.{IsThere}
use Rattle.fdb_sections.proofs.ShardLemmas.{starts}
use Rattle.fdb_sections.proofs.roles.shard.ShardAt.new.Goals as goal

pub invariant_of-result : goal.invariant_of-result
invariant_of-result g c =
    subst (λ (front : List Entry). (c.args.tag ≡ c.new-shard.result.tag)
    × IsThere g.B.DatabaseName.config (record { front = front; shard = c.new-shard.result }))
    (sym c.in_ok-front.ensures)
    (starts g.B.DatabaseName.config c.args.tag _ c.new-shard.result c.requires.exists c.requires.its
    c.new-shard.ensures)
