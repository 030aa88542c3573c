use Rattle.std.proofs.Common.{subst, suc, length}
use Rattle.fdb_sections.specs.ShardsAtFronts.{ShardAtFront}
use Rattle.fdb_sections.specs.ShardViews.{HasTheRunOf}
use Rattle.fdb_sections.proofs.ShardViewLemmas.{one-run}
use Rattle.fdb_sections.proofs.roles.shard.view.ShardView.new.Goals as goal

pub invariant_of-result : goal.invariant_of-result
invariant_of-result g c =
    let config = g.B.DatabaseName.config in
    subst (λ (at : ShardAtFront). HasTheRunOf config c.args.version at.front c.args.front.now) c.at.view_is
    (one-run config (suc (length config.resolver_splits)) c.args.version c.at.inside.front c.args.front.now
    c.know_entries-2.ensures c.know_entries.ensures c.know_one_book.ensures.shorter c.know_one_book.ensures.longer
    c.requires)
