use Rattle.std.proofs.Common.{◌≡◌, subst, List, inr, rules}
use Rattle.std.proofs.lemmas.Result.{err_from_is_err_and}
use Rattle.fdb_core.specs.declared.roles.shard.ShardRole.{ShardRole}
use Rattle.fdb_core.specs.check.Holding.{HoldsTheRun, StopsByShard}
use Rattle.fdb_check.specs.Judged.{JudgedBook}
use Rattle.fdb_core.proofs.check.whole.check_all.Goals as goal

pub returns-in_err-check_shards-clause-finds : goal.returns-in_err-check_shards-clause-finds
returns-in_err-check_shards-clause-finds c entries =
    let cluster = c.args.cluster.now in
    let same : c.in-Ok.judged ≡ record { splits = cluster.config.resolver_splits; book = cluster.book.items } =
    search rules in
    let left = err_from_is_err_and c.from_residual-in_err-check_shards.result
    c.from_residual-in_err-check_shards.ensures.1 in
    let shards : c.deref-3.result.now ≡ cluster.shards.items = search rules in
    rw (left.1, left.2)
    (inr (subst (λ (judged : JudgedBook). StopsByShard (HoldsTheRun judged.splits judged.book) cluster.shards.items
    c.in_err-check_shards.field-0.0) same
    (subst (λ (roles : List ShardRole). StopsByShard (HoldsTheRun c.in-Ok.judged.splits c.in-Ok.judged.book) roles
    c.in_err-check_shards.field-0.0) shards c.in_err-check_shards.ensures)))
