use Rattle.std.proofs.Common.{◌≡◌, rules, subst, sym, List, Err}
use Rattle.std.specs.Prelude.{⊤}
use Rattle.fdb_keys.specs.Answers.{AnswersExactly}
use Rattle.fdb_sections.specs.LentShards.{next_fault, row_fault}
use Rattle.fdb_sections.specs.ShardsAtFronts.{ShardAtFront}
use Rattle.fdb_sections.proofs.LentShardLemmas.{lent-first, has-own, has-next}
use Rattle.fdb_sections.proofs.roles.shard.lent_shards.+check_row.Goals as goal

pub returns-in_err-check_next-in-len1-up : goal.returns-in_err-check_next-in-len1-up
returns-in_err-check_next-in-len1-up g t c =
    let why = c.in_err-check_next-in-len1-up.field-0.0 in
    let at = c.first-item.result.now in
    let same : c.from_residual.result ≡ Err why = search rules in
    rw same (subst (λ (shards : List ShardAtFront).
    AnswersExactly {T = Unit {0}} (Err why) (row_fault c.args.version c.args.until.now c.args.from.now shards) (λ _. ⊤))
    (sym (lent-first c.args.shards.now c.first-item.result c.in-len1-up.len_at_least c.first-item.is))
    (has-own (next_fault c.args.version c.args.from.now at) _ why _ _ c.in_err-check_next-in-len1-up.ensures))

pub returns-in_ok-check_next-in-len1-up : goal.returns-in_ok-check_next-in-len1-up
returns-in_ok-check_next-in-len1-up g t c =
    let at = c.first-item.result.now in
    let end : c.end.result.now ≡ at.shard.range.end = search rules in
    subst (λ (shards : List ShardAtFront).
    AnswersExactly {T = Unit {0}} c.check_row.result (row_fault c.args.version c.args.until.now c.args.from.now shards)
    (λ _. ⊤))
    (sym (lent-first c.args.shards.now c.first-item.result c.in-len1-up.len_at_least c.first-item.is))
    (has-next (next_fault c.args.version c.args.from.now at) _ c.in_ok-check_next-in-len1-up.field-0 c.check_row.result
    _ _ c.in_ok-check_next-in-len1-up.ensures (rw end at c.check_row.ensures))
