use Rattle.std.proofs.lemmas.Result.{err_from_is_err_and}
use Rattle.fdb_play.proofs.script.step_line.read_pull.Goals as goal

pub returns-in_err-shard : goal.returns-in_err-shard
returns-in_err-shard c =
    let p = err_from_is_err_and c.from_residual.result c.from_residual.ensures.1 in
    let bad = c.in_err-shard.ensures.bad in
    rw (p.1, p.2, bad.0) (λ step rest. bad.1 rest.0 rest.1 rest.2)
