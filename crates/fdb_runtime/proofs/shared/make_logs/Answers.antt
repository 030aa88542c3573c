use Rattle.std.proofs.Common.{◌≡◌, ◌<◌, ◌≤◌, ℕ, None, refl, arith}
use Rattle.std.proofs.lemmas.Bool.{lt-ltb, le-leb}
use Rattle.std.proofs.lemmas.Result.{err_from_is_err_and}
use Rattle.fdb_txn.specs.Limits.{log_limit, tag_limit}
use Rattle.fdb_log.specs.Logs.{config_fault}
use Rattle.fdb_roles.proofs.Exports.{lacks-memory, legal-from}
use Rattle.fdb_runtime.proofs.shared.make_logs.Goals as goal

-- a log among so few logs of so few tags has no fault
no-fault : (log logs tags : ℕ) → log < logs → logs ≤ log_limit → 1 ≤ tags → tags ≤ tag_limit
    → config_fault log logs tags ≡ None
no-fault log logs tags within few some most =
    rw (lt-ltb log logs within, le-leb logs log_limit few, le-leb 1 tags some, le-leb tags tag_limit most) refl

pub returns-in_err-at : goal.returns-in_err-at
returns-in_err-at g c =
    let legal = legal-from g.B.DatabaseName.config c.requires.legal in
    let p = err_from_is_err_and c.from_residual-in_err-at.result c.from_residual-in_err-at.ensures.1 in
    rw (p.1, p.2)
    (lacks-memory (config_fault c.loop-number.number c.args.logs c.args.tags) _ _
    (no-fault c.loop-number.number c.args.logs c.args.tags (omega arith)
    (let logs = c.requires.logs in let few = legal.few_logs in omega (arith, logs, few))
    (let tags = c.requires.tags in omega (arith, tags))
    (let tags = c.requires.tags in let few = legal.few_shards in omega (arith, tags, few)))
    c.in_err-at.ensures)
