use Rattle.std.proofs.Common.{◌≡◌, Err, rules}
use Rattle.fdb_layers.proofs.RollingLemmas.{commit-no-conflict}
use Rattle.fdb_layers.proofs.rolling.commit_all.Goals as goal

pub returns-in_err-receipt-clause-unread : goal.returns-in_err-receipt-clause-unread
returns-in_err-receipt-clause-unread g c =
    let refused = c.in_err-receipt.field-0.0 in
    let same : c.from_residual.result ≡ Err refused.why = search rules in
    rw same (commit-no-conflict g.C.ClusterName.config c.args.session.now c.commit.new.self refused
    c.in_err-receipt.ensures)
