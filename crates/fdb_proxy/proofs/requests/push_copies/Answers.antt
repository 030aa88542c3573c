use Rattle.std.proofs.Common.{◌≡◌, arith}
use Rattle.std.proofs.lemmas.Grind.{common_steps}
use Rattle.fdb_txn.proofs.Exports.{same_sealed}
use Rattle.fdb_proxy.proofs.requests.push_copies.Goals as goal

pub loop-transaction-preserved : goal.loop-transaction-preserved
loop-transaction-preserved c =
    let same : c.in_ok-clone.field-0 ≡ c.transaction-item.result =
    same_sealed c.transaction-item.result c.in_ok-clone.field-0 c.in_ok-clone.ensures.cases in
    grind (arith, common_steps)
