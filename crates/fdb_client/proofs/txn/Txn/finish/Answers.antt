use Rattle.std.proofs.Common.{◌≡◌, rules}
use Rattle.fdb_client.proofs.txn.Txn.finish.Goals as goal

pub invariant_of-result : goal.invariant_of-result
invariant_of-result c =
    let back : c.in-Err.refused.back ≡ c.self.inside.state = search rules in
    rw back c.self.invariant
