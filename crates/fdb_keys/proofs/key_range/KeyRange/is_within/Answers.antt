use Rattle.std.proofs.Common.{◌≡◌, rules}
use Rattle.fdb_keys.specs.Ranges.{is_within}
use Rattle.fdb_keys.proofs.WithinLemmas.{within-points}
use Rattle.fdb_keys.proofs.key_range.KeyRange.is_within.Goals as goal

pub returns-clause-points : goal.returns-clause-points
returns-clause-points c =
    let is : c.lies_within.result ≡ is_within c.args.self.now c.args.whole.now = search rules in
    rw is (within-points c.args.self.now c.args.whole.now)
