use Rattle.std.proofs.Common.{◌≡◌, rules}
use Rattle.fdb_keys.specs.Ranges.{single_range}
use Rattle.fdb_keys.proofs.SingleLemmas.{in_range-single}
use Rattle.fdb_keys.proofs.key_range.KeyRange.single.Goals as goal

pub returns-clause-alone : goal.returns-clause-alone
returns-clause-alone c = λ x.
    let made : c.in_ok-range.range ≡ single_range c.args.key.now = search rules in
    rw made (in_range-single c.args.key.now x)
