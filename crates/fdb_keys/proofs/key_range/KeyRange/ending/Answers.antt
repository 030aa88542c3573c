use Rattle.std.proofs.Common.{◌≡◌, rules}
use Rattle.fdb_keys.proofs.CuttingLemmas.{single_is_legal}
use Rattle.fdb_keys.proofs.key_range.KeyRange.ending.Goals as goal

pub invariant_of-result : goal.invariant_of-result
invariant_of-result c =
    let begins : c.in_ok-begin.begin ≡ c.args.key.now = search rules in
    rw (begins, c.requires) (single_is_legal c.args.key.now c.text.ensures.legal)
