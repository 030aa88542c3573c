use Rattle.std.proofs.Common.{◌≡◌, rules}
use Rattle.fdb_keys.specs.Prefixes.{after_prefix}
use Rattle.fdb_keys.proofs.PrefixLemmas.{prefix_is_legal}
use Rattle.fdb_keys.proofs.key_range.KeyRange.prefix.Goals as goal

pub invariant_of-result : goal.invariant_of-result
invariant_of-result c =
    let begins : c.in_ok-begin.begin ≡ c.args.prefix.now = search rules in
    let ends : c.in_ok-end.end ≡ after_prefix c.args.prefix.now = search rules in
    rw (begins, ends) (prefix_is_legal c.args.prefix.now c.text.ensures.legal)
