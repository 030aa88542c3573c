use Rattle.std.proofs.Common.{◌≡◌, true, rules}
use Rattle.fdb_keys.specs.Points.{point_lt}
use Rattle.fdb_keys.proofs.RemovalLemmas.{between_is_legal}
use Rattle.fdb_keys.proofs.key_range.push_between.Goals as goal

pub invariant_of-push : goal.invariant_of-push
invariant_of-push c =
    let begins : c.in_ok-begin.begin ≡ c.args.begin.now = search rules in
    let ends : c.in_ok-end.end ≡ c.args.end.now = search rules in
    let some : point_lt c.args.begin.now c.args.end.now ≡ true = search rules in
    rw (begins, ends)
    (between_is_legal c.args.begin.now c.args.end.now c.requires.begin c.requires.end some)
