use Rattle.std.proofs.Common.{◌≡◌, rules}
use Rattle.fdb_keys.specs.Insertion.{lesser_point, greater_point}
use Rattle.fdb_keys.proofs.InsertionLemmas.{joined_is_legal}
use Rattle.fdb_keys.proofs.key_range.KeyRange.joined_range.Goals as goal

pub invariant_of-result : goal.invariant_of-result
invariant_of-result c =
    let begins : c.in_ok-begin.begin ≡ lesser_point c.self.inside.begin c.other.inside.begin = search rules in
    let ends : c.in_ok-end.end ≡ greater_point c.self.inside.end c.other.inside.end = search rules in
    rw (begins, ends)
    (joined_is_legal (record { begin = c.self.inside.begin; end = c.self.inside.end })
    (record { begin = c.other.inside.begin; end = c.other.inside.end }) c.self.invariant c.other.invariant)
