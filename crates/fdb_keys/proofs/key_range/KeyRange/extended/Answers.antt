use Rattle.std.proofs.Common.{◌≡◌, false, subst, rules}
use Rattle.std.proofs.lemmas.Bool.{cond-false}
use Rattle.fdb_keys.specs.Insertion.{lesser_point, greater_point}
use Rattle.fdb_keys.specs.Points.{Point, point_lt}
use Rattle.fdb_keys.proofs.InsertionLemmas.{HasLegalBounds, joined_is_legal}
use Rattle.fdb_keys.proofs.key_range.KeyRange.extended.Goals as goal

pub invariant_of-result : goal.invariant_of-result
invariant_of-result c =
    let no_sooner : point_lt c.other.inside.begin c.self.inside.begin ≡ false = search rules in
    let begins : lesser_point c.self.inside.begin c.other.inside.begin ≡ c.self.inside.begin =
    cond-false _ _ _ no_sooner in
    let ends : c.greater_of.result ≡ greater_point c.self.inside.end c.other.inside.end = search rules in
    subst (λ (begin : Point). HasLegalBounds (record { begin = begin; end = c.greater_of.result })) begins
    (rw ends
    (joined_is_legal (record { begin = c.self.inside.begin; end = c.self.inside.end })
    (record { begin = c.other.inside.begin; end = c.other.inside.end }) c.self.invariant c.other.invariant))
