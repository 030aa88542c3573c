use Rattle.std.proofs.Common.{◌≡◌, ◌∙◌, ap, true, rules}
use Rattle.std.specs.Prelude.{Option, Some}
use Rattle.fdb_keys.specs.Insertion.{lesser_point, greater_point}
use Rattle.fdb_keys.specs.Clipping.{in_clipped, clipped_range}
use Rattle.fdb_keys.specs.Ranges.{Range, ranges_meet}
use Rattle.fdb_keys.proofs.ClippingLemmas.{in_clipped-points, common_is_legal}
use Rattle.fdb_keys.proofs.key_range.KeyRange.clip.Goals as goal

pub invariant_of-result : goal.invariant_of-result
invariant_of-result c =
    let begins : c.in_ok-begin.begin ≡ greater_point c.self.inside.begin c.other.inside.begin = search rules in
    let ends : c.in_ok-end.end ≡ lesser_point c.self.inside.end c.other.inside.end = search rules in
    let meet : ranges_meet (record { begin = c.self.inside.begin; end = c.self.inside.end })
    (record { begin = c.other.inside.begin; end = c.other.inside.end }) ≡ true = search rules in
    rw (begins, ends)
    (common_is_legal (record { begin = c.self.inside.begin; end = c.self.inside.end })
    (record { begin = c.other.inside.begin; end = c.other.inside.end }) meet c.self.invariant c.other.invariant)

pub returns-clause-points : goal.returns-clause-points
returns-clause-points c = λ x.
    let clipped : Some (record { begin = c.in_ok-begin.begin; end = c.in_ok-end.end })
    ≡ clipped_range c.args.self.now c.args.other.now = search rules in
    ap (λ (r : Option Range). in_clipped r x) clipped ∙ in_clipped-points c.args.self.now c.args.other.now x
