use Rattle.std.proofs.Common.{◌≡◌, ◌∙◌, sym, ap, ◌||◌, true, rules}
use Rattle.fdb_keys.specs.Insertion.{with_ranges}
use Rattle.fdb_keys.specs.Points.{Point}
use Rattle.fdb_keys.specs.Ranges.{in_set, is_apart}
use Rattle.fdb_keys.proofs.ApartLemmas.{same_list, apart-with_ranges, in_with_ranges}
use Rattle.fdb_keys.proofs.range_set.RangeSet.add_all.Goals as goal

pub returns-clause-list : goal.returns-clause-list
returns-clause-list c =
    let held = c.args.self.now in
    let joined = c.in_ok-joined.joined.items in
    let made : c.from_items.result ≡ joined = search rules in
    let apart : is_apart joined ≡ true = search rules in
    let held_apart : is_apart held ≡ true = ap is_apart (sym c.self.view_is) ∙ c.self.invariant in
    let points : (x : Point) → in_set joined x ≡ (in_set c.args.ranges.items x || in_set held x) = search rules in
    made
    ∙ same_list joined (with_ranges c.args.ranges.items held) apart
    (apart-with_ranges c.args.ranges.items held held_apart)
    (λ x. points x ∙ sym (in_with_ranges c.args.ranges.items held x))
