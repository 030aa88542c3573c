use Rattle.std.proofs.Common.{◌≡◌, ◌↔◌, ap, sym, suc, true, not, length, ◌==◌, List, [], ◌∷◌, rules}
use Rattle.std.proofs.lemmas.Bool.{ne_eqb}
use Rattle.fdb_keys.specs.Points.{Point}
use Rattle.fdb_keys.specs.Ranges.{Range, in_set, is_apart}
use Rattle.fdb_keys.proofs.ApartLemmas.{begin_inside}
use Rattle.fdb_keys.proofs.range_set.RangeSet.has_points.Goals as goal

-- a list that is apart has a point where it has a range
points : (ranges : List Range) → is_apart ranges ≡ true
    → (not (length ranges == 0) ≡ true) ↔ ((x : Point) × (in_set ranges x ≡ true))
points [] apart = (λ some. cc, λ some. some.1)
points (range ∷ ranges) apart = (
  λ some. (range.begin, begin_inside range ranges apart),
  λ some. ap not (ne_eqb (suc (length ranges)) 0 (λ none. cc)),
)

pub returns : goal.returns
returns c =
    let apart : is_apart c.args.self.now ≡ true = search rules in
    let ranges : length c.as_slice.result.now ≡ length c.args.self.now = search rules in
    rw (sym ranges, sym c.is_empty.ensures) at (points c.args.self.now apart)
