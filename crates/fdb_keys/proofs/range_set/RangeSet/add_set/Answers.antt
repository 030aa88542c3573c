use Rattle.std.proofs.Common.{◌≡◌, ◌∙◌, refl, sym, length, true, List, [], ◌∷◌, rules}
use Rattle.std.proofs.Math.Bool.{or-false}
use Rattle.std.proofs.lemmas.Bool.{eqb-true}
use Rattle.fdb_keys.specs.Insertion.{with_ranges}
use Rattle.fdb_keys.specs.Ranges.{Range, in_set, is_apart}
use Rattle.fdb_keys.proofs.ApartLemmas.{same_list, apart-with_ranges, in_with_ranges}
use Rattle.fdb_keys.proofs.range_set.RangeSet.add_set.Goals as goal

-- a set with nothing before it is itself
with-nothing : (ranges held : List Range) → is_apart ranges ≡ true → length held ≡ 0
    → ranges ≡ with_ranges ranges held
with-nothing ranges [] apart none =
    same_list ranges (with_ranges ranges []) apart (apart-with_ranges ranges [] refl)
    (λ x. sym (or-false (in_set ranges x)) ∙ sym (in_with_ranges ranges [] x))
with-nothing ranges (range ∷ held) apart none = cc

pub returns-then-is_empty-clause-list : goal.returns-then-is_empty-clause-list
returns-then-is_empty-clause-list c =
    let other = c.args.other.now in
    let copied : c.drop.inside.ranges ≡ other = search rules in
    let apart : is_apart other ≡ true = search rules in
    let none : length c.args.self.now ≡ 0 = eqb-true _ _ (search rules) in
    copied ∙ with-nothing other c.args.self.now apart none
