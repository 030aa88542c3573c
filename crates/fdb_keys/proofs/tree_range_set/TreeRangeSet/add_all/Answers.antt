use Rattle.std.proofs.Common.{◌≡◌, ◌∙◌, ap, ◌||◌, None, Result, Ok, Err, List}
use Rattle.std.specs.BTreeMap.{values}
use Rattle.fdb_keys.specs.declared.refusal.Refusal.{Refusal}
use Rattle.fdb_keys.specs.Answers.{Answers}
use Rattle.fdb_keys.specs.Insertion.{with_ranges}
use Rattle.fdb_keys.specs.Points.{Point}
use Rattle.fdb_keys.specs.Ranges.{Range, in_set}
use Rattle.fdb_keys.proofs.ApartLemmas.{in_with_ranges}
use Rattle.fdb_keys.proofs.tree_range_set.TreeRangeSet.add_all.Goals as goal

-- the set with all ranges has the points of both
points_of_all : {T : Type 0} (result : Result T Refusal) (added before ranges after : List Range) → before ≡ ranges
    → Answers result None (λ _. after ≡ with_ranges added before)
    → Answers result None (λ _. (x : Point) → in_set after x ≡ (in_set added x || in_set ranges x))
points_of_all (Ok given) added before ranges after same list = λ x.
    ap (λ (l : List Range). in_set l x) (list ∙ ap (with_ranges added) same) ∙ in_with_ranges added ranges x
points_of_all (Err why) added before ranges after same list = list

pub returns-clause-answers : goal.returns-clause-answers
returns-clause-answers c =
    points_of_all c.add_all.result c.args.ranges.now (values c.self.inside.ranges) c.args.self.now
    (values c.add_all.new.ranges) c.self.view_is c.add_all.ensures.answers
