use Rattle.std.proofs.Common.{◌≡◌, ◌∙◌, sym, ap, true, false, List, rules}
use Rattle.std.specs.BTreeMap.{values, insert_entry}
use Rattle.std.specs.Cmp.Lexicographic.{slice_cmp}
use Rattle.std.specs.Ordering.{nat_cmp}
use Rattle.std.proofs.lemmas.Bool.{not-false, cond-true, cond-false}
use Rattle.fdb_keys.specs.Insertion.{inserted}
use Rattle.fdb_keys.specs.Points.{Point, point_lt}
use Rattle.fdb_keys.specs.RangeMaps.{AreUnderBegins, begins_within, without_points}
use Rattle.fdb_keys.specs.Ranges.{Range, in_set, is_apart, is_empty_range}
use Rattle.fdb_keys.specs.Touching.{last_by, ends_by}
use Rattle.fdb_keys.proofs.ApartLemmas.{in_with_range, with_range-held}
use Rattle.fdb_keys.proofs.RangeMapLemmas.{added-is}
use Rattle.fdb_keys.proofs.TouchedLemmas.{some_touched, held_by_last}
use Rattle.fdb_keys.proofs.tree_range_set.TreeRangeSet.add.Goals as goal
use Rattle.fdb_keys.proofs.tree_range_set.TreeRangeSet.add.Goals.{After-drop-others-2, then-is_empty-via-then-is_empty}
use Rattle.fdb_keys.proofs.tree_range_set.TreeRangeSet.add.Goals.{then-is_empty-via-else-is_empty+then-is_held}

pub returns-then-is_empty-clause-list : goal.returns-then-is_empty-clause-list
returns-then-is_empty-clause-list c =
    let range = c.args.range.now in
    let ranges = values c.self.inside.ranges in
    let apart : is_apart c.args.self.now ≡ true = sym (ap is_apart c.self.view_is) ∙ c.self.invariant.1 in
    sym (elim c.then-is_empty.branch [
      | then-is_empty-via-then-is_empty w ↦
          let empty : is_empty_range range ≡ true = search rules in
          cond-true _ _ _ empty
      | then-is_empty-via-else-is_empty+then-is_held w ↦
          let ends : ends_by range (last_by range.begin ranges) ≡ true =
          sym
          (w.is_held.ensures
          ∙ ap (ends_by range) (c.last_by-first.ensures ∙ ap (λ (x : Point). last_by x ranges) c.begin_text.ensures))
          ∙ w.if-is_held.true in
          with_range-held range c.args.self.now apart (λ x inside.
          sym (ap (λ (l : List Range). in_set l x) c.self.view_is)
          ∙ held_by_last range ranges c.self.invariant.1 ends x inside)
    ])

pub returns-then-is_empty-clause-answers : goal.returns-then-is_empty-clause-answers
returns-then-is_empty-clause-answers c = λ x.
    ap (λ (l : List Range). in_set l x) (returns-then-is_empty-clause-list c)
    ∙ in_with_range c.args.range.now c.args.self.now x

pub list_begins_within-requires : goal.list_begins_within-requires
list_begins_within-requires c =
    let range = c.args.range.now in
    let some : point_lt range.begin range.end ≡ true = not-false _ (search rules) in
    ap (λ (r : Range). point_lt r.begin r.end) c.in_ok-joined.ensures
    ∙ some_touched range (values c.self.inside.ranges) some c.self.invariant.1

-- the map then has the list with the range inserted
made : (c : After-drop-others-2)
    → (values c.replace.new.ranges ≡ inserted c.args.range.now (values c.self.inside.ranges))
    × AreUnderBegins c.replace.new.ranges.entries × (is_apart (values c.replace.new.ranges) ≡ true)
made c =
    let range = c.args.range.now in
    let joined = c.in_ok-joined.joined in
    let entries = c.self.inside.ranges.entries in
    let some : point_lt range.begin range.end ≡ true = not-false _ (search rules) in
    let others : c.as_slice.result.now ≡ begins_within joined entries =
    c.as_slice.ensures.value ∙ c.in_ok-others.ensures in
    added-is range joined entries c.replace.new.ranges.entries some c.self.invariant.0 c.self.invariant.1
    c.in_ok-joined.ensures
    (c.in_ok-replace.ensures.ok
    ∙ ap (λ keys. without_points keys (insert_entry (slice_cmp nat_cmp) entries joined.begin joined)) others)

pub invariant_of-self-2 : goal.invariant_of-self-2
invariant_of-self-2 c = ((made c).1, (made c).2)

pub returns-clause-list : goal.returns-clause-list
returns-clause-list c =
    let some : is_empty_range c.args.range.now ≡ false = search rules in
    (made c).0 ∙ ap (inserted c.args.range.now) c.self.view_is ∙ sym (cond-false _ _ _ some)

pub returns-clause-answers : goal.returns-clause-answers
returns-clause-answers c = λ x.
    ap (λ (l : List Range). in_set l x) (returns-clause-list c) ∙ in_with_range c.args.range.now c.args.self.now x
