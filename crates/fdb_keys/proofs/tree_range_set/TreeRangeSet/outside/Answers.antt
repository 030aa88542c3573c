use Rattle.std.proofs.Common.{◌≡◌, ◌∙◌, sym, ap, true, List, rules}
use Rattle.std.specs.BTreeMap.{values}
use Rattle.fdb_keys.specs.Ranges.{Range, in_set, is_apart, is_empty_range}
use Rattle.fdb_keys.specs.Removal.{outside}
use Rattle.fdb_keys.proofs.OutsideLemmas.{in_outside, apart-outside, outside-empty}
use Rattle.fdb_keys.proofs.tree_range_set.TreeRangeSet.outside.Goals as goal

pub returns-then-is_empty-clause-answers : goal.returns-then-is_empty-clause-answers
returns-then-is_empty-clause-answers c =
    let empty : is_empty_range c.args.range.now ≡ true = search rules in
    c.new.ensures ∙ sym (outside-empty c.args.self.now c.args.range.now empty)

pub returns-then-is_empty-clause-points : goal.returns-then-is_empty-clause-points
returns-then-is_empty-clause-points c = λ x.
    ap (λ (l : List Range). in_set l x) (returns-then-is_empty-clause-answers c)
    ∙ in_outside c.args.self.now c.args.range.now x

pub from_ranges-requires : goal.from_ranges-requires
from_ranges-requires c =
    ap is_apart c.in_ok-left.ensures ∙ apart-outside (values c.self.inside.ranges) c.args.range.now

pub returns-clause-points : goal.returns-clause-points
returns-clause-points c = λ x.
    let left : c.from_ranges.result ≡ outside c.args.self.now c.args.range.now = search rules in
    ap (λ (l : List Range). in_set l x) left ∙ in_outside c.args.self.now c.args.range.now x
