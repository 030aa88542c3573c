use Rattle.std.proofs.Common.{◌∙◌, sym, ap, List}
use Rattle.std.specs.BTreeMap.{values}
use Rattle.fdb_keys.specs.Touching.{last_by}
use Rattle.fdb_keys.specs.Points.{Point}
use Rattle.fdb_keys.specs.Ranges.{Range, in_set}
use Rattle.fdb_keys.proofs.LastLemmas.{in_set-last, is_in_found}
use Rattle.fdb_keys.proofs.tree_range_set.TreeRangeSet.contains.Goals as goal

pub returns-in-Some-clause-value : goal.returns-in-Some-clause-value
returns-in-Some-clause-value c =
    let ranges = values c.self.inside.ranges in
    c.contains.ensures
    ∙ ap (is_in_found c.args.key.now) (c.in-Some.ensures ∙ ap (λ (x : Point). last_by x ranges) c.text.ensures.value)
    ∙ sym (in_set-last c.args.key.now ranges c.self.invariant.1)
    ∙ ap (λ (l : List Range). in_set l c.args.key.now) c.self.view_is

pub returns-in-None-clause-value : goal.returns-in-None-clause-value
returns-in-None-clause-value c =
    let ranges = values c.self.inside.ranges in
    ap (is_in_found c.args.key.now) (c.in-None.ensures ∙ ap (λ (x : Point). last_by x ranges) c.text.ensures.value)
    ∙ sym (in_set-last c.args.key.now ranges c.self.invariant.1)
    ∙ ap (λ (l : List Range). in_set l c.args.key.now) c.self.view_is
