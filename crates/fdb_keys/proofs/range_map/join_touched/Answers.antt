use Rattle.std.proofs.Common.{◌≡◌, ◌∙◌, ap, subst, IfOk, rules}
use Rattle.std.specs.BTreeMap.{values}
use Rattle.std.specs.Option.{option_copied}
use Rattle.fdb_keys.specs.Points.{Point}
use Rattle.fdb_keys.specs.Ranges.{Range}
use Rattle.fdb_keys.specs.Touching.{last_by, joined_where_touching}
use Rattle.fdb_keys.proofs.range_map.join_touched.Goals as goal

pub returns : goal.returns
returns c =
    let ranges = values c.args.ranges.now in
    let range = c.args.range.now in
    let last = λ (x : Point). last_by x ranges in
    let copied : c.in_ok-clone.field-0 ≡ range = search rules in
    let from_first : c.in_ok-from_first.from_first ≡ joined_where_touching range (last range.begin) =
    c.in_ok-from_first.ensures
    ∙ ap (λ (r : Range). joined_where_touching r (option_copied c.args.first)) copied
    ∙ ap (joined_where_touching range) c.requires.first in
    let to_last = ap (joined_where_touching c.in_ok-from_first.from_first)
    (c.last_by-last.ensures ∙ ap last c.end_text.ensures.value)
    ∙ ap (λ (first : Range). joined_where_touching first (last first.end)) from_first in
    subst (λ (r : Range). IfOk c.join_where_touching-2.result (λ joined. joined ≡ r)) to_last
    c.join_where_touching-2.ensures
