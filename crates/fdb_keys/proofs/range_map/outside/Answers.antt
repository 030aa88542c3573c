use Rattle.std.proofs.Common.{◌≡◌, ◌∙◌, sym, ap, ◌++◌, List, rules}
use Rattle.std.specs.BTreeMap.{values}
use Rattle.std.specs.List.{filter}
use Rattle.std.specs.Map.{values_of}
use Rattle.fdb_keys.specs.Points.{Point}
use Rattle.fdb_keys.specs.Ranges.{Range}
use Rattle.fdb_keys.specs.Removal.{range_between}
use Rattle.fdb_keys.specs.Touching.{last_by, begin_past}
use Rattle.fdb_keys.proofs.OutsideLemmas.{begins_inside, gaps, gaps-outside}
use Rattle.fdb_keys.proofs.PointOrder.{cmp_less}
use Rattle.fdb_keys.proofs.RangeMapLemmas.{values-inside}
use Rattle.fdb_keys.proofs.range_map.outside.Goals as goal

pub range-begin-items-requires : goal.range-begin-items-requires
range-begin-items-requires c =
    rw (c.begin_text-2.ensures, c.end_text.ensures.value)
    (cmp_less c.args.range.now.begin c.args.range.now.end c.requires.some)

pub loop-begin-init : goal.loop-begin-init
loop-begin-init c = (c.in_ok-reached.ensures.legal, search rules)

pub returns : goal.returns
returns c =
    let range = c.args.range.now in
    let ranges = values c.args.ranges.now in
    let left = c.loop-begin.left.items in
    let reached = c.loop-begin.reached in
    let pushed : c.push_between.new.ranges.items ≡ left ++ range_between reached range.end = search rules in
    let begins : c.in_ok-reached.reached ≡ begin_past range (last_by range.begin ranges) =
    c.in_ok-reached.ensures.value
    ∙ ap (begin_past range) (c.last_by.ensures ∙ ap (λ (x : Point). last_by x ranges) c.begin_text.ensures) in
    let inside : values_of c.into_iter-begin-iterator.result ≡ filter (begins_inside range) ranges =
    values-inside range c.begin_text-2.result.now c.end_text.result.now c.args.ranges.now.entries
    c.into_iter-begin-iterator.result c.requires.keyed c.begin_text-2.ensures c.end_text.ensures.value
    (c.into_iter-begin-iterator.ensures.into_iter_gives ∙ c.range-begin-items.ensures.between tt) in
    pushed
    ∙ ap (λ l. left ++ gaps reached range.end (values_of l)) (sym c.in-None.ensures.steps.0)
    ∙ c.loop-begin.invariant.1
    ∙ ap (λ (l : List Range). gaps c.in_ok-reached.reached range.end l) inside
    ∙ ap (λ (x : Point). gaps x range.end (filter (begins_inside range) ranges)) begins
    ∙ gaps-outside range ranges c.requires.apart
