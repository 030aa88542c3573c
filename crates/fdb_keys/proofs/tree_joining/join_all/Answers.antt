use Rattle.std.proofs.Common.{◌≡◌, ◌∙◌, sym, ap, List, ◌∷◌, rules}
use Rattle.std.specs.BTreeMap.{values}
use Rattle.std.specs.List.{fold}
use Rattle.std.specs.Slice.Iter.{iter_rest}
use Rattle.fdb_keys.specs.Insertion.{with_range}
use Rattle.fdb_keys.specs.Ranges.{Range}
use Rattle.fdb_keys.specs.Touching.{joined_with_touched}
use Rattle.fdb_keys.proofs.tree_joining.join_all.Goals as goal

-- the set with one more of the ranges joined onto it, and then with the others
one_more : (ranges set left rest next whole : List Range) (range : Range) → rest ≡ range ∷ left
    → next ≡ with_range (joined_with_touched range ranges) set
    → fold (λ l r. with_range (joined_with_touched r ranges) l) set rest ≡ whole
    → fold (λ l r. with_range (joined_with_touched r ranges) l) next left ≡ whole
one_more ranges set left rest next whole range steps added all =
    ap (λ (s : List Range). fold (λ l r. with_range (joined_with_touched r ranges) l) s left) added
    ∙ ap (λ (r : List Range). fold (λ l r. with_range (joined_with_touched r ranges) l) set r) (sym steps)
    ∙ all

pub loop-range-preserved-in_ok-add : goal.loop-range-preserved-in_ok-add
loop-range-preserved-in_ok-add c =
    let ranges = values c.args.ranges.now in
    let range = c.in-Some.range.now in
    let set = c.loop-range.joined in
    let left = iter_rest c.next.new.self in
    let steps : iter_rest c.loop-range.range-iterator ≡ range ∷ left = search rules in
    let one : c.in_ok-one.one ≡ joined_with_touched range ranges = search rules in
    let added : c.add.new.self ≡ with_range c.in_ok-one.one set = search rules in
    one_more ranges set left (iter_rest c.loop-range.range-iterator) c.add.new.self _ range steps
    (added ∙ ap (λ (r : Range). with_range r set) one) c.loop-range.invariant

pub loop-range-preserved : goal.loop-range-preserved
loop-range-preserved c =
    let ranges = values c.args.ranges.now in
    let range = c.in-Some.range.now in
    let set = c.loop-range.joined in
    let left = iter_rest c.next.new.self in
    let steps : iter_rest c.loop-range.range-iterator ≡ range ∷ left = search rules in
    let one : c.in_ok-one.one ≡ joined_with_touched range ranges = search rules in
    let added : c.add.new.self ≡ with_range c.in_ok-one.one set = search rules in
    one_more ranges set left (iter_rest c.loop-range.range-iterator) c.add.new.self _ range steps
    (added ∙ ap (λ (r : Range). with_range r set) one) c.loop-range.invariant
