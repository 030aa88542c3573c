use Rattle.std.proofs.Common.{◌≡◌, ◌∙◌, sym, ap, ◌||◌, Bool, List, true, rules}
use Rattle.std.proofs.lemmas.Bool.{not-false}
use Rattle.fdb_keys.specs.Points.{point_lt}
use Rattle.fdb_keys.specs.Insertion.{inserted}
use Rattle.fdb_keys.specs.Ranges.{Range, in_set, is_apart, is_empty_range}
use Rattle.fdb_keys.proofs.InsertionLemmas.{in_range-empty, in_inserted, apart-inserted}
use Rattle.fdb_keys.proofs.range_set.RangeSet.add.Goals as goal

pub returns-then-is_empty-clause-answers : goal.returns-then-is_empty-clause-answers
returns-then-is_empty-clause-answers c = λ x.
    let empty : is_empty_range c.args.range.now ≡ true = search rules in
    ap (λ (t : Bool). t || in_set c.args.self.now x) (sym (in_range-empty c.args.range.now x empty))

pub invariant_of-self-2 : goal.invariant_of-self-2
invariant_of-self-2 c =
    let ranges : c.put.new.ranges ≡ inserted c.args.range.now c.self.inside.ranges =
    c.in_ok-put.ensures.ok ∙ rw (c.as_slice.ensures) at c.in_ok-start.ensures.list in
    let some : point_lt c.args.range.now.begin c.args.range.now.end ≡ true = not-false _ (search rules) in
    ap is_apart ranges ∙ apart-inserted c.args.range.now c.self.inside.ranges some c.self.invariant

pub returns-clause-answers : goal.returns-clause-answers
returns-clause-answers c = λ x.
    let ranges : c.put.new.ranges ≡ inserted c.args.range.now c.args.self.now =
    c.in_ok-put.ensures.ok ∙ rw (c.as_slice.ensures) at c.in_ok-start.ensures.list
    ∙ ap (inserted c.args.range.now) c.self.view_is in
    ap (λ (l : List Range). in_set l x) ranges ∙ in_inserted c.args.range.now c.args.self.now x
