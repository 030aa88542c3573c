use Rattle.std.proofs.Common.{◌≡◌, ◌∙◌, ap, List, rules}
use Rattle.fdb_keys.specs.Ranges.{Range, in_set, is_apart}
use Rattle.fdb_keys.specs.Removal.{without_range}
use Rattle.fdb_keys.proofs.RemovalLemmas.{in_without, apart-without}
use Rattle.fdb_keys.proofs.range_set.RangeSet.remove.Goals as goal

pub invariant_of-self : goal.invariant_of-self
invariant_of-self c =
    let left : c.from_items.result ≡ without_range c.args.range.now c.self.inside.ranges = search rules in
    ap is_apart left ∙ apart-without c.args.range.now c.self.inside.ranges c.self.invariant

pub returns-clause-answers : goal.returns-clause-answers
returns-clause-answers c = λ x.
    let left : c.from_items.result ≡ without_range c.args.range.now c.args.self.now = search rules in
    ap (λ (l : List Range). in_set l x) left ∙ in_without c.args.range.now c.args.self.now x
